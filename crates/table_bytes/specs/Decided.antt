-- Table bytes are decided by their own bytes: a refusal other than 1, or none, stays so whatever bytes come behind (`refusal_decided`);
-- and bytes that are refused by 1, as cut, are fewer than the longest table has (`cut_short`).
-- Assumes nothing.
use Prim.Native.Nat.{ℕ, zero, suc, ◌+◌, ◌*◌, ◌≤◌, ◌<◌}
use Rattle.std.specs.Prelude.{◌≡◌, not, ◌&&◌, List, ◌++◌, ltb}
use Rattle.std.proofs.Math.Path.{refl, ap, ap₂}
use Rattle.std.proofs.Common.{◌∙◌, length-append}
use Rattle.std.proofs.Math.Decide.{dec_le}
use native.Mathlib.Omega.{arith}
use Rattle.std.proofs.Math.ListN.{length, get_or-append}
use borrow.Author.Tests.{le-ltb, lt-ltb}
use Rattle.basics.specs.Choice.{between, if_not, or_else_not}
use Rattle.basics.specs.Loops.{first_nonzero, first_nonzero_same, first_nonzero_not}
use Rattle.state.specs.State.{most_jobs, is_version, counts_of}
use Rattle.state.specs.WellFormed.{counts_within}
use Rattle.table_bytes.specs.Bytes.{byte, word, version_in, processors_in, jobs_in, objects_in, counts_in, entry_count, entries_start, table_length}
use Rattle.table_bytes.specs.Bytes.{entry_start, entry_rank, entry_object, entry_mode, order, order_before, processor_in}
use Rattle.table_bytes.specs.Refusals.{has_mark, header_refusal, most_entries, length_refusal, processor_byte_refusal_of, processor_byte_refusal}
use Rattle.table_bytes.specs.Refusals.{entry_refusal, entry_refusal_of, entries_refusal, table_refusal}
use Rattle.table_bytes.specs.AcceptedTable.{header_jobs}

-- ---- when bytes are refused as cut

pub cut_header : (b : List ℕ) → length b < 8 → table_refusal b ≡ 1
unfolding table_refusal header_refusal
cut_header b h = simp (lt-ltb (length b) 8 h)

cut_start : (b : List ℕ) → header_refusal b ≡ 0 → length b < entries_start b → table_refusal b ≡ 1
unfolding table_refusal length_refusal
cut_start b e h = simp (e, lt-ltb (length b) (entries_start b) h)

many : (b : List ℕ) → entries_start b ≤ length b → most_entries < entry_count b → length_refusal b ≡ 4
unfolding length_refusal
many b s h = simp (le-ltb (length b) (entries_start b) s, lt-ltb most_entries (entry_count b) h)

cut_table : (b : List ℕ) → header_refusal b ≡ 0 → entries_start b ≤ length b → entry_count b ≤ most_entries → length b < table_length b → table_refusal b ≡ 1
unfolding table_refusal length_refusal
cut_table b e s c h =
    simp (e, le-ltb (length b) (entries_start b) s, le-ltb most_entries (entry_count b) c, lt-ltb (length b) (table_length b) h)

whole : (b : List ℕ) → entries_start b ≤ length b → entry_count b ≤ most_entries → table_length b ≤ length b → length_refusal b ≡ 0
unfolding length_refusal
whole b s c h =
    simp (le-ltb (length b) (entries_start b) s, le-ltb most_entries (entry_count b) c, le-ltb (length b) (table_length b) h)

-- ---- some bytes, and more behind them

module _ (b more : List ℕ) where
  same : (i : ℕ) → i < length b → byte (b ++ more) i ≡ byte b i
  same i h = get_or-append b more 0 i h

  longer : length b ≤ length (b ++ more)
  longer = omega (arith, length-append b more)

  same_header : 8 ≤ length b → header_refusal (b ++ more) ≡ header_refusal b
  unfolding header_refusal
  same_header h =
      let l = longer in
      simp (
        same 0 (omega arith),
        same 1 (omega arith),
        same 2 (omega arith),
        same 3 (omega arith),
        same 4 (omega arith),
        same 5 (omega arith),
        same 6 (omega arith),
        same 7 (omega arith),
        le-ltb (length b) 8 h,
        le-ltb (length (b ++ more)) 8 (omega arith),
      )

  pub same_jobs : 8 ≤ length b → jobs_in (b ++ more) ≡ jobs_in b
  same_jobs h = same 6 (omega arith)

  pub same_counts : 8 ≤ length b → counts_in (b ++ more) ≡ counts_in b
  same_counts h =
      let v : version_in (b ++ more) ≡ version_in b = ap₂ (λ (x y : ℕ). x * 256 + y) (same 3 (omega arith)) (same 4 (omega arith)) in
      let p = same 5 (omega arith) in
      let o = same 7 (omega arith) in
      λ i. counts_of (v i) (p i) (same_jobs h i) (o i)

  same_start : 8 ≤ length b → entries_start (b ++ more) ≡ entries_start b
  same_start h = ap (λ (j : ℕ). 10 + j) (same_jobs h)

  pub same_count : 8 ≤ length b → entries_start b ≤ length b → entry_count (b ++ more) ≡ entry_count b
  same_count h s =
      ap (λ (j : ℕ). word (b ++ more) (8 + j)) (same_jobs h)
      ∙ ap₂ (λ (x y : ℕ). x * 256 + y) (same (8 + jobs_in b) (omega arith)) (same (8 + jobs_in b + 1) (omega arith))

  pub same_length : 8 ≤ length b → entries_start b ≤ length b → table_length (b ++ more) ≡ table_length b
  same_length h s = ap₂ (λ (x y : ℕ). x + 3 * y) (same_start h) (same_count h s)

  module _ (h : 8 ≤ length b) (s : entries_start b ≤ length b) (t : table_length b ≤ length b) where
    same_entry : (k i : ℕ) → k < entry_count b → i < 3 → byte (b ++ more) (entry_start (b ++ more) k + i) ≡ byte b (entry_start b k + i)
    same_entry k i l m =
        ap (λ (n : ℕ). byte (b ++ more) (n + 3 * k + i)) (same_start h)
        ∙ same (entry_start b k + i) (omega arith)

    pub same_rank : (k : ℕ) → k < entry_count b → entry_rank (b ++ more) k ≡ entry_rank b k
    same_rank k l =
        ap (λ (n : ℕ). byte (b ++ more) (n + 3 * k)) (same_start h) ∙ same (entry_start b k) (omega arith)

    pub same_object : (k : ℕ) → k < entry_count b → entry_object (b ++ more) k ≡ entry_object b k
    same_object k l = same_entry k 1 l (omega arith)

    pub same_mode : (k : ℕ) → k < entry_count b → entry_mode (b ++ more) k ≡ entry_mode b k
    same_mode k l = same_entry k 2 l (omega arith)

    same_before : (k : ℕ) → k < entry_count b → order_before (b ++ more) k ≡ order_before b k
    same_before zero l = refl
    same_before (suc k) l = ap₂ order (same_rank k (omega arith)) (same_object k (omega arith))

    same_processors : processor_byte_refusal (b ++ more) ≡ processor_byte_refusal b
    unfolding processor_byte_refusal
    same_processors =
        ap (λ (n : ℕ). first_nonzero n (processor_byte_refusal_of (b ++ more))) (same_jobs h)
        ∙ first_nonzero_same (jobs_in b) (processor_byte_refusal_of (b ++ more)) (processor_byte_refusal_of b) each
      where
        each : (i : ℕ) → 1 ≤ i → i ≤ jobs_in b → processor_byte_refusal_of (b ++ more) i ≡ processor_byte_refusal_of b i
        each zero l m = refl
        each (suc k) l m = simp (same 5 (omega arith), same (8 + k) (omega arith))

    same_entries : entries_refusal (b ++ more) ≡ entries_refusal b
    unfolding entries_refusal
    same_entries =
        ap (λ (n : ℕ). first_nonzero n (entry_refusal_of (b ++ more))) (same_count h s)
        ∙ first_nonzero_same (entry_count b) (entry_refusal_of (b ++ more)) (entry_refusal_of b) each
      where
        each : (i : ℕ) → 1 ≤ i → i ≤ entry_count b → entry_refusal_of (b ++ more) i ≡ entry_refusal_of b i
        each zero l m = refl
        each (suc k) l m =
            ap₂ (λ (x y : ℕ). entry_refusal x y (order_before (b ++ more) k) (entry_rank (b ++ more) k) (entry_object (b ++ more) k) (entry_mode (b ++ more) k)) (same_jobs h) (same 7 (omega arith))
            ∙ ap₂ (λ (x y : ℕ). entry_refusal (jobs_in b) (objects_in b) x y (entry_object (b ++ more) k) (entry_mode (b ++ more) k)) (same_before k m) (same_rank k m)
            ∙ ap₂ (λ (x y : ℕ). entry_refusal (jobs_in b) (objects_in b) (order_before b k) (entry_rank b k) x y) (same_object k m) (same_mode k m)

  -- the refusal of bytes that are not cut is that of more bytes
  pub refusal_decided : (table_refusal b ≡ 1 → ⊥) → table_refusal (b ++ more) ≡ table_refusal b
  unfolding table_refusal
  refusal_decided d = elim (dec_le 8 (length b)) [
    | no n ↦ absurd (d (cut_header b (omega arith)))
    | yes h ↦ header h (header_refusal b) refl
  ]
    where
      after_count : (h : 8 ≤ length b) → header_refusal b ≡ 0 → entries_start b ≤ length b → entry_count b ≤ most_entries
          → table_refusal (b ++ more) ≡ table_refusal b
      after_count h e s c = elim (dec_le (table_length b) (length b)) [
        | no n ↦ absurd (d (cut_table b e s c (omega arith)))
        | yes t ↦
            let none : length_refusal b ≡ 0 = whole b s c t in
            let none' : length_refusal (b ++ more) ≡ 0 =
            whole (b ++ more) (omega (arith, longer, same_start h)) (omega (arith, same_count h s)) (omega (arith, longer, same_length h s)) in
            simp (same_header h, none, none', same_processors h s t, same_entries h s t)
      ]

      after_start : (h : 8 ≤ length b) → header_refusal b ≡ 0 → entries_start b ≤ length b → table_refusal (b ++ more) ≡ table_refusal b
      after_start h e s = elim (dec_le (entry_count b) most_entries) [
        | yes c ↦ after_count h e s c
        | no n ↦
            let four : length_refusal b ≡ 4 = many b s (omega arith) in
            let four' : length_refusal (b ++ more) ≡ 4 = many (b ++ more) (omega (arith, longer, same_start h)) (omega (arith, same_count h s)) in
            simp (same_header h, e, four, four')
      ]

      header : (h : 8 ≤ length b) → (v : ℕ) → header_refusal b ≡ v → table_refusal (b ++ more) ≡ table_refusal b
      header h (suc v) e = simp (same_header h, e)
      header h zero e = elim (dec_le (entries_start b) (length b)) [
        | no n ↦ absurd (d (cut_start b e (omega arith)))
        | yes s ↦ after_start h e s
      ]

-- ---- bytes that are refused as cut are fewer than the longest table has

-- with the most jobs, and so processor bytes, and the most entries
abbrev pub longest_table : ℕ
longest_table = 10 + most_jobs + 3 * most_entries

module _ (b : List ℕ) where
  header_not_one : 8 ≤ length b → header_refusal b ≡ 1 → ⊥
  unfolding header_refusal
  header_not_one h e =
      let rest = simp (le-ltb (length b) 8 h) at e in
      if_not 1 2 (not (has_mark b)) _ (λ q. omega arith)
      (if_not 1 3 (not (is_version (version_in b))) _ (λ q. omega arith)
      (if_not 1 4 (not (counts_within (counts_in b))) 0 (λ q. omega arith) (λ q. omega arith))) rest

  processors_not_one : processor_byte_refusal b ≡ 1 → ⊥
  unfolding processor_byte_refusal
  processors_not_one = first_nonzero_not 1 (jobs_in b) (processor_byte_refusal_of b) (λ q. omega arith) each
    where
      each : (i : ℕ) → processor_byte_refusal_of b i ≡ 1 → ⊥
      each zero e = omega arith
      each (suc k) e = if_not 1 5 (not (ltb (processor_in b k) (processors_in b))) 0 (λ q. omega arith) (λ q. omega arith) e

  entries_not_one : entries_refusal b ≡ 1 → ⊥
  unfolding entries_refusal entry_refusal
  entries_not_one = first_nonzero_not 1 (entry_count b) (entry_refusal_of b) (λ q. omega arith) each
    where
      each : (i : ℕ) → entry_refusal_of b i ≡ 1 → ⊥
      each zero e = omega arith
      each (suc k) e =
          if_not 1 6 (not (between 1 (jobs_in b) (entry_rank b k) && between 1 (objects_in b) (entry_object b k) && between 1 3 (entry_mode b k))) _ (λ q. omega arith)
          (if_not 1 7 (not (ltb (order_before b k) (order (entry_rank b k) (entry_object b k)))) 0 (λ q. omega arith) (λ q. omega arith)) e

  whole_not_one : header_refusal b ≡ 0 → longest_table ≤ length b → length_refusal b ≡ 1 → ⊥
  whole_not_one ok h e =
      let j = header_jobs b ok in
      elim (dec_le (entry_count b) most_entries) [
        | yes c ↦ let none = whole b (omega arith) c (omega arith) in omega arith
        | no n ↦ let four = many b (omega arith) (omega arith) in omega arith
      ]

  pub cut_short : table_refusal b ≡ 1 → length b < longest_table
  unfolding table_refusal
  cut_short e = elim (dec_le longest_table (length b)) [
    | no n ↦ omega arith
    | yes h ↦ absurd (go h (header_refusal b) refl)
  ]
    where
      go : longest_table ≤ length b → (v : ℕ) → header_refusal b ≡ v → ⊥
      go h zero q =
          or_else_not 1 (length_refusal b) _ (whole_not_one q h)
          (or_else_not 1 (processor_byte_refusal b) (entries_refusal b) processors_not_one entries_not_one) (simp q at e)
      go h (suc v) q = header_not_one (omega arith) (q ∙ simp q at e)
