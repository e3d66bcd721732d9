-- The table of the state that is read from accepted bytes has the bytes that were read.
-- After k entries the modes that are declared, written in order, give the bytes of those k entries back: the next entry is behind all of them.
-- Assumes nothing.
use Rattle.std.specs.Prelude.{◌≡◌, Bool, ◌||◌, get_or, drop}
use Rattle.std.proofs.Math.Path.{refl, ap, ap₂}
use Rattle.std.proofs.Common.{sym, ◌∙◌, le_refl, arith, take-suc, take-add, drop-drop, drop-cons, length-take-le}
use Rattle.std.proofs.Math.Bool.{true, false}
use mathlib.Core.List.{List, [], ◌∷◌, ◌++◌}
use Prim.Native.Nat.{ℕ, zero, suc, ◌+◌, ◌*◌, ◌/◌, ◌%◌, ◌≤◌, ◌<◌}
use Rattle.std.proofs.Math.Numerals.{towards_suc}
use Rattle.std.proofs.Math.ListN.{length, take, length-drop}
use Rattle.std.proofs.Math.Seq.{take_at}
use Rattle.basics.specs.Arrays.{at, at-zeros}
use Rattle.ranks.specs.Ranks.{member}
use Rattle.ranks.specs.RankLaws.{member_empty}
use Rattle.state.specs.State.{read, write, most_objects, zeros}
use Rattle.table_bytes.specs.Bytes.{byte, version_in, jobs_in, objects_in, counts_in, entry_count, entries_start, table_length, entry_rank, entry_object, entry_mode, order, order_before}
use Rattle.table_bytes.specs.AcceptedTable.{AcceptedTable, EntryFits}
use Rattle.table.specs.Reading.{gives_right, processors_of, declared_in, table_state}
use Rattle.table_writer.specs.Writing.{word_bytes, entries_bytes, table_bytes}
use Rattle.table_writer.specs.Laying.{declared_modes, entries_of_ranks, header_of}
use Rattle.table_writer.specs.EntryLaws.{state_entries}
use Rattle.table_writer.specs.RightLaws.{mode_of_rights, no_mode, mode_of_rights_lem, right_made, right_kept, length_declared}
use Rattle.table_writer.specs.EntryOrder.{entries_none, entries_add}

-- ---- two, three and eight bytes of a list

two : (l : List ℕ) (k : ℕ) → k + 2 ≤ length l → take 2 (drop k l) ≡ get_or l k 0 ∷ get_or l (k + 1) 0 ∷ []
two l k h =
    let a : k < length l = omega arith in
    let b : suc k < length l = omega arith in
    simp towards_suc (rw (drop-cons l k 0 a, drop-cons l (suc k) 0 b))

three : (l : List ℕ) (k : ℕ) → k + 3 ≤ length l → take 3 (drop k l) ≡ get_or l k 0 ∷ get_or l (k + 1) 0 ∷ get_or l (k + 2) 0 ∷ []
three l k h =
    let a : k < length l = omega arith in
    let b : suc k < length l = omega arith in
    let d : suc (suc k) < length l = omega arith in
    simp towards_suc (rw (drop-cons l k 0 a, drop-cons l (suc k) 0 b, drop-cons l (suc (suc k)) 0 d))

eight : (l : List ℕ) → 8 ≤ length l
    → take 8 l ≡ get_or l 0 0 ∷ get_or l 1 0 ∷ get_or l 2 0 ∷ get_or l 3 0 ∷ get_or l 4 0 ∷ get_or l 5 0 ∷ get_or l 6 0 ∷ get_or l 7 0 ∷ []
eight l h =
    take-suc l 7 0 (omega arith) ∙ ap (λ (t : List ℕ). t ++ (get_or l 7 0 ∷ []))
    (take-suc l 6 0 (omega arith) ∙ ap (λ (t : List ℕ). t ++ (get_or l 6 0 ∷ []))
    (take-suc l 5 0 (omega arith) ∙ ap (λ (t : List ℕ). t ++ (get_or l 5 0 ∷ []))
    (take-suc l 4 0 (omega arith) ∙ ap (λ (t : List ℕ). t ++ (get_or l 4 0 ∷ []))
    (take-suc l 3 0 (omega arith) ∙ ap (λ (t : List ℕ). t ++ (get_or l 3 0 ∷ []))
    (take-suc l 2 0 (omega arith) ∙ ap (λ (t : List ℕ). t ++ (get_or l 2 0 ∷ []))
    (take-suc l 1 0 (omega arith) ∙ ap (λ (t : List ℕ). t ++ (get_or l 1 0 ∷ [])) (take-suc l 0 0 (omega arith))))))))

module _ (b : List ℕ) (ok : AcceptedTable b) where
  -- ---- the entries

  -- the modes that the first k entries declare
  abbrev after : ℕ → ℕ → ℕ → ℕ
  after k = declared_modes (declared_in read b k) (declared_in write b k)

  module _ (k : ℕ) (l : k < entry_count b) where
    abbrev fits : EntryFits b k
    fits = ok.entry k l

    room : (m : ℕ) → entry_object b k ≤ length (declared_in m b k)
    room m = omega (arith, length_declared m b k, fits.object_high, ok.objects_high)

    -- entry k changes no other mode
    kept : (r o : ℕ) → 1 ≤ o → o ≤ most_objects → (order r o ≡ order (entry_rank b k) (entry_object b k) → ⊥) → after (suc k) r o ≡ after k r o
    unfolding declared_in
    kept r o low high d =
        let other : (entry_rank b k ≡ r) × (entry_object b k ≡ o) → ⊥ = λ z. d (omega (arith, z.0, z.1)) in
        ap₂ mode_of_rights
        (right_kept read (entry_rank b k) (entry_object b k) (entry_mode b k) (declared_in read b k) fits.object_low (room read) r o other)
        (right_kept write (entry_rank b k) (entry_object b k) (entry_mode b k) (declared_in write b k) fits.object_low (room write) r o other)

    -- and makes its own
    made : after k (entry_rank b k) (entry_object b k) ≡ 0 → after (suc k) (entry_rank b k) (entry_object b k) ≡ entry_mode b k
    unfolding declared_in
    made z =
        let none = no_mode (member (at (declared_in read b k) (entry_object b k)) (entry_rank b k)) (member (at (declared_in write b k) (entry_object b k)) (entry_rank b k)) z in
        ap₂ mode_of_rights
        (right_made read (entry_rank b k) (entry_object b k) (entry_mode b k) (declared_in read b k) fits.object_low (room read) fits.rank_low
        ∙ ap (λ (t : Bool). gives_right (entry_mode b k) read || t) none.0 ∙ or_none (gives_right (entry_mode b k) read))
        (right_made write (entry_rank b k) (entry_object b k) (entry_mode b k) (declared_in write b k) fits.object_low (room write) fits.rank_low
        ∙ ap (λ (t : Bool). gives_right (entry_mode b k) write || t) none.1 ∙ or_none (gives_right (entry_mode b k) write))
        ∙ mode_of_rights_lem (entry_mode b k) fits.mode_low fits.mode_high
      where
        or_none : (t : Bool) → t || false ≡ t
        or_none true = refl
        or_none false = refl

  -- behind the first k entries nothing is declared
  none_behind : (k : ℕ) → k ≤ entry_count b → (r o : ℕ) → 1 ≤ o → o ≤ most_objects → order_before b k < order r o → after k r o ≡ 0
  unfolding declared_in
  none_behind zero l r o low high h =
      let none : member (at (zeros most_objects) o) r ≡ false = ap (λ (n : ℕ). member n r) (at-zeros most_objects o) ∙ member_empty r in
      ap₂ mode_of_rights none none
  none_behind (suc k) l r o low high h =
      let e = ok.entry k l in
      kept k l r o low high (λ z. omega arith) ∙ none_behind k (omega arith) r o low high (omega (arith, e.after))

  -- the bytes of entry k
  entry_bytes_lem : (k : ℕ) → k < entry_count b → take (3 * suc k) (drop (entries_start b) b) ≡ take (3 * k) (drop (entries_start b) b) ++ (entry_rank b k ∷ entry_object b k ∷ entry_mode b k ∷ [])
  entry_bytes_lem k l =
      let rest = drop (entries_start b) b in
      let n : 3 * suc k ≡ 3 * k + 3 = omega arith in
      ap (λ (m : ℕ). take m rest) n ∙ take-add (3 * k) 3 rest
      ∙ ap (λ (t : List ℕ). take (3 * k) rest ++ t)
      (ap (take 3) (drop-drop (3 * k) (entries_start b) b) ∙ three b (entries_start b + 3 * k) (omega (arith, ok.table_within)))

  -- the first k entries are written as they were read
  entries_back : (k : ℕ) → k ≤ entry_count b → entries_of_ranks (after k) (objects_in b) (jobs_in b) ≡ take (3 * k) (drop (entries_start b) b)
  entries_back zero l =
      entries_none (after 0) (objects_in b) (jobs_in b) (λ r o a u v. none_behind 0 l r o u (omega (arith, ok.objects_high)) (omega arith))
  entries_back (suc k) l =
      let e = ok.entry k l in
      let most = ok.objects_high in
      let mode = made k l (none_behind k (omega arith) (entry_rank b k) (entry_object b k) e.object_low (omega arith) e.after) in
      entries_add (after k) (after (suc k)) (objects_in b) (jobs_in b) (entry_rank b k) (entry_object b k) most e.rank_low e.rank_high e.object_low e.object_high
      (λ r o a u v d. kept k l r o u (omega arith) d)
      (λ z. omega (arith, e.mode_low))
      (λ r o a u v g. none_behind k (omega arith) r o u (omega arith) (omega (arith, e.after)))
      ∙ ap₂ (λ (x : List ℕ) (m : ℕ). x ++ (entry_rank b k ∷ entry_object b k ∷ m ∷ [])) (entries_back k (omega arith)) mode
      ∙ sym (entry_bytes_lem k l)

  -- ---- the parts

  header_back : header_of (counts_in b) ≡ take 8 b
  header_back =
      let high : byte b 3 ≡ 0 = omega (arith, ok.version) in
      let low : byte b 4 ≡ version_in b = omega (arith, ok.version) in
      sym (eight b ok.long ∙ (λ i. ok.mark_first i ∷ ok.mark_second i ∷ ok.mark_third i ∷ high i ∷ low i ∷ byte b 5 ∷ byte b 6 ∷ byte b 7 ∷ []))

  processors_back : take (jobs_in b) (processors_of b) ≡ take (jobs_in b) (drop 8 b)
  unfolding processors_of
  processors_back =
      let long : jobs_in b ≤ length (drop 8 b) = simp length-drop (omega (arith, ok.start_within)) in
      take_at (take (jobs_in b) (drop 8 b)) _ (jobs_in b) (length-take-le (jobs_in b) (drop 8 b) long)

  all_back : entries_bytes (table_state b) ≡ take (3 * entry_count b) (drop (entries_start b) b)
  unfolding table_state
  all_back = state_entries (table_state b) ∙ entries_back (entry_count b) (le_refl (entry_count b))

  all_third : length (take (3 * entry_count b) (drop (entries_start b) b)) / 3 ≡ entry_count b
  all_third =
      let long : 3 * entry_count b ≤ length (drop (entries_start b) b) = simp length-drop (omega (arith, ok.table_within)) in
      let n = length-take-le (3 * entry_count b) (drop (entries_start b) b) long in
      omega arith

  count_back : byte b (8 + jobs_in b) < 256 → byte b (8 + jobs_in b + 1) < 256 → word_bytes (entry_count b) ≡ take 2 (drop (8 + jobs_in b) b)
  count_back h l =
      let n = ok.count_high in
      let p : entry_count b / 256 % 256 ≡ byte b (8 + jobs_in b) = omega arith in
      let q : entry_count b % 256 ≡ byte b (8 + jobs_in b + 1) = omega arith in
      sym (two b (8 + jobs_in b) (omega (arith, ok.start_within)) ∙ (λ i. sym p i ∷ sym q i ∷ []))

  parts_back : take 8 b ++ take (jobs_in b) (drop 8 b) ++ take 2 (drop (8 + jobs_in b) b) ++ take (3 * entry_count b) (drop (entries_start b) b) ≡ take (table_length b) b
  parts_back =
      let e : entries_start b ≡ 8 + jobs_in b + 2 = omega arith in
      ap (λ (t : List ℕ). t ++ take 2 (drop (8 + jobs_in b) b) ++ take (3 * entry_count b) (drop (entries_start b) b)) (sym (take-add 8 (jobs_in b) b))
      ∙ ap (λ (t : List ℕ). t ++ take (3 * entry_count b) (drop (entries_start b) b)) (sym (take-add (8 + jobs_in b) 2 b))
      ∙ ap (λ (k : ℕ). take (8 + jobs_in b + 2) b ++ take (3 * entry_count b) (drop k b)) e
      ∙ sym (take-add (8 + jobs_in b + 2) (3 * entry_count b) b)
      ∙ ap (λ (k : ℕ). take (k + 3 * entry_count b) b) (sym e)

  pub table_back : ((i : ℕ) → byte b i < 256) → table_bytes (table_state b) ≡ take (table_length b) b
  unfolding table_bytes table_state
  table_back bytes =
      ap (λ (l : List ℕ). header_of (counts_in b) ++ take (jobs_in b) (processors_of b) ++ word_bytes (length l / 3) ++ l) all_back
      ∙ (λ i. header_back i ++ processors_back i ++ (ap word_bytes all_third ∙ count_back (bytes (8 + jobs_in b)) (bytes (8 + jobs_in b + 1))) i
      ++ take (3 * entry_count b) (drop (entries_start b) b))
      ∙ parts_back
