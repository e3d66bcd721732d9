-- One job's entries as a start and a length within the table bytes: behind the entries of smaller ranks, as many bytes as the part has that
-- `table::job_entries` hands back (`part_there`: those bytes are that part).
-- Assumes nothing.
use Prim.Native.Nat.{ℕ, zero, suc, ◌+◌, ◌-◌, ◌*◌, ◌≤◌, ◌<◌}
use Rattle.std.specs.Prelude.{◌≡◌, Bool, true, false, eqb, ltb, drop, if◌then◌else◌}
use Rattle.std.proofs.Math.Path.{refl, sym, ap}
use Rattle.std.proofs.Common.{◌∙◌, ⊎_elim, arith, add-one, le_refl, eq-or-lt_of_le, ltb-true, ltb-false, eq-eqb, ne_eqb, length-take-le}
use mathlib.Core.List.{List}
use Rattle.std.proofs.Math.Decide.{dec_le}
use Rattle.std.proofs.Math.ListN.{length, take, length-drop}
use Rattle.basics.specs.Loops.{one_if}
use Rattle.table_bytes.specs.Bytes.{entry_rank, entry_count, entry_start}
use Rattle.table_bytes.specs.AcceptedTable.{AcceptedTable, accepted_table}
use Rattle.table.specs.JobEntries.{job_entries_refusal, job_entries}
use Rattle.table.specs.JobPart.{FirstFrom, part, ranks_ascend, entries_together, job_accepted}

-- of the first n entries, how many are of smaller ranks
unfoldable pub smaller_entries : List ℕ → ℕ → ℕ → ℕ
smaller_entries b rank zero = 0
smaller_entries b rank (suc k) = smaller_entries b rank k + one_if (ltb (entry_rank b k) rank)

abbrev pub part_start : List ℕ → ℕ → ℕ
part_start b rank = entry_start b (smaller_entries b rank (entry_count b))

-- what the two lent cells hold afterwards; a refusal leaves what they held
abbrev pub start_cell : List ℕ → ℕ → ℕ → ℕ
start_cell b rank old = if eqb (job_entries_refusal b rank) 0 then part_start b rank else old

abbrev pub length_cell : List ℕ → ℕ → ℕ → ℕ
length_cell b rank old = if eqb (job_entries_refusal b rank) 0 then length (job_entries b rank) else old

module _ (b : List ℕ) (rank start size : ℕ) where
  pub cells_kept : (job_entries_refusal b rank ≡ 0 → ⊥) → (start_cell b rank start ≡ start) × (length_cell b rank size ≡ size)
  cells_kept d = (simp (ne_eqb (job_entries_refusal b rank) 0 d), simp (ne_eqb (job_entries_refusal b rank) 0 d))

  pub cells_filled : job_entries_refusal b rank ≡ 0 → (start_cell b rank start ≡ part_start b rank) × (length_cell b rank size ≡ length (job_entries b rank))
  cells_filled e = (simp (eq-eqb (job_entries_refusal b rank) 0 e), simp (eq-eqb (job_entries_refusal b rank) 0 e))

-- ---- how many are of smaller ranks

pub smaller_more : (b : List ℕ) (rank n : ℕ) → smaller_entries b rank (n + 1) ≡ smaller_entries b rank n + one_if (ltb (entry_rank b n) rank)
unfolding smaller_entries
smaller_more b rank n = rw add-one

pub one_if_le : (t : Bool) → one_if t ≤ 1
one_if_le true = omega arith
one_if_le false = omega arith

pub smaller_le : (b : List ℕ) (rank n : ℕ) → smaller_entries b rank n ≤ n
unfolding smaller_entries
smaller_le b rank zero = omega arith
smaller_le b rank (suc k) = omega (arith, smaller_le b rank k, one_if_le (ltb (entry_rank b k) rank))

-- ---- in accepted bytes the ranks ascend, so that the entries of smaller ranks stand first

-- of the first n entries, the first s are of smaller ranks and the others are not
record Split (b : List ℕ) (rank n s : ℕ) : Type 0 where
  pub smaller : (k : ℕ) → k < s → entry_rank b k < rank
  pub others : (k : ℕ) → s ≤ k → k < n → rank ≤ entry_rank b k

module _ (b : List ℕ) (a : AcceptedTable b) (rank : ℕ) where
  one_more : (k : ℕ) → k < entry_count b → Split b rank k (smaller_entries b rank k) → Split b rank (suc k) (smaller_entries b rank (suc k))
  unfolding smaller_entries
  one_more k h rest = go (ltb (entry_rank b k) rank) refl (dec_le k (smaller_entries b rank k))
    where
      n : ℕ
      n = smaller_entries b rank k

      go : (t : Bool) → ltb (entry_rank b k) rank ≡ t → Dec (k ≤ n) → Split b rank (suc k) (n + one_if t)
      go false e d = let l = ltb-false (entry_rank b k) rank e in record {
        smaller = λ i p. rest.smaller i (omega arith);
        others = λ i p q. (let u : i ≤ k = omega arith in ⊎_elim (λ s. omega (arith, ap (entry_rank b) s)) (λ s. rest.others i (omega arith) s) (eq-or-lt_of_le u));
      }
      go true e (yes l) = let below = ltb-true (entry_rank b k) rank e in let le = smaller_le b rank k in record {
        smaller = λ i p. (let q : i ≤ k = omega arith in ⊎_elim (λ s. omega (arith, ap (entry_rank b) s)) (λ s. rest.smaller i (omega arith)) (eq-or-lt_of_le q));
        others = λ i p q. absurd (omega arith);
      }
      go true e (no l) = let below = ltb-true (entry_rank b k) rank e in absurd (omega (arith, rest.others n (omega arith) (omega arith), ranks_ascend b a n k (omega arith) h))

  split : (n : ℕ) → n ≤ entry_count b → Split b rank n (smaller_entries b rank n)
  unfolding smaller_entries
  split zero h = record { smaller = λ k p. absurd (omega arith); others = λ k p q. absurd (omega arith) }
  split (suc n) h = one_more n (omega arith) (split n (omega arith))

module _ (b : List ℕ) (rank : ℕ) (accepted_rank : job_entries_refusal b rank ≡ 0) where
  bytes_accepted : AcceptedTable b
  bytes_accepted = accepted_table b (job_accepted b rank accepted_rank).bytes

  abbrev first : ℕ
  first = smaller_entries b rank (entry_count b)

  abbrev next : ℕ
  next = smaller_entries b (rank + 1) (entry_count b)

  from : FirstFrom b rank 0 first
  from =
      let s = split b bytes_accepted rank (entry_count b) (le_refl (entry_count b)) in
      record { low = omega arith; high = smaller_le b rank (entry_count b); before = λ k p q. s.smaller k p; there = λ p. s.others first (le_refl first) p }

  ordered : Dec (first ≤ next) → first ≤ next
  ordered (yes l) = l
  ordered (no l) =
      let s = split b bytes_accepted (rank + 1) (entry_count b) (le_refl (entry_count b)) in
      absurd (omega (arith, s.others next (le_refl next) (omega (arith, from.high)), from.before next (omega arith) (omega arith)))

  to : FirstFrom b (rank + 1) first next
  to =
      let s = split b bytes_accepted (rank + 1) (entry_count b) (le_refl (entry_count b)) in
      record {
        low = ordered (dec_le first next);
        high = smaller_le b (rank + 1) (entry_count b);
        before = λ k p q. s.smaller k p;
        there = λ p. s.others next (le_refl next) p;
      }

  -- the bytes that the start and the length mark are the part that `table::job_entries` hands back
  pub part_there : take (length (job_entries b rank)) (drop (part_start b rank) b) ≡ job_entries b rank
  unfolding job_entries
  part_there =
      let whole : job_entries b rank ≡ part b first next = simp (eq-eqb (job_entries_refusal b rank) 0 accepted_rank) (entries_together b bytes_accepted rank first next from to) in
      let room : 3 * (next - first) ≤ length (drop (entry_start b first) b) =
      simp length-drop (omega (arith, bytes_accepted.table_within, to.high, to.low)) in
      ap (λ (l : List ℕ). take (length l) (drop (entry_start b first) b)) whole
      ∙ ap (λ (n : ℕ). take n (drop (entry_start b first) b)) (length-take-le (3 * (next - first)) (drop (entry_start b first) b) room)
      ∙ sym whole
