-- One job's entries are one part of accepted table bytes: the entries ascend by rank, so those of one rank stand together,
-- from the first of that rank or a greater one to the first of a greater one (`entries_together`).
-- Assumes nothing.
use Prim.Native.Nat.{ℕ, zero, suc, ◌+◌, ◌-◌, ◌*◌, ◌≤◌, ◌<◌, min}
use Rattle.std.specs.Prelude.{◌≡◌, ◌⊎◌, not, drop}
use Rattle.std.proofs.Math.Path.{sym, ap}
use Rattle.std.proofs.Common.{◌∙◌, inl, inr, le_refl, eq-or-lt_of_le, eq-eqb, ne_eqb, take-add, drop-drop}
use mathlib.Core.List.{List, ◌++◌, append-nil}
use Rattle.std.proofs.Math.Decide.{dec_le}
use native.Mathlib.Omega.{arith}
use Rattle.std.proofs.lemmas.Bool.{not-false}
use Rattle.std.proofs.Math.ListN.{take}
use Rattle.basics.specs.Choice.{◌if◌else◌, between, between_true, if_zero, or_else_zero}
use Rattle.basics.specs.Loops.{joined}
use Rattle.table_bytes.specs.Bytes.{jobs_in, entry_rank, entry_count, entry_start}
use Rattle.table_bytes.specs.Refusals.{table_refusal}
use Rattle.table.specs.JobEntries.{entry_of, entries_of, job_entries_refusal}
use Rattle.table_bytes.specs.AcceptedTable.{AcceptedTable}

-- r is the first entry from `start` on of the rank or a greater one, counted from 0; the entry count if there is none
pub record FirstFrom (b : List ℕ) (rank start r : ℕ) : Type 0 where
  pub low : start ≤ r
  pub high : r ≤ entry_count b
  pub before : (k : ℕ) → k < r → start ≤ k → entry_rank b k < rank
  pub there : r < entry_count b → rank ≤ entry_rank b r

-- the bytes of the entries from `first` up to `next`
abbrev pub part : List ℕ → ℕ → ℕ → List ℕ
part b first next = take (3 * (next - first)) (drop (entry_start b first) b)

-- one entry more
part_more : (b : List ℕ) (first k : ℕ) → first ≤ k → part b first k ++ take 3 (drop (entry_start b k) b) ≡ part b first (suc k)
part_more b first k h =
    let rest = drop (entry_start b first) b in
    let size : 3 * (suc k - first) ≡ 3 * (k - first) + 3 = omega arith in
    let place : entry_start b first + 3 * (k - first) ≡ entry_start b k = omega arith in
    sym (ap (λ (n : ℕ). take n rest) size
    ∙ take-add (3 * (k - first)) 3 rest
    ∙ ap (λ (l : List ℕ). part b first k ++ take 3 l) (drop-drop (3 * (k - first)) (entry_start b first) b ∙ ap (λ (n : ℕ). drop n b) place))

module _ (b : List ℕ) (a : AcceptedTable b) where
  pub ranks_ascend : (j k : ℕ) → j ≤ k → k < entry_count b → entry_rank b j ≤ entry_rank b k
  ranks_ascend j zero h l = let same : j ≡ 0 = omega arith in omega (arith, ap (entry_rank b) same)
  ranks_ascend j (suc k) h l = go (ranks_ascend j k) (eq-or-lt_of_le h)
    where
      go : (j ≤ k → k < entry_count b → entry_rank b j ≤ entry_rank b k) → (j ≡ suc k) ⊎ (j < suc k) → entry_rank b j ≤ entry_rank b (suc k)
      go rest (inl e) = omega (arith, ap (entry_rank b) e)
      go rest (inr s) =
          let e = a.entry (suc k) l in
          omega (arith, rest (omega arith) (omega arith))

module _ (b : List ℕ) (a : AcceptedTable b) (rank first next : ℕ) (from : FirstFrom b rank 0 first) (to : FirstFrom b (rank + 1) first next) where
  -- the entries before, of the rank, and behind
  before : (k : ℕ) → k < first → entry_rank b k ≡ rank → ⊥
  before k l e = omega (arith, from.before k l (omega arith))

  own : (k : ℕ) → first ≤ k → k < next → entry_rank b k ≡ rank
  own k l h =
      let some : first < entry_count b = omega arith in
      omega (arith, to.before k h l, from.there some, ranks_ascend b a first k l (omega arith))

  behind : (k : ℕ) → next ≤ k → k < entry_count b → entry_rank b k ≡ rank → ⊥
  behind k l h e =
      let some : next < entry_count b = omega arith in
      omega (arith, to.there some, ranks_ascend b a next k l h)

  -- of the first k entries
  abbrev Joined : ℕ → Type 0
  Joined k = joined k (entry_of b rank) ≡ part b first (min k next)

  skipped : (k : ℕ) → (entry_rank b k ≡ rank → ⊥) → min (suc k) next - first ≡ min k next - first → Joined k → Joined (suc k)
  unfolding joined
  skipped k d e rest =
      simp (ne_eqb (entry_rank b k) rank d)
      (append-nil (joined k (entry_of b rank)) ∙ rest ∙ sym (ap (λ (n : ℕ). take (3 * n) (drop (entry_start b first) b)) e))

  taken : (k : ℕ) → first ≤ k → k < next → Joined k → Joined (suc k)
  unfolding joined
  taken k l h rest =
      let here : min k next ≡ k = omega arith in
      let there : suc k ≡ min (suc k) next = omega arith in
      simp (eq-eqb (entry_rank b k) rank (own k l h))
      (ap (λ (t : List ℕ). t ++ take 3 (drop (entry_start b k) b)) (rest ∙ ap (part b first) here) ∙ part_more b first k l ∙ ap (part b first) there)

  joined_part : (k : ℕ) → k ≤ entry_count b → Joined k
  unfolding joined
  joined_part zero l = let none : 0 ≡ 3 * (min 0 next - first) = omega arith in ap (λ (n : ℕ). take n (drop (entry_start b first) b)) none
  joined_part (suc k) l = go (joined_part k (omega arith)) (dec_le first k) (dec_le next k)
    where
      up : first ≤ next
      up = to.low

      go : Joined k → Dec (first ≤ k) → Dec (next ≤ k) → Joined (suc k)
      go rest (no n) d = skipped k (before k (omega arith)) (omega arith) rest
      go rest (yes p) (yes q) = skipped k (behind k q l) (omega arith) rest
      go rest (yes p) (no n) = taken k p (omega arith) rest

  pub entries_together : entries_of b rank ≡ part b first next
  unfolding entries_of
  entries_together =
      let all : min (entry_count b) next ≡ next = omega (arith, to.high) in
      joined_part (entry_count b) (le_refl (entry_count b)) ∙ ap (part b first) all

-- where one job's entries are not refused, the bytes are accepted and have the rank
pub record JobAccepted (b : List ℕ) (rank : ℕ) : Type 0 where
  pub bytes : table_refusal b ≡ 0
  pub rank_low : 1 ≤ rank
  pub rank_high : rank ≤ jobs_in b

pub job_accepted : (b : List ℕ) (rank : ℕ) → job_entries_refusal b rank ≡ 0 → JobAccepted b rank
unfolding job_entries_refusal
job_accepted b rank e =
    let both = or_else_zero (table_refusal b) (10 if not (between 1 (jobs_in b) rank) else 0) e in
    let inside = between_true 1 (jobs_in b) rank (not-false _ (if_zero 9 (not (between 1 (jobs_in b) rank)) 0 both.1).0) in
    record { bytes = both.0; rank_low = inside.0; rank_high = inside.1 }
