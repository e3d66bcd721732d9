-- The entries of a table: one entry and its mode; a rank's entries and all entries, one more at a time; how many there are.
-- Assumes nothing.
use Rattle.std.specs.Prelude.{◌≡◌, refl, Bool, true, false, ◌||◌, List, [], ◌∷◌, ◌++◌, ℕ, zero, suc, ◌+◌, ◌*◌, ◌^◌, ◌≤◌, ◌<◌, if◌then◌else◌}
use Rattle.std.proofs.Math.Path.{sym, ap}
use Rattle.std.proofs.Common.{◌∙◌, length-append}
use Rattle.std.proofs.Math.ListN.{length}
use Rattle.basics.specs.Loops.{joined_more, sum, one_if, sum_same, sum_times, sum_swap, length-joined}
use Rattle.basics.specs.Arrays.{at}
use Rattle.ranks.specs.Ranks.{member, union}
use Rattle.ranks.specs.UnionLaws.{member_union, size_counts}
use Rattle.state.specs.declared.State.{State}
use Rattle.table_writer.specs.Writing.{entry_bytes, rank_bytes, entries_bytes}
use Rattle.table_writer.specs.Laying.{declared_mode_of, declared_modes, entries_of_rank, entries_of_ranks, entries_on, entry_total}
use Rattle.basics.specs.JoinedLaws.{joined_grows}

-- ---- one entry

pub entry_none : (rank object mode : ℕ) → mode ≡ 0 → entry_bytes rank object mode ≡ []
entry_none rank object mode e = ap (entry_bytes rank object) e

pub entry_some : (rank object mode : ℕ) → (mode ≡ 0 → ⊥) → entry_bytes rank object mode ≡ rank ∷ object ∷ mode ∷ []
entry_some rank object zero h = absurd (h refl)
entry_some rank object (suc m) h = refl

-- a rank has an entry for an object if it may read or write it
entry_length : (reading writing rank object : ℕ)
    → length (entry_bytes rank object (declared_mode_of reading writing rank)) ≡ 3 * one_if (member (union reading writing) rank)
entry_length reading writing rank object =
    go (member reading rank) (member writing rank) ∙ ap (λ (t : Bool). 3 * one_if t) (sym (member_union reading writing rank))
  where
    go : (s t : Bool) → length (entry_bytes rank object ((if s then 1 else 0) + (if t then 2 else 0))) ≡ 3 * one_if (s || t)
    go false false = refl
    go false true = refl
    go true false = refl
    go true true = refl

-- ---- one more

module _ (mode : ℕ → ℕ → ℕ) where
  pub rank_more : (r k : ℕ) → entries_of_rank mode r (k + 1) ≡ entries_of_rank mode r k ++ entry_bytes r (k + 1) (mode r (k + 1))
  unfolding entries_of_rank
  rank_more r k = joined_more k (λ o. entry_bytes r o (mode r o))

  pub rank_more_length : (r k : ℕ) → length (entries_of_rank mode r (k + 1)) ≡ length (entries_of_rank mode r k) + length (entry_bytes r (k + 1) (mode r (k + 1)))
  rank_more_length r k = ap length (rank_more r k) ∙ length-append (entries_of_rank mode r k) (entry_bytes r (k + 1) (mode r (k + 1)))

  pub rank_grows : (r k n : ℕ) → k ≤ n → length (entries_of_rank mode r k) ≤ length (entries_of_rank mode r n)
  unfolding entries_of_rank
  rank_grows r k n l = joined_grows k n (λ o. entry_bytes r o (mode r o)) l

  pub ranks_more : (o k : ℕ) → entries_of_ranks mode o (k + 1) ≡ entries_of_ranks mode o k ++ entries_of_rank mode (k + 1) o
  unfolding entries_of_ranks
  ranks_more o k = joined_more k (λ r. entries_of_rank mode r o)

  pub ranks_more_length : (o k : ℕ) → length (entries_of_ranks mode o (k + 1)) ≡ length (entries_of_ranks mode o k) + length (entries_of_rank mode (k + 1) o)
  ranks_more_length o k = ap length (ranks_more o k) ∙ length-append (entries_of_ranks mode o k) (entries_of_rank mode (k + 1) o)

  pub ranks_grow : (o k n : ℕ) → k ≤ n → length (entries_of_ranks mode o k) ≤ length (entries_of_ranks mode o n)
  unfolding entries_of_ranks
  ranks_grow o k n l = joined_grows k n (λ r. entries_of_rank mode r o) l

-- ---- the entries of a state, and how many there are

pub state_entries : (s : State) → entries_bytes s ≡ entries_of_ranks (declared_modes s.may_read s.may_write) s.counts.objects s.counts.jobs
unfolding entries_bytes rank_bytes entries_of_ranks entries_of_rank
state_entries s = refl

-- where the objects' sets have ranks up to j only, their sizes count the entries of the ranks up to j
module _ (reads writes : List ℕ) (objects j : ℕ)
    (small : (o : ℕ) → 1 ≤ o → o ≤ objects → union (at reads o) (at writes o) < 2 ^ j) where
  abbrev has : ℕ → ℕ → ℕ
  has r o = one_if (member (union (at reads o) (at writes o)) r)

  rank_count : (r : ℕ) → length (entries_of_rank (declared_modes reads writes) r objects) ≡ 3 * sum objects (has r)
  unfolding entries_of_rank
  rank_count r =
      length-joined objects (λ o. entry_bytes r o (declared_modes reads writes r o))
      ∙ sum_same objects (λ o. length (entry_bytes r o (declared_modes reads writes r o))) (λ o. 3 * has r o) (λ o a b. entry_length (at reads o) (at writes o) r o)
      ∙ sum_times objects 3 (has r)

  pub entries_counted : 3 * entry_total reads writes objects ≡ length (entries_of_ranks (declared_modes reads writes) objects j)
  unfolding entries_of_ranks entry_total
  entries_counted =
      sym (length-joined j (λ r. entries_of_rank (declared_modes reads writes) r objects)
      ∙ sum_same j (λ r. length (entries_of_rank (declared_modes reads writes) r objects)) (λ r. 3 * sum objects (has r)) (λ r a b. rank_count r)
      ∙ sum_times j 3 (λ r. sum objects (has r))
      ∙ ap (λ (n : ℕ). 3 * n) (sum_swap j objects has
      ∙ sum_same objects (λ o. sum j (λ r. has r o)) (entries_on reads writes)
      (λ o a b. sym (size_counts j (union (at reads o) (at writes o)) (small o a b)))))
