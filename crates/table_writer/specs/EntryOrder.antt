-- The entries by rank, then object: none where every mode is 0; one more behind all others where one mode more is behind all others.
-- Assumes nothing.
use Rattle.std.specs.Prelude.{◌≡◌, ℕ, ◌≤◌, ◌<◌}
use Rattle.std.proofs.Common.{sym, ◌∙◌, arith}
use Rattle.std.proofs.Math.Path.{ap}
use mathlib.Core.List.{List, [], ◌∷◌, ◌++◌}
use Rattle.state.specs.State.{most_objects}
use Rattle.table_bytes.specs.Bytes.{order}
use Rattle.table_writer.specs.Writing.{entry_bytes}
use Rattle.table_writer.specs.Laying.{entries_of_rank, entries_of_ranks}
use Rattle.basics.specs.JoinedLaws.{joined_same, joined_none, joined_add}
use Rattle.table_writer.specs.EntryLaws.{entry_none, entry_some}

rank_none : (mode : ℕ → ℕ → ℕ) (r n : ℕ) → ((o : ℕ) → 1 ≤ o → o ≤ n → mode r o ≡ 0) → entries_of_rank mode r n ≡ []
unfolding entries_of_rank
rank_none mode r n z = joined_none n (λ o. entry_bytes r o (mode r o)) (λ o a b. entry_none r o (mode r o) (z o a b))

pub entries_none : (mode : ℕ → ℕ → ℕ) (objects n : ℕ) → ((r o : ℕ) → 1 ≤ r → 1 ≤ o → o ≤ objects → mode r o ≡ 0) → entries_of_ranks mode objects n ≡ []
unfolding entries_of_ranks
entries_none mode objects n z = joined_none n (λ r. entries_of_rank mode r objects) (λ r a b. rank_none mode r objects (λ o. z r o a))

-- the modes e are the modes d with one more, that of rank r for object w, which is behind all of d
module _ (d e : ℕ → ℕ → ℕ) (objects n r w : ℕ) (small : objects ≤ most_objects) (rank_low : 1 ≤ r) (rank_high : r ≤ n) (object_low : 1 ≤ w) (object_high : w ≤ objects)
    (same : (q o : ℕ) → 1 ≤ q → 1 ≤ o → o ≤ objects → (order q o ≡ order r w → ⊥) → e q o ≡ d q o)
    (some : e r w ≡ 0 → ⊥)
    (last : (q o : ℕ) → 1 ≤ q → 1 ≤ o → o ≤ objects → order r w ≤ order q o → d q o ≡ 0) where
  abbrev new : List ℕ
  new = r ∷ w ∷ e r w ∷ []

  none_behind : (q o : ℕ) → 1 ≤ q → 1 ≤ o → o ≤ objects → order r w < order q o → e q o ≡ 0
  none_behind q o a b h l = same q o a b h (λ z. omega arith) ∙ last q o a b h (omega arith)

  rank_add : entries_of_rank e r objects ≡ entries_of_rank d r objects ++ new
  unfolding entries_of_rank
  rank_add =
      joined_add (λ o. entry_bytes r o (d r o)) (λ o. entry_bytes r o (e r o)) new w objects object_low object_high
      (λ o a b. ap (entry_bytes r o) (same r o rank_low a (omega arith) (λ z. omega arith)))
      (entry_some r w (e r w) some ∙ ap (λ (l : List ℕ). l ++ new) (sym (entry_none r w (d r w) (last r w rank_low object_low object_high (omega arith)))))
      (λ o a b. entry_none r o (d r o) (last r o rank_low (omega arith) b (omega arith)))
      (λ o a b. entry_none r o (e r o) (none_behind r o rank_low (omega arith) b (omega arith)))

  pub entries_add : entries_of_ranks e objects n ≡ entries_of_ranks d objects n ++ new
  unfolding entries_of_ranks entries_of_rank
  entries_add =
      joined_add (λ q. entries_of_rank d q objects) (λ q. entries_of_rank e q objects) new r n rank_low rank_high
      (λ q a b. joined_same objects (λ o. entry_bytes q o (e q o)) (λ o. entry_bytes q o (d q o))
      (λ o u v. ap (entry_bytes q o) (same q o a u v (λ z. omega arith))))
      rank_add
      (λ q a b. rank_none d q objects (λ o u v. last q o (omega arith) u v (omega arith)))
      (λ q a b. rank_none e q objects (λ o u v. none_behind q o (omega arith) u v (omega arith)))
