-- Whether a rank is more urgent than a holder's lock, by the ranks that the lock weighs by, is whether it passes the lock's key. Shown from what is known of the
-- holders: who has a write lock may write its object, and so of one job's two locks on an object the write lock decides.
-- Assumes nothing.
use Rattle.std.specs.Prelude.{◌≡◌, refl, Bool, ltb, if◌then◌else◌}
use Rattle.std.proofs.Common.{sym, ◌∙◌, inl, inr, arith, lt-ltb, ltb-true}
use Rattle.std.proofs.Math.Path.{ap}
use Rattle.std.proofs.Math.Bool.{true, false}
use Prim.Native.Nat.{ℕ, ◌+◌, ◌≤◌, min}
use Rattle.basics.specs.Choice.{same_test, clash}
use Rattle.ranks.specs.Ranks.{member, with, first, disjoint, up_to}
use Rattle.ranks.specs.UnionLaws.{union_either}
use Rattle.ranks.specs.FirstLaws.{disjoint-up_to, first-with}
use Rattle.state.specs.declared.State.{State}
use Rattle.state.specs.State.{most_jobs, read, write, declared, holders, shares_with_none}
use Rattle.state.specs.Facts.{In}
use Rattle.state.specs.Weights.{weight}
use Rattle.state.specs.WeightLaws.{weighing_of, weighing_ceiling, write_below_read}
use Rattle.state.specs.Holders.{HolderFacts, own_weight}
use Rattle.weights.specs.Keys.{key_weight, lock_key}
use Rattle.one_holder.specs.OneHolder.{holder_key_at, passes_lock}
use Rattle.one_holder.specs.Gathering.{held_by}

module _ (s : State) (H : HolderFacts s) (j : ℕ) (high : j ≤ s.counts.jobs) (few : s.counts.jobs ≤ most_jobs) where
  -- a rank of the table is more urgent than a set's first rank if it is than a number that is this rank, or nobody
  by_first : (set weighs : ℕ) → weighs ≡ min (first most_jobs set) (s.counts.jobs + 1) → disjoint set (up_to j) ≡ ltb j weighs
  by_first set weighs e =
      disjoint-up_to set j (omega arith)
      ∙ same_test (ltb j (first most_jobs set)) (ltb j weighs) (λ t. lt-ltb j weighs (omega (arith, ltb-true j (first most_jobs set) t, e)))
      (λ t. lt-ltb j (first most_jobs set) (omega (arith, ltb-true j weighs t, e)))

  module _ (h o : ℕ) where
    -- what a lock's key weighs
    key_weight_lem : (m : ℕ) → In (holders s m o) h → key_weight (lock_key (weight s m h o) h o) ≡ weight s m h o
    key_weight_lem m i = omega (arith, H.rank m h o i, H.object m h o i, H.few)

    -- the write lock weighs by the ranks that it weighs by, and no less than a read lock beside it
    written : In (holders s write o) h → disjoint (weighing_of (shares_with_none s o) (declared s read o) (declared s write o)) (up_to j) ≡ ltb j (key_weight (holder_key_at s h o))
    unfolding weight
    written i = by_first _ _ (sym (weighing_ceiling s.counts (shares_with_none s o) (declared s read o) (declared s write o))) ∙ ap (ltb j) (sym (key_weight_lem write i) ∙ ap key_weight (sym (lowest (member (holders s read o) h) refl)))
      where
        lowest : (b : Bool) → member (holders s read o) h ≡ b → holder_key_at s h o ≡ lock_key (weight s write h o) h o
        lowest true e = simp (i, e) (omega (arith, write_below_read s h o (H.right write h o i)))
        lowest false e = simp (i, e) (omega (arith, own_weight s H write h o i, H.rank write h o i, H.object write h o i, H.few))

    -- a read lock alone by those declared to write, and its holder
    only_read : In (holders s read o) h → member (holders s write o) h ≡ false → disjoint (with (declared s write o) h) (up_to j) ≡ ltb j (key_weight (holder_key_at s h o))
    unfolding weight
    only_read i none = by_first _ _ cap ∙ ap (ltb j) (sym (key_weight_lem read i) ∙ ap key_weight (sym lowest))
      where
        cap : weight s read h o ≡ min (first most_jobs (with (declared s write o) h)) (s.counts.jobs + 1)
        cap = omega (arith, first-with (declared s write o) h (H.rank read h o i).0 (H.rank read h o i).1)

        lowest : holder_key_at s h o ≡ lock_key (weight s read h o) h o
        lowest = simp (i, none) (omega (arith, own_weight s H read h o i, H.rank read h o i, H.object read h o i, H.few))

    pub passes_lock_lem : held_by s.readers s.writers h o ≡ true
        → passes_lock s.counts.version s.may_read s.may_write s.writers s.certified o h j ≡ ltb j (key_weight (holder_key_at s h o))
    passes_lock_lem held = go (member (holders s write o) h) refl
      where
        go : (b : Bool) → member (holders s write o) h ≡ b
            → disjoint (if b then weighing_of (shares_with_none s o) (declared s read o) (declared s write o) else with (declared s write o) h) (up_to j)
            ≡ ltb j (key_weight (holder_key_at s h o))
        go true i = written i
        go false none = elim (union_either (holders s read o) (holders s write o) h held) [
          | inl i ↦ only_read i none
          | inr i ↦ absurd (clash i none)
        ]
