-- A set with nobody put in has the set's ceiling as its first rank. From the first of two sets together.
-- Assumes nothing.
use mathlib.Core.Path.{◌≡◌, sym, ap, ◌∙◌}
use mathlib.Core.Bool.{true}
use Prim.Native.Nat.{ℕ, ◌+◌, ◌≤◌, ◌<◌, min}
use native.Mathlib.Decide.{ℕ_discrete}
use native.Mathlib.Omega.{arith}
use Rattle.basics.specs.Choice.{clash}
use Rattle.ranks.specs.Ranks.{member, with, first, union}
use Rattle.ranks.specs.RankLaws.{member_empty, member-with_same, member-with_other, first-le, first_empty, first_is}
use Rattle.ranks.specs.UnionLaws.{first-union}
use Rattle.state.specs.declared.Counts.{Counts}
use Rattle.state.specs.State.{most_jobs}
use Rattle.state.specs.Weights.{ceiling_of}

-- the set of one rank has it as its first
first_alone : (r : ℕ) → 1 ≤ r → r ≤ most_jobs → first most_jobs (with 0 r) ≡ r
first_alone r low high = first_is most_jobs (with 0 r) r (member-with_same 0 r low) least high
  where
    least : (q : ℕ) → member (with 0 r) q ≡ true → r ≤ q
    least q m = elim (ℕ_discrete q r) [
      | yes e ↦ omega arith
      | no d ↦ absurd (clash m (member-with_other 0 r q (λ e. d (sym e)) ∙ member_empty q))
    ]

module _ (c : Counts) (set past : ℕ) where
  -- a set can have the rank past the last
  pub nobody_in : c.jobs < most_jobs → past ≡ with 0 (c.jobs + 1) → first most_jobs (union set past) ≡ ceiling_of c set
  nobody_in l e =
      first-union most_jobs set past
      ∙ ap (min (first most_jobs set)) (ap (first most_jobs) e ∙ first_alone (c.jobs + 1) (omega arith) (omega arith))

  -- it can not
  pub nobody_past : most_jobs ≤ c.jobs → past ≡ 0 → first most_jobs (union set past) ≡ ceiling_of c set
  nobody_past l e = first-union most_jobs set past ∙ omega (arith, ap (first most_jobs) e, first_empty most_jobs, first-le most_jobs set)
