-- In version 2 the locks of a job that refusal 25 does not refuse: none is a write lock that is not certified.
-- Assumes nothing.
use Rattle.std.specs.Prelude.{◌≡◌, refl, ◌≢◌, Bool, true, false, not, ◌||◌, ℕ}
use Rattle.std.proofs.Common.{arith, ne_eqb}
use Rattle.basics.specs.Choice.{clash}
use Rattle.basics.specs.Loops.{every-at}
use Rattle.state.specs.declared.State.{State}
use Rattle.state.specs.State.{read, write, holds, is_certified, shares_with_none}
use Rattle.state.specs.Facts.{Facts}
use Rattle.state.specs.WellFormedFacts.{held_object}
use Rattle.refusals.specs.Refusals.{all_certified}
use Rattle.promises.specs.LockModes.{mode_if, held_mode}
use Rattle.promises.proofs.LockModes.{unwritten_mode}

-- "25, on a version 2 table finish with a write lock not certified": where it does not refuse, no lock of the job is held to write and not certified
pub not_25_modes : (s : State) → Facts s → s.counts.version ≡ 2 → (r : ℕ) → all_certified s r ≡ true → (o : ℕ) → held_mode s r o ≢ write
unfolding all_certified
not_25_modes s F second r all o = go (holds s write r o) refl (is_certified s o) refl
  where
    go : (writes : Bool) → holds s write r o ≡ writes → (marked : Bool) → is_certified s o ≡ marked → mode_if writes marked (holds s read r o) ≢ write
    go true h true e q = omega arith
    go true h false e q =
        let object = held_object s F write r o h in
        let fits = every-at s.counts.objects (λ p. not (holds s write r p) || shares_with_none s p) o all object.0 object.1 in
        clash (simp (h, e, ne_eqb s.counts.version 1 (λ z. omega arith)) at fits) refl
    go false h marked e q = omega (arith, unwritten_mode marked (holds s read r o))
