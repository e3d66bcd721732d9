-- The key by which the only processor runs a job that is ready.
-- Assumes nothing.
use Rattle.std.specs.Prelude.{◌≡◌, true, false}
use Prim.Native.Nat.{ℕ, ◌+◌, ◌*◌, ◌≤◌}
use native.Mathlib.Omega.{arith}
use borrow.Author.Tests.{eq-eqb}
use Rattle.state.specs.declared.State.{State}
use Rattle.state.specs.State.{processor_of_job, is_active, is_sleeping, request_of}
use Rattle.state.specs.Facts.{Facts}
use Rattle.inheritance.specs.Running as R
use Rattle.inheritance.specs.Running.{ready_key}
use Rattle.promises.proofs.ReachedStates.{Kept}

module _ (s : State) (K : Kept s) (first : s.counts.version ≡ 1) (one : s.counts.processors ≡ 1) where
  abbrev F : Facts s
  F = K.facts

  pub ready_key_lem : (y : ℕ) → 1 ≤ y → y ≤ s.counts.jobs → is_active s y ≡ true → is_sleeping s y ≡ false → request_of s y ≡ 0
      → ready_key s 0 y ≡ R.inherited_rank s y * 256 + y
  ready_key_lem y a b active awake free =
      let p : processor_of_job s y ≡ 0 = omega (arith, F.processors y a b) in
      simp (eq-eqb (processor_of_job s y) 0 p, active, awake, eq-eqb (request_of s y) 0 free)
