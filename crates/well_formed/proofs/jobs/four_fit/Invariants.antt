-- `well_formed::four_fit` meets its contract. Where none waits, each fits. The loop's invariant: each of the first k may wait for what it waits for;
-- a turn tests one more, and leaves the loop with the first that fails.
-- Assumes nothing.
use Prim.Native.Nat.{◌+◌}
use mathlib.Core.Path.{◌≡◌}
use mathlib.Core.Bool.{true}
use Rattle.basics.specs.Loops.{every}
use Rattle.state.specs.Lent.{state_in}
use Rattle.state.specs.WellFormed.{wait_fits}
use Rattle.well_formed.specs.Survey.{with_marked}
use Rattle.well_formed.proofs.jobs.four_fit.Given as goal

abbrev pub invariant-loop-k : goal.invariant-loop-k
invariant-loop-k l = every l.k (λ j. wait_fits (with_marked (state_in l.parts) l.marked) (l.from + j)) ≡ true
