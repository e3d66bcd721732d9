-- `well_formed::waits_fit` meets its contract. Where none waits, each fits. The loop's invariant: each job of the first fours may wait for what it waits for;
-- a turn tests four more, and leaves the loop with the first four that fail.
-- Assumes nothing.
use Prim.Native.Nat.{◌*◌}
use mathlib.Core.Path.{◌≡◌}
use mathlib.Core.Bool.{true}
use Rattle.basics.specs.Loops.{every}
use Rattle.state.specs.Lent.{state_in}
use Rattle.state.specs.WellFormed.{wait_fits}
use Rattle.well_formed.specs.Survey.{with_marked}
use Rattle.well_formed.proofs.jobs.waits_fit.Given as goal

abbrev pub invariant-loop-four : goal.invariant-loop-four
invariant-loop-four l = every (l.four * 4) (wait_fits (with_marked (state_in l.parts) l.marked)) ≡ true
