-- `well_formed::processors_fit` meets its contract. The loop's invariant: the largest of the first i processors is one of the table's if and only if each is;
-- a turn takes one more.
-- Assumes nothing.
use mathlib.Core.Path.{◌≡◌}
use lib.Dec.{ltb}
use Rattle.basics.specs.Loops.{every}
use Rattle.state.specs.Lent.{state_in}
use Rattle.state.specs.WellFormed.{processor_fits}
use Rattle.well_formed.proofs.jobs.processors_fit.Given as goal

abbrev pub invariant-loop-i : goal.invariant-loop-i
invariant-loop-i l = ltb l.last l.parts.counts.processors ≡ every l.i (processor_fits (state_in l.parts))
