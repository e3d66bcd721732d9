-- `well_formed::survey_by` meets its contract. The loop's invariant: what is held, and whether something is wrong, is that of the first objects,
-- in whole blocks; a turn adds a block, which is in order where it has no lock.
-- Assumes nothing.
use Prim.Native.Nat.{◌*◌}
use mathlib.Core.Path.{◌≡◌}
use mathlib.Core.Bool.{not}
use lib.Dec.{eqb}
use Rattle.basics.specs.Loops.{every}
use Rattle.ranks.specs.Ranks.{is_empty, unions}
use Rattle.state.specs.State.{holders_any}
use Rattle.state.specs.Lent.{state_in}
use Rattle.well_formed.specs.Survey.{block_size, object_in_order}
use Rattle.well_formed.proofs.locks.survey_by.Given as goal

abbrev pub invariant-loop-block : goal.invariant-loop-block
invariant-loop-block g l =
    let s = state_in l.parts in
    (l.held ≡ unions (l.block * block_size) (holders_any s)) × (is_empty l.wrong ≡ every (l.block * block_size) (object_in_order s (not (eqb g.row.ALONE 0))))
