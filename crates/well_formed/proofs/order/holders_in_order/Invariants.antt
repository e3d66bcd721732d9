-- `well_formed::holders_in_order` meets its contract. One holder is in order with himself. Else the loop's invariant: the set is empty if and only if the
-- first objects, in whole blocks, are in order; a turn joins a block's readers and writers that are not.
-- Assumes nothing.
use Prim.Native.Nat.{◌*◌}
use mathlib.Core.Path.{◌≡◌}
use Rattle.basics.specs.Loops.{every}
use Rattle.ranks.specs.Ranks.{is_empty}
use Rattle.state.specs.Lent.{state_in}
use Rattle.well_formed.specs.Survey.{block_size, object_ordered}
use Rattle.well_formed.proofs.order.holders_in_order.Given as goal

abbrev pub invariant-loop-block : goal.invariant-loop-block
invariant-loop-block l = is_empty l.wrong ≡ every (l.block * block_size) (object_ordered l.held (state_in l.parts))
