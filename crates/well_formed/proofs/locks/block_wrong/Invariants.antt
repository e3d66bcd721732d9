-- `well_formed::block_wrong` meets its contract. The loop's invariant: the set is empty if and only if the first k objects of the block are in order;
-- a turn joins what is wrong with one more.
-- Assumes nothing.
use Prim.Native.Nat.{◌+◌}
use mathlib.Core.Path.{◌≡◌}
use mathlib.Core.Bool.{not}
use lib.Dec.{eqb}
use Rattle.basics.specs.Loops.{every}
use Rattle.ranks.specs.Ranks.{is_empty}
use Rattle.state.specs.Lent.{state_in}
use Rattle.well_formed.specs.Survey.{object_in_order}
use Rattle.well_formed.proofs.locks.block_wrong.Given as goal

abbrev pub invariant-loop-k : goal.invariant-loop-k
invariant-loop-k g l = is_empty l.wrong ≡ every l.k (λ j. object_in_order (state_in l.parts) (not (eqb g.row.ALONE 0)) (l.from + j))
