-- `well_formed::locks_wrong` meets its contract. Where no holder of the block's locks comes after the most urgent holder, each object is in order. Else the loop's
-- invariant: the set is empty if and only if the holders on the first k objects of the block are in order; a turn joins those of one more that are not.
-- Assumes nothing.
use Prim.Native.Nat.{◌+◌}
use mathlib.Core.Path.{◌≡◌}
use mathlib.Core.Bool.{not}
use lib.Dec.{eqb}
use Rattle.basics.specs.Arrays.{at}
use Rattle.basics.specs.Loops.{every}
use Rattle.ranks.specs.Ranks.{is_empty}
use Rattle.state.specs.Lent.{state_in}
use Rattle.well_formed.specs.Survey.{only_first, weighs_by}
use Rattle.well_formed.proofs.order.locks_wrong.Given as goal

abbrev pub invariant-loop-k : goal.invariant-loop-k
invariant-loop-k g l =
    is_empty l.wrong ≡ every l.k (λ j. only_first l.held (weighs_by (not (eqb g.row.WRITING 0)) (state_in l.parts) (l.from + j)) (at l.locks (l.from + j)))
