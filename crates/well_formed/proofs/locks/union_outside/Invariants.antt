-- `well_formed::union_outside` meets its contract. The loop's invariant: the union is that of the first k objects outside the table; a turn joins one more.
-- Assumes nothing.
use Prim.Native.Nat.{◌+◌}
use mathlib.Core.Path.{◌≡◌}
use Rattle.ranks.specs.Ranks.{unions}
use Rattle.state.specs.Lent.{state_in}
use Rattle.well_formed.specs.Survey.{all_of}
use Rattle.well_formed.proofs.locks.union_outside.Given as goal

abbrev pub invariant-loop-k : goal.invariant-loop-k
invariant-loop-k l = l.all ≡ unions l.k (λ j. all_of (state_in l.parts) (l.from + j))
