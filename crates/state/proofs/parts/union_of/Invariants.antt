-- `state::union_of` meets its contract. The loop's invariant: the union is that of the first k sets; a turn joins one more.
-- Assumes nothing.
use Prim.Native.Nat.{◌+◌, ◌≤◌}
use mathlib.Core.Path.{◌≡◌}
use Rattle.basics.specs.Arrays.{at}
use Rattle.ranks.specs.Ranks.{unions}
use Rattle.state.proofs.parts.union_of.Given as goal

abbrev pub invariant-loop-k : goal.invariant-loop-k
invariant-loop-k l = (l.k ≤ l.count) × (l.all ≡ unions l.k (λ j. at l.sets (l.from + j)))
