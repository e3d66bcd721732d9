-- `state::none_waits` meets its contract. The loop's invariant: the joined requests are 0 if and only if the first k are; a turn joins one more.
-- Assumes nothing.
use Prim.Native.Nat.{◌+◌, ◌≤◌}
use mathlib.Core.Path.{◌≡◌}
use lib.Dec.{eqb}
use Rattle.basics.specs.Arrays.{at}
use Rattle.basics.specs.Loops.{every}
use Rattle.state.proofs.parts.none_waits.Given as goal

abbrev pub invariant-loop-k : goal.invariant-loop-k
invariant-loop-k l = (l.k ≤ l.count) × (eqb l.any 0 ≡ every l.k (λ j. eqb (at l.request (l.from + j)) 0))
