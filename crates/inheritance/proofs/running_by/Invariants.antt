-- `inheritance::running_by` meets its contract. The loop's invariant: `lowest` is the lowest key of the ready ranks passed. A turn takes one rank more.
-- Assumes nothing.
use mathlib.Core.Path.{◌≡◌}
use Prim.Native.Nat.{◌≤◌}
use Rattle.basics.specs.Arrays.{at}
use Rattle.basics.specs.Loops.{least}
use Rattle.weights.specs.Keys.{no_key}
use Rattle.inheritance.specs.Inheriting.{ready_by, ready_key_by}
use Rattle.inheritance.proofs.running_by.Given as goal

abbrev pub invariant-loop-i : goal.invariant-loop-i
invariant-loop-i l =
    (l.i ≤ l.jobs)
    × (l.lowest ≡ least l.i no_key (λ r. ready_key_by l.jobs l.named (ready_by (at l.processor_of r) l.processor l.awake (at l.request r) r) r))
