-- `inheritance::inherited_by` meets its contract. The loop's invariant: `inherited` is the most urgent of the rank and of those passed that name it. A turn
-- takes one rank more.
-- Assumes nothing.
use mathlib.Core.Path.{◌≡◌}
use Prim.Native.Nat.{◌≤◌}
use Rattle.inheritance.specs.Inheriting.{inherited_by}
use Rattle.inheritance.proofs.inherited_by.Given as goal

abbrev pub invariant-loop-before : goal.invariant-loop-before
invariant-loop-before l =
    (l.before ≤ l.jobs) × (l.inherited ≡ inherited_by l.before l.named l.rank)
