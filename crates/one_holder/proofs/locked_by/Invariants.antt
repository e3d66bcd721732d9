-- `one_holder::locked_by` meets its contract. The loop's invariant: the list has the objects that the rank holds of the first i. A turn passes a block over, or looks
-- at one object. It ends because what is left of the objects falls.
-- Assumes nothing.
use mathlib.Core.Path.{◌≡◌}
use Prim.Native.Nat.{◌-◌, ◌≤◌}
use lib.ListN.{length}
use Rattle.state.specs.State.{most_objects}
use Rattle.one_holder.specs.Gathering.{LocksTo, HeldTo}
use Rattle.one_holder.proofs.locked_by.Given as goal

abbrev pub invariant-loop-i : goal.invariant-loop-i
invariant-loop-i l =
    (l.i ≤ most_objects) × (l.count ≤ l.i) × (length l.objects ≡ most_objects) × LocksTo l.parts.readers.now l.parts.writers.now l.rank l.most l.i l.objects l.count
    × HeldTo l.parts.readers.now l.parts.writers.now l.rank l.objects l.count

abbrev pub decreases-loop-i : goal.decreases-loop-i
decreases-loop-i l = l.most - l.i
