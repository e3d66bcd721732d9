-- `rule::next_waiting` meets its contract. The loop's invariant: none of the ranks behind the given one, up to i, waits. A turn passes eight over, or looks at one. It
-- ends because what is left of the ranks falls.
-- Assumes nothing.
use Prim.Native.Nat.{◌-◌, ◌≤◌}
use Rattle.state.specs.State.{most_jobs}
use Rattle.rule.specs.WakeLaws.{IdleTo}
use Rattle.rule.proofs.next_waiting.Given as goal

abbrev pub invariant-loop-i : goal.invariant-loop-i
invariant-loop-i l = (l.rank ≤ l.i) × (l.i ≤ most_jobs) × IdleTo l.request l.rank l.i

abbrev pub decreases-loop-i : goal.decreases-loop-i
decreases-loop-i l = l.last - l.i
