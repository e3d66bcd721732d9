-- The loop's invariant: the bytes that came lie in the buffer. It ends because the room falls.
-- Assumes nothing.
use Rattle.std.proofs.Common.{◌-◌, ◌≤◌, length}
use Rattle.load_cases.proofs.read_full.Given as goal

abbrev pub invariant-loop-held : goal.invariant-loop-held
invariant-loop-held g l = l.held ≤ length l.bytes

abbrev pub decreases-loop-held : goal.decreases-loop-held
decreases-loop-held g l = length l.fn.bytes - l.held
