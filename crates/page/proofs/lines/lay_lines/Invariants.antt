-- `page::lines::lay_lines` meets its contract. The loop's invariant: the lines of the ranks passed stand at the front, up to `end`, and the bytes behind are as
-- they were. A turn lays the line of an active rank into the 21 bytes behind them.
-- Assumes nothing.
use mathlib.Core.Path.{◌≡◌}
use Prim.Native.Nat.{◌≤◌}
use lib.ListN.{length}
use Rattle.decimals.specs.Laid.{at_front}
use Rattle.page.specs.Parts.{lines_by}
use Rattle.page.proofs.lines.lay_lines.Given as goal

abbrev pub invariant-loop-i : goal.invariant-loop-i
invariant-loop-i l =
    (l.i ≤ l.parts.counts.jobs) × (length l.buf ≡ length l.initial.buf)
    × (l.end ≡ length (lines_by l.i l.parts.counts.jobs l.named l.running l.parts.processor_of.now l.parts.active l.parts.sleeping l.parts.request.now))
    × (l.buf ≡ at_front (lines_by l.i l.parts.counts.jobs l.named l.running l.parts.processor_of.now l.parts.active l.parts.sleeping l.parts.request.now) l.initial.buf)
