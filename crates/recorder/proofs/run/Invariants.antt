-- The loop's invariant: the bench and the bytes held are as the parts that came leave them, the bytes are fewer than a table has, so that there
-- is room for more, and the events and the bytes are no more than have come. It ends because what may still come falls. Assumes nothing.
use Rattle.std.proofs.Common.{◌≡◌, ◌+◌, ◌-◌, ◌≤◌, ◌<◌, length, take}
use Rattle.table_bytes.specs.Decided.{longest_table}
use Rattle.recorder.specs.Recording.{AfterParts, most_bytes}
use Rattle.recorder.proofs.run.Given as goal

abbrev pub invariant-loop-recorded : goal.invariant-loop-recorded
invariant-loop-recorded g l = record {
  short : l.recorded.held < longest_table;
  counted : l.recorded.bench.events + l.recorded.held ≤ l.recorded.received;
  input_size : length l.input ≡ length l.fn.input;
  lines_size : length l.lines ≡ length l.fn.lines;
  after_parts : AfterParts l.recorded.bench (take l.recorded.held l.input) l.recorded.received l.fn.lines l.lines;
}

abbrev pub decreases-loop-recorded : goal.decreases-loop-recorded
decreases-loop-recorded g l = most_bytes - l.recorded.received
