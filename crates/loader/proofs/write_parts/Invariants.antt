-- The loop's invariant: what was made, the seed and the buffer are as some parts leave them, and the bytes held stay. It ends because the events left
-- fall. Assumes nothing.
use Rattle.std.proofs.Common.{◌≡◌, ◌*◌, ◌-◌, ◌≤◌, length}
use Rattle.loader.specs.Loading.{part_events, AfterParts}
use Rattle.loader.proofs.write_parts.Given as goal

abbrev pub invariant-loop-loaded : goal.invariant-loop-loaded
invariant-loop-loaded l = record {
  within : l.loaded.made ≤ l.fn.count;
  size : length l.events ≡ 3 * part_events;
  after_parts : AfterParts l.fn.state.counts l.fn.loaded.seed l.fn.count l.loaded.made l.loaded.seed l.fn.events l.events;
  held : l.loaded.held ≡ l.fn.loaded.held;
}

abbrev pub decreases-loop-loaded : goal.decreases-loop-loaded
decreases-loop-loaded l = l.fn.count - l.loaded.made
