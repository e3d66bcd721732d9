-- `vongselik::entries::part_start` meets its contract. The loop's invariant: as many entries are counted as are of smaller ranks among those passed.
-- Assumes nothing.
use mathlib.Core.Path.{◌≡◌}
use Rattle.vongselik.specs.Entries.{smaller_entries}
use Rattle.vongselik.proofs.entries.part_start.Given as goal

abbrev pub invariant-loop-k : goal.invariant-loop-k
invariant-loop-k l = l.smaller ≡ smaller_entries l.bytes l.rank l.k
