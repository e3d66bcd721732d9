-- `table_writer::count::entry_count` meets its contract. The loop's invariant: the count is the total of the first i objects, and at most the bits of a
-- word for each. A turn adds the next object's. Assumes nothing.
use Prim.Native.Nat.{◌*◌, ◌≤◌}
use mathlib.Core.Path.{◌≡◌}
use Rattle.ranks.specs.Ranks.{word_bits}
use Rattle.table_writer.specs.Laying.{entry_total}
use Rattle.table_writer.proofs.count.entry_count.Given as goal

abbrev pub invariant-loop-i : goal.invariant-loop-i
invariant-loop-i l =
    (l.i ≤ l.parts.counts.objects) × (l.count ≡ entry_total l.parts.may_read.now l.parts.may_write.now l.i) × (l.count ≤ word_bits * l.i)
