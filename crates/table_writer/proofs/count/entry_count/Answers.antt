-- `table_writer::count::entry_count` meets its contract. The loop's invariant: the count is the total of the first i objects, and at most the bits of a
-- word for each. A turn adds the next object's. Assumes nothing.
use Prim.Native.Nat.{◌+◌}
use mathlib.Core.Path.{◌≡◌, refl, sym, ap₂, ◌∙◌}
use native.Mathlib.Numerals.{add-one}
use native.Mathlib.Omega.{arith}
use lib.ListN.{get_or}
use Rattle.basics.specs.Loops.{sum, sum_more}
use Rattle.ranks.specs.Ranks.{union, size}
use Rattle.table_writer.specs.Laying.{entries_on, entry_total}
use Rattle.table_writer.proofs.count.entry_count.Goals as goal

pub loop-i-init : goal.loop-i-init
unfolding entry_total sum
loop-i-init c = (omega arith, refl, omega arith)

pub loop-i-preserved : goal.loop-i-preserved
unfolding entry_total
loop-i-preserved c =
    let reads = c.args.parts.now.may_read.now in
    let writes = c.args.parts.now.may_write.now in
    let i = c.loop-i.i in
    let next : size (union (get_or reads i 0) (get_or writes i 0)) ≡ entries_on reads writes (i + 1) = rw add-one in (
      omega arith,
      ap₂ ◌+◌ c.loop-i.invariant.1 (c.object_entries-count.ensures.0 ∙ next) ∙ sym (sum_more i (entries_on reads writes)),
      omega arith,
    )
