-- `table_writer::lay::lay_entries` meets its contract. The loop's invariant: the entries of the ranks passed are laid from the index on, and `end`
-- stands behind them. A turn lays the next rank's entries behind. Assumes nothing.
use Prim.Native.Nat.{◌+◌, ◌≤◌}
use mathlib.Core.Path.{◌≡◌}
use lib.ListN.{length}
use Rattle.table_writer.specs.Laying.{declared_modes, entries_of_ranks, laid}
use Rattle.table_writer.proofs.lay.lay_entries.Given as goal

abbrev pub invariant-loop-k : goal.invariant-loop-k
invariant-loop-k l =
    (l.k ≤ l.parts.counts.jobs)
    × (l.end ≡ l.at + length (entries_of_ranks (declared_modes l.parts.may_read.now l.parts.may_write.now) l.parts.counts.objects l.k))
    × (l.buf ≡ laid l.initial.buf l.at (entries_of_ranks (declared_modes l.parts.may_read.now l.parts.may_write.now) l.parts.counts.objects l.k))
    × (length l.buf ≡ length l.initial.buf)
