-- `table_writer::lay::lay_rank` meets its contract. The loop's invariant: the rank's entries for the objects passed are laid from the index on, and
-- `end` stands behind them. A turn lays the next object's entry behind. Assumes nothing.
use Prim.Native.Nat.{◌+◌, ◌≤◌}
use mathlib.Core.Path.{◌≡◌}
use lib.ListN.{length}
use Rattle.table_writer.specs.Laying.{declared_modes, entries_of_rank, laid}
use Rattle.table_writer.proofs.lay.lay_rank.Given as goal

abbrev pub invariant-loop-i : goal.invariant-loop-i
invariant-loop-i l =
    (l.i ≤ l.objects) × (l.end ≡ l.at + length (entries_of_rank (declared_modes l.reads l.writes) l.rank l.i))
    × (l.buf ≡ laid l.initial.buf l.at (entries_of_rank (declared_modes l.reads l.writes) l.rank l.i))
    × (length l.buf ≡ length l.initial.buf)
