-- `table_writer::lay::lay_entry` meets its contract: nothing is laid where the mode is 0, else the entry's three bytes.
-- Assumes nothing.
use mathlib.Core.Path.{sym}
use native.Mathlib.Nat.{add-zero}
use Rattle.table_writer.specs.EntryLaws.{entry_none}
use Rattle.table_writer.proofs.LaidLaws.{laid_none}
use Rattle.table_writer.proofs.lay.lay_entry.Goals as goal

pub returns-then-entry-eq0 : goal.returns-then-entry-eq0
returns-then-entry-eq0 c =
    let e = entry_none c.args.entry.rank c.args.entry.object c.args.entry.mode c.if-entry-eq0.true in
    (rw e (sym (add-zero c.args.at)), rw e (sym (laid_none c.args.buf.now c.args.at)))
