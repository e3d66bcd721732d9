-- `table_writer::lay::lay_table` meets its contract: header, processor bytes, entry count and entries are laid one behind the other, and so the table
-- is laid at the front.
-- Assumes nothing.
use Prim.Native.Nat.{ℕ}
use mathlib.Core.Path.{ap}
use native.Mathlib.Omega.{arith}
use lib.ListN.{take}
use Rattle.state.specs.Lent.{state_in}
use Rattle.table_writer.proofs.TableLaid.{table_laid}
use Rattle.table_writer.proofs.lay.lay_table.Goals as goal

pub returns : goal.returns
returns c =
    let s = state_in c.args.parts.now in
    table_laid s c.args.count (omega arith) c.requires.3 _ _ _ _ _ _ _ _ _ _
    (ap (λ (n : ℕ). take n s.processor_of) c.from.ensures) c.to_be_bytes.ensures
    c.lay-at.ensures c.lay-at-2.ensures c.lay-at-3.ensures c.lay_entries.ensures
