-- `table_bytes::table_refusals::table_refusal` meets its contract: the first step that refuses decides, and each step is safe since those before it passed.
-- Assumes nothing.
use Rattle.std.proofs.Common.{sym}
use Rattle.table_bytes.specs.Refusals.{table_refusal}
use Rattle.table_bytes.specs.AcceptedTable.{header_long, start_in, table_in}
use Rattle.table_bytes.specs.Steps.{decides}
use Rattle.table_bytes.proofs.table_refusals.table_refusal.Goals as goal

pub returns-in_err-header_refusal : goal.returns-in_err-header_refusal
unfolding table_refusal
returns-in_err-header_refusal c = decides _ _ _ _ c.from_residual.ensures.1 c.in_err-header_refusal.ensures

pub length_refusal-requires : goal.length_refusal-requires
length_refusal-requires c = header_long _ (sym c.in_ok-header_refusal.ensures)

pub returns-in_err-length_refusal : goal.returns-in_err-length_refusal
unfolding table_refusal
returns-in_err-length_refusal c =
    rw (← c.in_ok-header_refusal.ensures) (decides _ _ _ _ c.from_residual-in_err-length_refusal.ensures.1 c.in_err-length_refusal.ensures)

pub processor_byte_refusal-requires : goal.processor_byte_refusal-requires
processor_byte_refusal-requires c = start_in _ (sym c.in_ok-length_refusal.ensures)

pub returns-in_err-processor_byte_refusal : goal.returns-in_err-processor_byte_refusal
unfolding table_refusal
returns-in_err-processor_byte_refusal c =
    rw (← c.in_ok-header_refusal.ensures, ← c.in_ok-length_refusal.ensures)
    (decides _ _ _ _ c.from_residual-in_err-processor_byte_refusal.ensures.1 c.in_err-processor_byte_refusal.ensures)

pub entries_refusal-requires : goal.entries_refusal-requires
entries_refusal-requires c = table_in _ (sym c.in_ok-length_refusal.ensures)

pub returns : goal.returns
unfolding table_refusal
returns c =
    rw (← c.in_ok-header_refusal.ensures, ← c.in_ok-length_refusal.ensures, ← c.in_ok-processor_byte_refusal.ensures) c.entries_refusal.ensures
