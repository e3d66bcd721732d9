-- `loader::read_bytes` meets its contract: bytes that are cut are fewer than the longest table has, so there is room for more.
-- Assumes nothing.
use Rattle.std.proofs.Common.{take, sym, ap, ◌∙◌, arith, length-take-le}
use Rattle.state.specs.RefusalNumbers.{number}
use Rattle.table_bytes.specs.Decided.{cut_short}
use Rattle.loader.proofs.read_bytes.Goals as goal

pub read_part-requires : goal.read_part-requires
read_part-requires g c =
    let held = c.loop-from.held in
    let bytes = c.loop-from.bytes in
    omega (arith, cut_short (take held bytes) (sym c.in-Err-TableCut.ensures ∙ ap number c.in-Err-TableCut.field-0-is), length-take-le held bytes c.loop-from.invariant.0, c.loop-from.invariant, c.requires)
