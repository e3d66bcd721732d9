-- `lines::lay::lay_last` meets its contract: a field, and the line feed behind it.
-- Assumes nothing.
use Rattle.decimals.specs.Laid.{laid_then}
use Rattle.lines.proofs.lay.lay_last.Goals as goal

pub returns : goal.returns
returns c = laid_then c.lay_field-end.ensures c.lay_byte.ensures
