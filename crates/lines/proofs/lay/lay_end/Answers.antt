-- `lines::lay::lay_end` meets its contract: the word, the count and the line feed stand one behind the other.
-- Assumes nothing.
use Rattle.lines.specs.Lines.{end_line}
use Rattle.decimals.specs.Laid.{laid_then}
use Rattle.lines.proofs.lay.lay_end.Goals as goal

pub returns : goal.returns
unfolding end_line
returns c = laid_then c.lay_text-word.ensures (laid_then c.lay_number-end.ensures c.lay_byte.ensures)
