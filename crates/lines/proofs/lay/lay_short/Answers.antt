-- `lines::lay::lay_short` meets its contract: the text that is laid is the line.
-- Assumes nothing.
use Rattle.lines.specs.Lines.{short_line}
use Rattle.lines.proofs.lay.lay_short.Goals as goal

pub returns : goal.returns
unfolding short_line
returns c = c.lay_text.ensures
