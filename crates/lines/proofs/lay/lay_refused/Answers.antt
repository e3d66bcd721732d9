-- `lines::lay::lay_refused` meets its contract: the letter and the number stand one behind the other.
-- Assumes nothing.
use Rattle.lines.specs.Lines.{refused_line}
use Rattle.decimals.specs.Laid.{laid_then}
use Rattle.lines.proofs.lay.lay_refused.Goals as goal

pub returns : goal.returns
unfolding refused_line
returns c =
    laid_then c.lay_byte-end.ensures
    c.lay_last.ensures
