-- `lines::lay::lay_header` meets its contract: mark, version and counts stand one behind the other.
-- Assumes nothing.
use Rattle.lines.specs.Lines.{header_line}
use Rattle.decimals.specs.Laid.{laid_then}
use Rattle.lines.proofs.lay.lay_header.Goals as goal

pub returns : goal.returns
unfolding header_line
returns c =
    laid_then c.lay_text-mark.ensures
    (laid_then c.lay_field-version.ensures
    (laid_then c.lay_field-end.ensures
    (laid_then c.lay_field-next.ensures
    c.lay_last.ensures)))
