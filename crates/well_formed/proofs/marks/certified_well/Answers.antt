-- `well_formed::certified_well` meets its contract: no object is certified, or the version and both words are tested.
-- Assumes nothing.
use mathlib.Core.Path.{sym, ◌∙◌}
use Rattle.state.specs.Lent.{state_in}
use Rattle.well_formed.proofs.MarkLaws.{none_marked, both}
use Rattle.well_formed.proofs.marks.certified_well.Goals as goal

pub returns-then-both_empty : goal.returns-then-both_empty
returns-then-both_empty c = none_marked (state_in c.args.parts.now) (sym c.both_empty.ensures.0 ∙ c.if-both_empty.true)

pub returns : goal.returns
returns c =
    let tests = both (state_in c.args.parts.now) (sym c.both_empty.ensures.0 ∙ c.if-both_empty.false) c.both_empty.ensures.1 c.both_empty.ensures.2 in
    cc
