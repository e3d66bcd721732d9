-- `well_formed::fits` meets its contract: what is gathered of the objects and tested of the holders is true if and only if their clauses are
-- (SurveyLaws); the other clauses are tested as they stand.
-- Assumes nothing.
use mathlib.Core.Path.{sym, ap₂, ◌∙◌}
use mathlib.Core.Bool.{◌&&◌}
use Rattle.basics.specs.Choice.{and_left, and_right}
use Rattle.state.specs.Lent.{state_in}
use Rattle.state.specs.WellFormed.{counts_fit, version_fits}
use Rattle.well_formed.proofs.SurveyLaws.{tests_well, bad_counts}
use Rattle.well_formed.proofs.fits.Goals as goal

pub returns-then-not-counts_within-is_version : goal.returns-then-not-counts_within-is_version
returns-then-not-counts_within-is_version c =
    sym (bad_counts (state_in c.args.parts.now) (ap₂ ◌&&◌ (sym c.counts_within.ensures) (sym c.is_version.ensures) ∙ c.if-not-counts_within-is_version.true))

pub returns : goal.returns
returns c =
    let s = state_in c.args.parts.now in
    let both = ap₂ ◌&&◌ (sym c.counts_within.ensures) (sym c.is_version.ensures) ∙ c.if-not-counts_within-is_version.false in
    let tests = tests_well s (and_left (counts_fit s) _ both) (and_right (counts_fit s) (version_fits s) both) c.survey_objects-seen.result c.union_outside-outside.result
    c.survey_objects-seen.ensures c.union_outside-outside.ensures in
    cc
