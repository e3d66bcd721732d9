-- `well_formed::wait_fits` meets its contract: a job that has a request fits if it may be waiting for it.
-- Assumes nothing.
use mathlib.Core.Path.{◌∙◌}
use Rattle.state.specs.Lent.{state_in}
use Rattle.well_formed.specs.Survey.{with_marked}
use Rattle.well_formed.proofs.WaitLaws.{wait_asks}
use Rattle.well_formed.proofs.jobs.wait_fits.Goals as goal

pub returns-else-asked-eq0 : goal.returns-else-asked-eq0
returns-else-asked-eq0 c = c.may_await.ensures ∙ wait_asks (with_marked (state_in c.args.parts.now) c.args.marked) c.args.index c.if-asked-eq0.false
