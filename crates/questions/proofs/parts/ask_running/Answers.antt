-- `questions::parts::ask_running` meets its contract: refused with its number, or what the rule gives.
-- Assumes nothing.
use Rattle.state.specs.Lent.{state_in}
use Rattle.questions.proofs.Asked as A
use Rattle.questions.proofs.parts.ask_running.Goals as goal

pub running_rank-requires : goal.running_rank-requires
running_rank-requires c =
    A.processor_known (state_in c.args.parts.now) c.fits_sized.result c.fits_sized.ensures c.args.processor c.in_ok-processor_refusal.ensures
