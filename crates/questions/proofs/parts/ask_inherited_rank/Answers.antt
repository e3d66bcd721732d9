-- `questions::parts::ask_inherited_rank` meets its contract: refused with its number, or what the rule gives.
-- Assumes nothing.
use Rattle.state.specs.Lent.{state_in}
use Rattle.questions.proofs.Asked as A
use Rattle.questions.proofs.parts.ask_inherited_rank.Goals as goal

pub job_refusal-requires : goal.job_refusal-requires
job_refusal-requires c = A.jobs_known (state_in c.args.parts.now) c.fits_sized.result c.fits_sized.ensures

pub inherited_rank-requires : goal.inherited_rank-requires
inherited_rank-requires c =
    let known = A.job_known (state_in c.args.parts.now) c.fits_sized.result c.fits_sized.ensures c.args.rank c.in_ok-job_refusal.ensures in
    (known.0.jobs_fit, known.1, known.3)
