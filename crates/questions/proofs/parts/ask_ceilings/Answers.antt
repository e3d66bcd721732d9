-- `questions::parts::ask_ceilings` meets its contract: refused with its number, or what the rule gives.
-- Assumes nothing.
use Rattle.state.specs.Lent.{state_in}
use Rattle.questions.proofs.Asked as A
use Rattle.questions.proofs.parts.ask_ceilings.Goals as goal

pub set_of-write-requires : goal.set_of-write-requires
set_of-write-requires c = A.object_known (state_in c.args.parts.now) c.fits_sized.result c.fits_sized.ensures c.args.object c.in_ok-object_refusal.ensures

pub set_of-requires : goal.set_of-requires
set_of-requires c = A.object_known (state_in c.args.parts.now) c.fits_sized.result c.fits_sized.ensures c.args.object c.in_ok-object_refusal.ensures
