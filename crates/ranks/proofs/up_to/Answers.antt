-- `ranks::up_to` meets its contract: the shift leaves as many ones as the count says.
-- Assumes nothing.
use Rattle.ranks.proofs.Shifts.{up_to_is}
use Rattle.ranks.proofs.up_to.Goals as goal

pub returns-else-count-eq0 : goal.returns-else-count-eq0
returns-else-count-eq0 c = up_to_is c.args.count c.requires
