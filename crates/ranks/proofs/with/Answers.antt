-- `ranks::with` meets its contract, by `with_is`.
-- Assumes nothing.
use Rattle.ranks.proofs.Shifts.{with_is}
use Rattle.ranks.proofs.with.Goals as goal

pub returns : goal.returns
returns c = with_is c.args.set c.args.rank c.requires.0 c.requires.1
