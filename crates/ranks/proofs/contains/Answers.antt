-- `ranks::contains` meets its contract, by `contains_is`.
-- Assumes nothing.
use Rattle.ranks.proofs.Shifts.{contains_is}
use Rattle.ranks.proofs.contains.Goals as goal

pub returns : goal.returns
returns c = contains_is c.args.set c.args.rank c.requires.0
