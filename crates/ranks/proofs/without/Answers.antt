-- `ranks::without` meets its contract, by `without_is`.
-- Assumes nothing.
use Rattle.ranks.proofs.Shifts.{without_is}
use Rattle.ranks.proofs.without.Goals as goal

pub returns : goal.returns
returns c = without_is c.args.set c.args.rank c.requires.0 c.requires.1
