-- `ranks::less_one` meets its contract: below 1 the difference wraps, to all ranks of a word.
-- Assumes nothing.
use Rattle.std.proofs.Common.{arith}
use Rattle.ranks.proofs.Shifts.{less_one_is}
use Rattle.ranks.proofs.less_one.Goals as goal

pub returns : goal.returns
returns c = less_one_is c.args.set (omega arith)
