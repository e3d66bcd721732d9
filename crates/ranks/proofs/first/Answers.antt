-- `ranks::first` meets its contract: there are at most 64 trailing zeros.
-- Assumes nothing.
use Rattle.std.proofs.Common.{refl}
use Rattle.ranks.specs.Ranks.{first}
use Rattle.ranks.proofs.first.Goals as goal

pub returns : goal.returns
unfolding first
returns c = refl
