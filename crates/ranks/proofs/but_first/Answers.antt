-- `ranks::but_first` meets its contract: what a set has in common with itself less one.
-- Assumes nothing.
use Rattle.std.proofs.Common.{ap, ◌∙◌}
use Rattle.ranks.specs.Ranks.{common}
use Rattle.ranks.specs.LessOneLaws.{common-less_one}
use Rattle.ranks.proofs.but_first.Goals as goal

pub returns : goal.returns
returns c = let set = c.args.set in c.common.ensures ∙ ap (common set) c.less_one.ensures ∙ common-less_one set
