-- `ranks::most_urgent` meets its contract: the empty set has none, any other its first.
-- Assumes nothing.
use Rattle.std.proofs.Common.{◌≡◌, sym, ap, ◌∙◌, arith, ne_eqb}
use Rattle.ranks.specs.Ranks.{most_urgent}
use Rattle.ranks.specs.FirstLaws.{most_urgent_none, most_urgent-first}
use Rattle.ranks.proofs.most_urgent.Goals as goal

pub returns-then-set-eq0 : goal.returns-then-set-eq0
returns-then-set-eq0 c = let none : c.args.set ≡ 0 = omega arith in sym (ap most_urgent none ∙ most_urgent_none)

pub returns-else-set-eq0 : goal.returns-else-set-eq0
returns-else-set-eq0 c = let set = c.args.set in c.first.ensures ∙ sym (most_urgent-first set (ne_eqb set 0 (λ z. omega arith)))
