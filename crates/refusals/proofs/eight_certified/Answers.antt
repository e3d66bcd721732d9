-- `refusals::eight_certified` meets its contract: where the rank writes none of the eight objects, none is to be certified.
-- Assumes nothing.
use Rattle.std.proofs.Common.{not, ℕ, ◌+◌, ◌-◌, min, sym, ap, ◌∙◌, arith}
use Rattle.basics.specs.Loops.{every_true}
use Rattle.ranks.specs.Ranks.{member}
use Rattle.refusals.specs.Parts.{written_well, eight_unwritten}
use Rattle.refusals.proofs.eight_certified.Goals as goal

pub returns-then-not-contains : goal.returns-then-not-contains
returns-then-not-contains c =
    let a = c.args in
    let w' = a.parts.now.writers.now in
    let m = a.parts.now.certified.now in
    let none = sym (c.contains.ensures ∙ ap (λ (v : ℕ). member v a.rank) c.union_of-together.ensures) ∙ c.if-not-contains.true in
    ap not c.if-not-contains.true ∙ sym (every_true (min (a.from + 8) a.parts.now.counts.objects - a.from) (λ k. written_well w' m a.rank (a.from + k))
    (λ k p q. eight_unwritten w' m a.rank a.from none (a.from + k) (omega arith) (omega arith)))
