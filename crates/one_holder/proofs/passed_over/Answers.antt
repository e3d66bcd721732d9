-- `one_holder::passed_over` meets its contract: a rank that is in none of the joined sets is in none of the sets.
-- Assumes nothing.
use mathlib.Core.Path.{refl, sym, ap, ◌∙◌}
use mathlib.Core.Logic.{inr}
use Prim.Native.Nat.{ℕ}
use native.Mathlib.Omega.{arith}
use Rattle.ranks.specs.Ranks.{member, union}
use Rattle.one_holder.specs.Gathering.{block_free}
use Rattle.one_holder.proofs.passed_over.Goals as goal

pub returns-else-contains : goal.returns-else-contains
returns-else-contains c =
    let a = c.args in
    let joined = c.union-held.ensures ∙ (λ i. union (c.union_of.ensures i) (c.union_of-2.ensures i)) in
    let none = ap (λ (set : ℕ). member set a.rank) (sym joined) ∙ sym c.contains.ensures ∙ c.if-contains.false in
    inr (refl, omega (arith, c.if-from-ne0.false, c.requires), block_free a.parts.now.readers.now a.parts.now.writers.now a.rank a.from none)
