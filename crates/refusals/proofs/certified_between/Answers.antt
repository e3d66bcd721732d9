-- `refusals::certified_between` meets its contract: what it asks of each index is what is said of the object there.
-- Assumes nothing.
use Rattle.std.proofs.Common.{Bool, ℕ, ◌+◌, ◌-◌, refl, ap, ◌∙◌, arith, rules, tests}
use Rattle.std.proofs.lemmas.Iterator.{YieldsList-from_range}
use Rattle.std.proofs.lemmas.Iterator.Search.{all_from_yields_List}
use Rattle.basics.specs.Loops.{all_every}
use Rattle.refusals.specs.Parts.{written_well}
use Rattle.refusals.proofs.certified_between.Goals as goal

pub returns : goal.returns
returns c =
    let a = c.args in
    let w' = a.parts.now.writers.now in
    let m = a.parts.now.certified.now in
    let test : ℕ → Bool = λ i. written_well w' m a.rank (i + 1) in
    all_from_yields_List test _ _ _ c.all.ensures.ran (YieldsList-from_range a.from a.last _ refl refl) (λ x b q k. search (rules, tests))
    ∙ all_every a.from (a.last - a.from) test (λ k. written_well w' m a.rank (a.from + k)) (λ i h. ap (written_well w' m a.rank) (omega arith))
