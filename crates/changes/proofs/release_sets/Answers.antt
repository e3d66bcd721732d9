-- `changes::release_sets` meets its contract. The loop's invariant: the sets up to the index are without the rank, the others as they were, and `left` has the ranks
-- of those up to the index.
-- Assumes nothing.
use Rattle.std.proofs.Common.{◌≡◌, List, ℕ, suc, ◌+◌, get_or, set, refl, sym, ap, ap₂, ◌∙◌, arith}
use Rattle.basics.specs.Arrays.{at, mapped, mapped_more, mapped_rest, at_next}
use Rattle.ranks.specs.Ranks.{without, union, unions}
use Rattle.ranks.specs.UnionLaws.{unions_next}
use Rattle.changes.proofs.release_sets.Goals as goal

pub loop-set-init : goal.loop-set-init
unfolding mapped unions
loop-set-init c = (omega arith, refl, refl)

pub loop-set-preserved : goal.loop-set-preserved
loop-set-preserved c =
    let i = c.loop-set.set-index in
    let before = c.args.sets.now in
    let f : ℕ → ℕ = λ v. without v c.args.rank in
    let kept = c.without.ensures ∙ ap (λ (x : List ℕ). f (get_or x i 0)) c.loop-set.invariant.1 in (
      omega arith,
      ap (λ (v : ℕ). set c.loop-set.sets i v) c.without.ensures
          ∙ ap (λ (x : List ℕ). set x i (f (get_or x i 0))) c.loop-set.invariant.1 ∙ mapped_more f i before,
      c.union-left.ensures ∙ ap₂ union c.loop-set.invariant.2 (kept ∙ ap f (mapped_rest f i before ∙ sym (at_next before i))) ∙ sym (next before f i),
    )
  where
    next : (before : List ℕ) (f : ℕ → ℕ) (i : ℕ) → unions (i + 1) (λ o. f (at before o)) ≡ union (unions i (λ o. f (at before o))) (f (at before (i + 1)))
    next before f i =
        let same : suc i ≡ i + 1 = omega arith in
        unions_next i (λ o. f (at before o)) ∙ ap (λ (k : ℕ). union (unions i (λ o. f (at before o))) (f (at before k))) same
