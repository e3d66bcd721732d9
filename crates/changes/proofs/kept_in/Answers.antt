-- `changes::kept_in` meets its contract. The loop's invariant: what is left is a part of the word, and of the objects that are not left those are kept that the rank
-- does not write. A turn takes the first of the rest, so that the first of what is left comes later: the loop ends.
-- Assumes nothing.
use Prim.Native.Nat.{ℕ, suc, ◌+◌, ◌-◌}
use mathlib.Core.Path.{◌≡◌, sym, subst, ap, ◌∙◌}
use native.Mathlib.Omega.{arith}
use borrow.Author.Tests.{eqb-true}
use Rattle.basics.specs.Arrays.{at}
use Rattle.ranks.specs.Ranks.{member, without, first}
use Rattle.ranks.specs.RankLaws.{first-le, first_there, first-without}
use Rattle.changes.proofs.Dropping.{Kept, one_dropped, one_kept, none_left}
use Rattle.changes.proofs.kept_in.Goals as goal
use Rattle.changes.proofs.kept_in.Goals.{then-contains, else-contains}

pub loop-place-smaller : goal.loop-place-smaller
loop-place-smaller c =
    let rest = c.loop-place.rest in
    let f = first_there 64 c.loop-place.rest (sym c.is_empty.ensures ∙ c.loop-place-test.true) c.loop-place.invariant.rest_small in
    let after : c.without-rest.result ≡ without rest (first 64 rest) = c.without-rest.ensures ∙ ap (without rest) c.first-place.ensures in
    omega (arith, f.1, first-without 64 rest f.1, ap (first 64) after, first-le 64 (without rest (first 64 rest)))

pub loop-place-preserved : goal.loop-place-preserved
loop-place-preserved c =
    let a = c.args in
    let rest = c.loop-place.rest in
    let f = first_there 64 rest (sym c.is_empty.ensures ∙ c.loop-place-test.true) c.loop-place.invariant.rest_small in
    let here : suc (a.from + c.first-place.result - 1) ≡ a.from + first 64 rest = omega (arith, c.first-place.ensures, f.0) in
    let written = c.contains.ensures ∙ ap (λ (o : ℕ). member (at a.writers.now o) a.rank) here in
    let less = c.without-rest.ensures ∙ ap (without rest) c.first-place.ensures in
    elim c.if-contains.branch [
      | then-contains w ↦ subst (λ (x : ℕ). Kept a.rank a.writers.now a.from a.word x c.if-contains.kept) (sym less)
          (subst (Kept a.rank a.writers.now a.from a.word (without rest (first 64 rest)))
          (sym (w.kept-is ∙ w.without-kept.ensures ∙ ap (without c.loop-place.kept) c.first-place.ensures))
          (one_dropped a.rank a.writers.now a.from a.word rest c.loop-place.kept (first 64 rest) c.loop-place.invariant f.2 (sym written ∙ w.if-contains.true)))
      | else-contains w ↦ subst (λ (x : ℕ). Kept a.rank a.writers.now a.from a.word x c.if-contains.kept) (sym less)
          (subst (Kept a.rank a.writers.now a.from a.word (without rest (first 64 rest))) (sym w.kept-is)
          (one_kept a.rank a.writers.now a.from a.word rest c.loop-place.kept (first 64 rest) c.loop-place.invariant f.2 (sym written ∙ w.if-contains.false)))
    ]

pub returns : goal.returns
returns c =
    let a = c.args in
    none_left a.rank a.writers.now a.from a.word c.loop-place.rest c.loop-place.kept c.loop-place.invariant
    (eqb-true c.loop-place.rest 0 (sym c.is_empty.ensures ∙ c.loop-place-test.false)) (omega arith)
