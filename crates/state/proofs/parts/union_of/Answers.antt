-- `state::union_of` meets its contract. The loop's invariant: the union is that of the first k sets; a turn joins one more.
-- Assumes nothing.
use Prim.Native.Nat.{◌+◌}
use mathlib.Core.Path.{refl, sym, ap, ap₂, ◌∙◌}
use native.Mathlib.Nat.{add-suc}
use native.Mathlib.Omega.{arith}
use Rattle.basics.specs.Arrays.{at}
use Rattle.ranks.specs.Ranks.{union, unions}
use Rattle.ranks.specs.UnionLaws.{unions_next}
use Rattle.state.proofs.parts.union_of.Goals as goal

pub loop-k-init : goal.loop-k-init
unfolding unions
loop-k-init c = (omega arith, refl)

pub loop-k-preserved : goal.loop-k-preserved
loop-k-preserved c =
    let a = c.args in
    let set = a.sets.now in
    let i = c.loop-k.k in
    (omega arith, c.union-all.ensures ∙ ap₂ union c.loop-k.invariant.1 (sym (ap (at set) (add-suc a.from i))) ∙ sym (unions_next i (λ j. at set (a.from + j))))
