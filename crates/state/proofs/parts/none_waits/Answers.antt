-- `state::none_waits` meets its contract. The loop's invariant: the joined requests are 0 if and only if the first k are; a turn joins one more.
-- Assumes nothing.
use Prim.Native.Nat.{ℕ, suc, ◌+◌}
use mathlib.Core.Path.{◌≡◌, refl, sym, ap, ap₂, ◌∙◌}
use mathlib.Core.Bool.{◌&&◌}
use native.Mathlib.Omega.{arith}
use lib.Dec.{eqb}
use lib.ListN.{get_or}
use Rattle.basics.specs.Arrays.{at}
use Rattle.basics.specs.Loops.{every, every_more}
use Rattle.ranks.specs.UnionLaws.{empty_union}
use Rattle.state.proofs.parts.none_waits.Goals as goal

pub loop-k-init : goal.loop-k-init
unfolding every
loop-k-init c = (omega arith, refl)

pub loop-k-preserved : goal.loop-k-preserved
loop-k-preserved c =
    let a = c.args in
    let asked = a.request.now in
    let i = c.loop-k.k in
    let next : suc (a.from + i) ≡ a.from + (i + 1) = omega arith in (
      omega arith,
      empty_union c.loop-k.any (get_or asked (a.from + i) 0)
          ∙ ap₂ ◌&&◌ c.loop-k.invariant.1 (ap (λ (j : ℕ). eqb (at asked j) 0) next) ∙ sym (every_more i (λ j. eqb (at asked (a.from + j)) 0)),
    )
