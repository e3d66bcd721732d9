-- `inheritance::inherited_by` meets its contract. The loop's invariant: `inherited` is the most urgent of the rank and of those passed that name it. A turn
-- takes one rank more.
-- Assumes nothing.
use mathlib.Core.Path.{refl, sym, ap, ap₂, ◌∙◌}
use Prim.Native.Nat.{ℕ, ◌+◌, min}
use Rattle.basics.specs.Arrays.{at, at_next}
use Rattle.basics.specs.Loops.{least, least_more}
use Rattle.weights.specs.Keys.{key_holder}
use Rattle.inheritance.specs.Inheriting.{heir, inherited_by}
use borrow.Author.Rules.{rules}
use Rattle.inheritance.proofs.inherited_by.Goals as goal

pub loop-before-init : goal.loop-before-init
unfolding inherited_by least
loop-before-init c = (search rules, refl)

pub loop-before-preserved : goal.loop-before-preserved
unfolding inherited_by
loop-before-preserved c =
    let a = c.args in
    let other = c.loop-before.before in
    let named = c.lock_holder-holder.ensures ∙ ap key_holder (sym (at_next a.named.now other)) in (
      search rules,
      c.min-inherited.ensures
          ∙ ap₂ min c.loop-before.invariant.1 (c.heir.ensures ∙ ap (λ (n : ℕ). heir n a.rank (other + 1)) named)
          ∙ sym (least_more other a.rank (λ r. heir (key_holder (at a.named.now r)) a.rank r)),
    )
