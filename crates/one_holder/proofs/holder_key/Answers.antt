-- `one_holder::holder_key` meets its contract. The loop's invariant: `lowest` is the lowest key on the gathered objects passed. The
-- lowest over all gathered objects is the lowest of the holder's keys.
-- Assumes nothing.
use mathlib.Core.Path.{◌≡◌, refl, sym, ap, ap₂, ◌∙◌}
use Prim.Native.Nat.{ℕ, ◌+◌, min}
use native.Mathlib.Omega.{arith}
use Rattle.basics.specs.Arrays.{at, at_next}
use Rattle.basics.specs.Loops.{least, least_more}
use Rattle.weights.specs.Keys.{no_key}
use Rattle.state.specs.Lent.{state_in}
use Rattle.one_holder.specs.OneHolder.{holder_key_at}
use Rattle.one_holder.specs.Gathering.{gathered_key}
use Rattle.one_holder.proofs.holder_key.Goals as goal

pub loop-i-init : goal.loop-i-init
unfolding least
loop-i-init c = (omega arith, refl)

pub own_key_at-key-requires : goal.own_key_at-key-requires
own_key_at-key-requires c =
    let i = c.loop-i.i in
    let w = c.locked_by-locked.ensures.locks.locks.inside (i + 1) (omega arith) (omega (arith, c.loop-i-test.true)) in
    let here = at_next c.locked_by-locked.result.objects i in
    (omega (arith, here, w.0), omega (arith, here, w.1, c.requires), omega (arith, c.locked_by-locked.ensures.locks.rank (omega (arith, c.loop-i-test.true))), c.requires.1)

pub loop-i-preserved : goal.loop-i-preserved
loop-i-preserved c =
    let a = c.args in
    let s = state_in a.parts.now in
    let list = c.locked_by-locked.result.objects in
    let key : ℕ → ℕ = (λ k. holder_key_at s a.holder (at list k)) in (
      omega (arith, c.loop-i-test.true),
      c.min-lowest.ensures ∙ ap₂ min c.loop-i.invariant.1 (c.own_key_at-key.ensures ∙ ap (holder_key_at s a.holder) (sym (at_next list c.loop-i.i))) ∙ sym (least_more c.loop-i.i no_key key),
    )

pub returns : goal.returns
returns c =
    let a = c.args in
    let s = state_in a.parts.now in
    let list = c.locked_by-locked.result.objects in
    let all : c.loop-i.i ≡ c.locked_by-locked.result.count = omega (arith, c.loop-i.invariant.0, c.loop-i-test.false) in
    c.loop-i.invariant.1 ∙ ap (λ (n : ℕ). least n no_key (λ k. holder_key_at s a.holder (at list k))) all
    ∙ gathered_key s a.holder list c.locked_by-locked.result.count c.locked_by-locked.ensures.locks
