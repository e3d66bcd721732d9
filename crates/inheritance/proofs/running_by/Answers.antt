-- `inheritance::running_by` meets its contract. The loop's invariant: `lowest` is the lowest key of the ready ranks passed. A turn takes one rank more.
-- Assumes nothing.
use mathlib.Core.Path.{◌≡◌, refl, sym, ap, ap₂, ◌∙◌}
use mathlib.Core.Bool.{Bool}
use Prim.Native.Nat.{ℕ, ◌+◌, ◌%◌, min}
use native.Mathlib.Omega.{arith}
use Rattle.basics.specs.Arrays.{at, at_next}
use Rattle.basics.specs.Loops.{least, least_more}
use Rattle.weights.specs.Keys.{no_key}
use Rattle.inheritance.specs.Inheriting.{ready_by, ready_key_by, running_by}
use borrow.Author.Rules.{rules}
use Rattle.inheritance.proofs.running_by.Goals as goal

pub loop-i-init : goal.loop-i-init
unfolding least
loop-i-init c = (search rules, refl)

pub loop-i-preserved : goal.loop-i-preserved
loop-i-preserved c =
    let a = c.args in
    let rank = c.loop-i.i in
    let ready : c.is_ready-ready.result ≡ ready_by (at a.processor_of.now (rank + 1)) a.processor a.awake (at a.request.now (rank + 1)) (rank + 1) =
    c.is_ready-ready.ensures
    ∙ ap₂ (λ (own request : ℕ). ready_by own a.processor a.awake request (rank + 1))
    (sym (at_next a.processor_of.now rank)) (sym (at_next a.request.now rank))
    in (
      search rules,
      c.min-lowest.ensures
          ∙ ap₂ min c.loop-i.invariant.1 (c.ready_key.ensures ∙ ap (λ (b : Bool). ready_key_by a.jobs a.named.now b (rank + 1)) ready)
          ∙ sym (least_more rank no_key (λ r. ready_key_by a.jobs a.named.now (ready_by (at a.processor_of.now r) a.processor a.awake (at a.request.now r) r) r)),
    )

pub returns : goal.returns
unfolding running_by
returns c =
    let a = c.args in
    let all : c.loop-i.i ≡ a.jobs = omega arith in
    ap (λ (n : ℕ). n % 256) (c.loop-i.invariant.1 ∙ ap (λ (n : ℕ). least n no_key (λ r. ready_key_by a.jobs a.named.now (ready_by (at a.processor_of.now r) a.processor a.awake (at a.request.now r) r) r)) all)
