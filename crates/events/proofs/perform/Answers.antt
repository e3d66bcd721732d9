-- `events::perform` meets its contract: each arm is the rule of its kind, and an event of any other kind is refused by 9.
-- Assumes nothing.
use mathlib.Core.Path.{◌≡◌, ap, ◌∙◌}
use mathlib.Core.Bool.{false}
use Prim.Native.Nat.{ℕ, ◌≤◌}
use native.Mathlib.Omega.{arith}
use borrow.Author.Tests.{le-leb, lt-leb}
use Rattle.basics.specs.Choice.{between}
use Rattle.state.specs.Lent.{state_in_mut}
use Rattle.events.specs.declared.Answer.{Answer}
use Rattle.events.specs.Answers.{answer_of}
use Rattle.events.specs.Events as E
use Rattle.events.proofs.EventLaws as L
use Rattle.events.proofs.perform.Goals as goal
use Rattle.events.proofs.perform.Goals.{in-1, in-4, in-7, in-2, in-5, in-8, in-0, in-0-2}

-- a kind past 9 is none of the nine
beyond : (k : ℕ) → 10 ≤ k → between 1 9 k ≡ false
beyond k h = simp (le-leb 1 k (omega arith), lt-leb k 9 (omega arith))

pub returns-clause-next : goal.returns-clause-next
returns-clause-next c =
    let a = c.args in
    let s = state_in_mut a.state.now in
    let by : ℕ → _ = λ (k : ℕ). E.perform s k a.rank a.object in
    ap (λ (x : Answer). E.outcome x (state_in_mut c.match-kind.state)) c.answer_of.ensures ∙ elim c.match-kind.branch [
      | in-1 w ↦ (let is : 1 ≡ a.kind = omega (arith, w.in-1) in (λ i. E.outcome (answer_of (w.answer_of-is i)) (state_in_mut (w.state-is i))) ∙ w.start.ensures.next ∙ ap by is)
      | in-4 w ↦ (let is : 4 ≡ a.kind = omega (arith, w.in-4) in (λ i. E.outcome (answer_of (w.answer_of-is i)) (state_in_mut (w.state-is i))) ∙ w.unlock.ensures.next ∙ ap by is)
      | in-7 w ↦ (let is : 7 ≡ a.kind = omega (arith, w.in-7) in (λ i. E.outcome (answer_of (w.answer_of-is i)) (state_in_mut (w.state-is i))) ∙ w.certify.ensures.next ∙ ap by is)
      | in-2 w ↦ (λ i. E.outcome (answer_of (w.answer_of-is i)) (state_in_mut (w.state-is i))) ∙ w.lock.ensures.next
      | in-5 w ↦ (λ i. E.outcome (answer_of (w.answer_of-is i)) (state_in_mut (w.state-is i))) ∙ w.finish.ensures.next
      | in-8 w ↦ (λ i. E.outcome (answer_of (w.answer_of-is i)) (state_in_mut (w.state-is i))) ∙ w.sleep.ensures.next
      | in-0 w ↦ (let is : a.kind ≡ 0 = omega (arith, w.in-0) in (λ i. E.outcome (answer_of (w.answer_of-is i)) (state_in_mut (w.state-is i))) ∙ L.perform_unknown s a.kind a.rank a.object (ap (between 1 9) is))
      | in-0-2 w ↦ (λ i. E.outcome (answer_of (w.answer_of-is i)) (state_in_mut (w.state-is i))) ∙ L.perform_unknown s a.kind a.rank a.object (beyond a.kind (omega (arith, w.in-0)))
    ]
