-- `manager::answer_each` meets its contract. The loop's invariant is `Answered`: the answers to all events are those stored so far and then those to the
-- bytes that are left, from the state that the parts are now; and whether that state is well formed is still known. A turn takes the three bytes of one
-- event; fewer than three are no event.
-- Assumes nothing.
use mathlib.Core.Path.{◌≡◌, subst}
use Prim.Native.Nat.{ℕ, ◌*◌, ◌+◌}
use lib.ListN.{set}
use native.Mathlib.Omega.{arith}
use Rattle.state.specs.Lent.{state_in_mut, places_then}
use Rattle.manager.proofs.AnsweringLaws.{Answered, answered_more, answered_all}
use Rattle.manager.proofs.answer_each.Goals as goal

pub loop-i-preserved : goal.loop-i-preserved
loop-i-preserved c =
    let I = c.loop-i.invariant in
    let next : 3 * c.loop-i.i + 3 ≡ 3 * (c.loop-i.i + 1) = omega arith in
    let s = state_in_mut c.args.state.now in (
      subst (λ (place : ℕ). Answered c.args.events.now c.args.well s (state_in_mut c.act_packed.new.state) c.args.answers.now (set c.loop-i.answers c.loop-i.i c.act_packed.result) place (c.loop-i.i + 1)) next
          (answered_more _ _ _ _ _ _ _ _ I.0 (omega arith) _ _ c.act_packed.ensures.next c.act_packed.ensures.answer),
      places_then I.1 c.act_packed.ensures.same,
    )

pub returns-clause-answers : goal.returns-clause-answers
returns-clause-answers c = (answered_all _ _ _ _ _ _ _ _ c.loop-i.invariant.0 (omega arith)).0

pub returns-clause-state : goal.returns-clause-state
returns-clause-state c = (answered_all _ _ _ _ _ _ _ _ c.loop-i.invariant.0 (omega arith)).1
