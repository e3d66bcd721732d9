-- `record::lay_each` meets its contract. The loop's invariant is `Run`: the lines of all the events are those laid so far and then those of the
-- bytes that are left, from the state that the parts are now. A turn takes the three bytes of one event; fewer than three are no event.
-- Assumes nothing.
use mathlib.Core.Path.{◌≡◌, subst}
use Prim.Native.Nat.{ℕ, ◌*◌, ◌+◌}
use native.Mathlib.Omega.{arith}
use Rattle.state.specs.Lent.{state_in_mut, places_then}
use Rattle.record.proofs.RunLaws.{Run, run_turn, run_end}
use Rattle.record.proofs.lay_each.Goals as goal

pub loop-i-preserved : goal.loop-i-preserved
loop-i-preserved c =
    let a = c.args in
    let I = c.loop-i.invariant in
    let laid = c.lay_answered-end in
    let next : 3 * c.loop-i.i + 3 ≡ 3 * (c.loop-i.i + 1) = omega arith in
    let counted : a.events + c.loop-i.i + 1 ≡ a.events + (c.loop-i.i + 1) = omega arith in
    let turn = run_turn _ _ _ _ _ _ _ _ _ _ I.0 (omega arith) _ _ _ laid.ensures.next laid.ensures.line in (
      subst (λ (place : ℕ). Run a.bytes.now a.well (state_in_mut a.state.now) (state_in_mut laid.new.state) a.events (a.events + (c.loop-i.i + 1)) a.buf.now laid.new.buf place laid.result) next
          (subst (λ (number : ℕ). Run a.bytes.now a.well (state_in_mut a.state.now) (state_in_mut laid.new.state) a.events number a.buf.now laid.new.buf (3 * c.loop-i.i + 3) laid.result) counted turn),
      places_then I.1 laid.ensures.same,
    )

pub returns-clause-next : goal.returns-clause-next
returns-clause-next c = (run_end _ _ _ _ _ _ _ _ _ _ c.loop-i.invariant.0 (omega arith)).0

pub returns-clause-lines : goal.returns-clause-lines
returns-clause-lines c = (run_end _ _ _ _ _ _ _ _ _ _ c.loop-i.invariant.0 (omega arith)).1
