-- `manager::answer_each` meets its contract. The loop's invariant is `Answered`: the answers to all events are those stored so far and then those to the
-- bytes that are left, from the state that the parts are now; and whether that state is well formed is still known. A turn takes the three bytes of one
-- event; fewer than three are no event.
-- Assumes nothing.
use Prim.Native.Nat.{◌*◌}
use Rattle.state.specs.Lent.{state_in_mut, SamePlaces}
use Rattle.manager.proofs.AnsweringLaws.{Answered}
use Rattle.manager.proofs.answer_each.Given as goal

abbrev pub invariant-loop-i : goal.invariant-loop-i
invariant-loop-i l =
    Answered l.events l.well (state_in_mut l.initial.state) (state_in_mut l.state) l.initial.answers l.answers (3 * l.i) l.i × SamePlaces l.initial.state l.state
