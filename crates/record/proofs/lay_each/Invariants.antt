-- `record::lay_each` meets its contract. The loop's invariant is `Run`: the lines of all the events are those laid so far and then those of the
-- bytes that are left, from the state that the parts are now. A turn takes the three bytes of one event; fewer than three are no event.
-- Assumes nothing.
use Prim.Native.Nat.{◌*◌, ◌+◌}
use Rattle.state.specs.Lent.{state_in_mut, SamePlaces}
use Rattle.record.proofs.RunLaws.{Run}
use Rattle.record.proofs.lay_each.Given as goal

abbrev pub invariant-loop-i : goal.invariant-loop-i
invariant-loop-i l =
    Run l.bytes l.well (state_in_mut l.initial.state) (state_in_mut l.state) l.events (l.events + l.i) l.initial.buf l.buf (3 * l.i) l.end
    × SamePlaces l.initial.state l.state
