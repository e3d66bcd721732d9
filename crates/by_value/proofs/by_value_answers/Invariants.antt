-- `by_value::by_value_answers` meets its contract. The loop's invariant: the number of all the events is that of the bytes that are left, from the state
-- and the number so far. A turn takes the three bytes of one event; fewer than three are no event.
-- Assumes nothing.
use Prim.Native.Nat.{◌*◌, ◌≤◌}
use mathlib.Core.Path.{◌≡◌}
use lib.ListN.{length, drop}
use Rattle.by_value.specs.Mixing.{mixed}
use Rattle.by_value.proofs.by_value_answers.Given as goal

abbrev pub invariant-loop-i : goal.invariant-loop-i
invariant-loop-i l = (3 * l.i ≤ length l.events) × (mixed l.initial.state 0 l.events ≡ mixed l.state l.answers (drop (3 * l.i) l.events))
