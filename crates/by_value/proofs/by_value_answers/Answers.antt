-- `by_value::by_value_answers` meets its contract. The loop's invariant: the number of all the events is that of the bytes that are left, from the state
-- and the number so far. A turn takes the three bytes of one event; fewer than three are no event.
-- Assumes nothing.
use Prim.Native.Nat.{ℕ, ◌+◌, ◌*◌}
use mathlib.Core.List.{List}
use mathlib.Core.Path.{◌≡◌, sym, ap, ap₂, ◌∙◌}
use native.Mathlib.Omega.{arith}
use lib.Bits.{bit_xor}
use lib.ListN.{drop, length-drop}
use Rattle.state.specs.declared.State.{State}
use Rattle.events.specs.declared.Outcome.{Outcome}
use Rattle.events.specs.Packing.{packed}
use Rattle.by_value.specs.Mixing.{mixed, mixed_next, mixed_none}
use Rattle.by_value.proofs.by_value_answers.Goals as goal

pub loop-i-preserved : goal.loop-i-preserved
loop-i-preserved c =
    let events : List ℕ = c.args.events.now in
    let at : ℕ = 3 * c.loop-i.i in
    let next : at + 3 ≡ 3 * (c.loop-i.i + 1) = omega arith in
    let outcome = c.event-outcome.ensures.0 in
    let number = c.pack-answers.ensures.0 ∙ ap (λ (o : Outcome). packed o.answer) outcome in (
      omega arith,
      c.loop-i.invariant.1
          ∙ mixed_next c.loop-i.state c.loop-i.answers events at (omega arith)
          ∙ ap₂ (λ (s : State) (n : ℕ). mixed s (bit_xor c.loop-i.answers n) (drop (at + 3) events)) (ap (λ (o : Outcome). o.state) (sym outcome)) (sym number)
          ∙ ap (λ (i : ℕ). mixed c.event-outcome.result.state (bit_xor c.loop-i.answers c.pack-answers.result) (drop i events)) next,
    )

pub returns : goal.returns
returns c =
    let inv = c.loop-i.invariant in
    let events : List ℕ = c.args.events.now in
    sym (mixed_none _ _ _ (omega (arith, length-drop (3 * c.loop-i.i) events)))
    ∙ sym inv.1
    ∙ ap (λ (s : State). mixed s 0 events) c.start-state.ensures
