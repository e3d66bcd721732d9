-- `manager::act_known` meets its contract: a state that is not well formed leaves by 8 as it came; in any other the event is that of its kind.
-- Assumes nothing.
use mathlib.Core.Path.{sym, ap, ◌∙◌}
use Prim.Native.Nat.{ℕ}
use Rattle.state.specs.Lent.{state_in_mut}
use Rattle.events.specs.declared.Answer.TheVariants.{Refused}
use Rattle.events.specs.Events.{outcome}
use Rattle.manager.specs.Step.{step_8}
use Rattle.manager.proofs.act_known.Goals as goal

pub returns-then-not-well-clause-next : goal.returns-then-not-well-clause-next
returns-then-not-well-clause-next c =
    let a = c.args in
    ap (λ (n : ℕ). outcome (Refused n) (state_in_mut a.state.now)) c.number.ensures
    ∙ sym (step_8 (state_in_mut a.state.now) a.kind a.rank a.object (sym c.requires.found ∙ c.if-not-well.true))
