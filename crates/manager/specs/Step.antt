-- What an event does: refused with a number, or the rule of its kind.
-- Assumes nothing.
use Rattle.std.specs.Prelude.{ℕ, ◌≡◌, ◌≢◌, true, false}
use Rattle.std.proofs.Common.{eq-eqb, ne_eqb}
use Rattle.state.specs.declared.State.{State}
use Rattle.state.specs.WellFormed.{well_formed}
use Rattle.refusals.specs.Refusals.{refusal}
use Rattle.events.specs.declared.Outcome.{Outcome}
use Rattle.events.specs.declared.Answer.TheVariants.{Refused}
use Rattle.events.specs.Events.{outcome, accepted, unless_refused, perform}

-- an event's answer and the next state, in any state handed in: "Order: 8, then as numbered"
unfoldable pub step : State → ℕ → ℕ → ℕ → Outcome
step s k r o = unless_refused (refusal s k r o) s (accepted s k r o)

pub step_refused : (s : State) (k r o : ℕ) → refusal s k r o ≢ 0 → step s k r o ≡ outcome (Refused (refusal s k r o)) s
unfolding step
step_refused s k r o d = simp (ne_eqb (refusal s k r o) 0 d)

pub step_accepted : (s : State) (k r o : ℕ) → refusal s k r o ≡ 0 → step s k r o ≡ accepted s k r o
unfolding step
step_accepted s k r o e = simp (eq-eqb (refusal s k r o) 0 e)

-- where the state is not well formed, and where it is
pub step_8 : (s : State) (k r o : ℕ) → well_formed s ≡ false → step s k r o ≡ outcome (Refused 8) s
unfolding step refusal
step_8 s k r o e = simp e

pub step_performs : (s : State) (k r o : ℕ) → well_formed s ≡ true → step s k r o ≡ perform s k r o
unfolding step refusal perform
step_performs s k r o e = simp e
