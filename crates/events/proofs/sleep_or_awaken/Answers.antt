-- `events::sleep_or_awaken` meets its contract: the rank joins the sleepers or leaves them, whatever else the state has.
-- Assumes nothing.
use mathlib.Core.Path.{sym, ap, ◌∙◌}
use mathlib.Core.Bool.{Bool}
use Prim.Native.Nat.{ℕ}
use borrow.Author.Tests.{eq-eqb, ne_eqb}
use Rattle.std.specs.Prelude.{if◌then◌else◌}
use Rattle.ranks.specs.Ranks.{with, without}
use Rattle.state.specs.declared.State.{State}
use Rattle.state.specs.State.{with_sleepers, fall_asleep, awaken}
use Rattle.events.specs.declared.Outcome.{Outcome}
use Rattle.events.specs.declared.Answer.TheVariants.{Done}
use Rattle.events.specs.Events.{outcome}
use Rattle.events.proofs.sleep_or_awaken.Goals as goal

-- what is done by kind
abbrev by_kind : State → ℕ → Bool → Outcome
by_kind s r b = outcome (Done 0) (if b then fall_asleep s r else awaken s r)

pub returns-then-kind-eq8 : goal.returns-then-kind-eq8
unfolding fall_asleep
returns-then-kind-eq8 c s is =
    let r = c.args.rank in
    ap (λ (z : ℕ). outcome (Done 0) (with_sleepers s z)) (c.with.ensures ∙ ap (λ (z : ℕ). with z r) (sym is))
    ∙ ap (by_kind s r) (sym (eq-eqb c.args.kind 8 c.if-kind-eq8.true))

pub returns-else-kind-eq8 : goal.returns-else-kind-eq8
unfolding awaken
returns-else-kind-eq8 c s is =
    let r = c.args.rank in
    ap (λ (z : ℕ). outcome (Done 0) (with_sleepers s z)) (c.without.ensures ∙ ap (λ (z : ℕ). without z r) (sym is))
    ∙ ap (by_kind s r) (sym (ne_eqb c.args.kind 8 c.if-kind-eq8.false))
