-- `events::start` meets its contract: refused, or the rank joins the active ones.
-- Assumes nothing.
use mathlib.Core.Path.{refl, sym, ap, ◌∙◌}
use Prim.Native.Nat.{ℕ}
use Rattle.std.specs.Prelude.{Err}
use Rattle.std.proofs.lemmas.Result.{err_from_is_err_and}
use Rattle.state.specs.State.{with_locks, activate}
use Rattle.state.specs.Lent.{state_in, state_in_mut}
use Rattle.events.specs.declared.Answer.TheVariants.{Done}
use Rattle.events.specs.Events.{outcome}
use Rattle.events.proofs.EventLaws as L
use Rattle.events.proofs.start.Goals as goal

pub returns-in_err-start_refusal-clause-next : goal.returns-in_err-start_refusal-clause-next
returns-in_err-start_refusal-clause-next c =
    let a = c.args in
    let p = err_from_is_err_and c.from_residual.result c.from_residual.ensures.1 in
    L.refused_by (state_in_mut a.state.now) (state_in c.read.result) 1 a.rank a.object c.in_err-start_refusal.field-0.0 c.from_residual.result c.read.ensures
    c.in_err-start_refusal.ensures (p.1 ∙ ap Err p.2)

pub with-state-requires : goal.with-state-requires
with-state-requires c =
    let a = c.args in
    L.ranked_by (state_in_mut a.state.now) (state_in c.read.result) 1 a.rank a.object c.read.ensures c.in_ok-start_refusal.ensures c.requires

pub returns-clause-next : goal.returns-clause-next
unfolding activate
returns-clause-next c =
    let a = c.args in
    let s = state_in_mut a.state.now in
    ap (λ (v : ℕ). outcome (Done 0) (with_locks s v s.unlocked s.sleeping s.holder s.readers s.writers s.certified s.request)) c.with-state.ensures
    ∙ sym (L.accepted_start s 1 a.rank a.object refl)
    ∙ L.done_by s (state_in c.read.result) 1 a.rank a.object c.read.ensures c.in_ok-start_refusal.ensures
