-- `events::sleep` meets its contract: refused, or the rank is in range and the job falls asleep or is awakened.
-- Assumes nothing.
use mathlib.Core.Path.{refl, sym, ap, ◌∙◌}
use Rattle.std.specs.Prelude.{Err}
use Rattle.std.proofs.lemmas.Result.{err_from_is_err_and}
use Rattle.state.specs.Lent.{state_in, state_in_mut}
use Rattle.events.proofs.EventLaws as L
use Rattle.events.proofs.sleep.Goals as goal

pub returns-in_err-sleep_refusal-clause-next : goal.returns-in_err-sleep_refusal-clause-next
returns-in_err-sleep_refusal-clause-next c =
    let a = c.args in
    let p = err_from_is_err_and c.from_residual.result c.from_residual.ensures.1 in
    L.refused_by (state_in_mut a.state.now) (state_in c.read.result) a.kind a.rank a.object c.in_err-sleep_refusal.field-0.0 c.from_residual.result c.read.ensures
    c.in_err-sleep_refusal.ensures (p.1 ∙ ap Err p.2)

pub sleep_or_awaken-requires : goal.sleep_or_awaken-requires
sleep_or_awaken-requires c =
    let a = c.args in
    L.ranked_by (state_in_mut a.state.now) (state_in c.read.result) a.kind a.rank a.object c.read.ensures c.in_ok-sleep_refusal.ensures c.requires.0

pub returns-clause-next : goal.returns-clause-next
returns-clause-next c =
    let a = c.args in
    let s = state_in_mut a.state.now in
    c.sleep_or_awaken.ensures s refl
    ∙ sym (L.accepted_sleep s a.kind a.rank a.object c.requires.1 c.requires.2)
    ∙ L.done_by s (state_in c.read.result) a.kind a.rank a.object c.read.ensures c.in_ok-sleep_refusal.ensures
