-- `events::finish` meets its contract: refused, or the rank is in range and its run ends.
-- Assumes nothing.
use mathlib.Core.Path.{sym, ap, ◌∙◌}
use Rattle.std.specs.Prelude.{Err}
use Rattle.std.proofs.lemmas.Result.{err_from_is_err_and}
use Rattle.state.specs.Lent.{state_in, state_in_mut}
use Rattle.events.proofs.EventLaws as L
use Rattle.events.proofs.finish.Goals as goal

pub returns-in_err-finish_refusal-clause-next : goal.returns-in_err-finish_refusal-clause-next
returns-in_err-finish_refusal-clause-next c =
    let a = c.args in
    let p = err_from_is_err_and c.from_residual.result c.from_residual.ensures.1 in
    L.refused_by (state_in_mut a.state.now) (state_in c.read.result) a.kind a.rank a.object c.in_err-finish_refusal.field-0.0 c.from_residual.result c.read.ensures
    c.in_err-finish_refusal.ensures (p.1 ∙ ap Err p.2)

pub end_run-requires : goal.end_run-requires
end_run-requires c =
    let a = c.args in
    let P = c.requires in
    let r = L.ranked_by (state_in_mut a.state.now) (state_in c.read.result) a.kind a.rank a.object c.read.ensures c.in_ok-finish_refusal.ensures P.0.jobs_fit in
    (P.0.jobs_fit, r.0, r.1, P.0.requests_fit, P.3)

pub returns-clause-next : goal.returns-clause-next
returns-clause-next c =
    let a = c.args in
    let s = state_in_mut a.state.now in
    c.end_run.ensures.next
    ∙ sym (L.accepted_finish s a.kind a.rank a.object c.requires.1 c.requires.2)
    ∙ L.done_by s (state_in c.read.result) a.kind a.rank a.object c.read.ensures c.in_ok-finish_refusal.ensures
