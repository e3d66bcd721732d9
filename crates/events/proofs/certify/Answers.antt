-- `events::certify` meets its contract: refused, or rank and object are in range and the request is granted or waits.
-- Assumes nothing.
use mathlib.Core.Path.{refl, sym, ap, ◌∙◌}
use Rattle.std.specs.Prelude.{Err}
use Rattle.std.proofs.lemmas.Result.{err_from_is_err_and}
use Rattle.state.specs.Lent.{state_in, state_in_mut}
use native.Mathlib.Omega.{arith}
use Rattle.events.proofs.EventLaws as L
use Rattle.events.proofs.certify.Goals as goal

pub returns-in_err-certify_refusal-clause-next : goal.returns-in_err-certify_refusal-clause-next
returns-in_err-certify_refusal-clause-next c =
    let a = c.args in
    let p = err_from_is_err_and c.from_residual.result c.from_residual.ensures.1 in
    L.refused_by (state_in_mut a.state.now) (state_in c.read.result) 7 a.rank a.object c.in_err-certify_refusal.field-0.0 c.from_residual.result c.read.ensures
    c.in_err-certify_refusal.ensures (p.1 ∙ ap Err p.2)

pub grant_or_wait-requires : goal.grant_or_wait-requires
grant_or_wait-requires c =
    let a = c.args in
    let s = state_in_mut a.state.now in
    let H = c.requires.1 in
    let r = L.ranked_by s (state_in c.read.result) 7 a.rank a.object c.read.ensures c.in_ok-certify_refusal.ensures c.requires.0 in
    let o = L.object_by s (state_in c.read.result) 7 a.rank a.object c.read.ensures c.in_ok-certify_refusal.ensures refl H.few in
    (omega arith, omega arith, r.0, r.1, o.0, o.1, H)

pub returns-clause-next : goal.returns-clause-next
returns-clause-next c =
    let a = c.args in
    let s = state_in_mut a.state.now in
    c.grant_or_wait.ensures.next
    ∙ sym (L.accepted_certify s 7 a.rank a.object refl)
    ∙ L.done_by s (state_in c.read.result) 7 a.rank a.object c.read.ensures c.in_ok-certify_refusal.ensures
