-- `events::lock` meets its contract: refused, or rank and object are in range and the request is granted or waits.
-- Assumes nothing.
use mathlib.Core.Path.{◌≡◌, sym, ap, ◌∙◌}
use mathlib.Core.Bool.{true, ◌||◌}
use lib.Dec.{eqb}
use Rattle.std.specs.Prelude.{Err}
use Rattle.std.proofs.lemmas.Result.{err_from_is_err_and}
use Rattle.state.specs.Lent.{state_in, state_in_mut}
use native.Mathlib.Omega.{arith}
use Rattle.basics.specs.Choice.{inside_between}
use Rattle.refusals.specs.Refusals.{is_request}
use Rattle.events.proofs.EventLaws as L
use Rattle.events.proofs.lock.Goals as goal

pub returns-in_err-lock_refusal-clause-next : goal.returns-in_err-lock_refusal-clause-next
returns-in_err-lock_refusal-clause-next c =
    let a = c.args in
    let p = err_from_is_err_and c.from_residual.result c.from_residual.ensures.1 in
    L.refused_by (state_in_mut a.state.now) (state_in c.read.result) a.kind a.rank a.object c.in_err-lock_refusal.field-0.0 c.from_residual.result c.read.ensures
    c.in_err-lock_refusal.ensures (p.1 ∙ ap Err p.2)

pub grant_or_wait-requires : goal.grant_or_wait-requires
grant_or_wait-requires c =
    let a = c.args in
    let s = state_in_mut a.state.now in
    let P = c.requires in
    let H = P.3 in
    let asked : (is_request a.kind || eqb a.kind 4) ≡ true = simp (inside_between 2 3 a.kind P.1 P.2) in
    let r = L.ranked_by s (state_in c.read.result) a.kind a.rank a.object c.read.ensures c.in_ok-lock_refusal.ensures P.0 in
    let o = L.object_by s (state_in c.read.result) a.kind a.rank a.object c.read.ensures c.in_ok-lock_refusal.ensures asked H.few in
    (omega (arith, P.1), omega (arith, P.2), r.0, r.1, o.0, o.1, H)

pub returns-clause-next : goal.returns-clause-next
returns-clause-next c =
    let a = c.args in
    let s = state_in_mut a.state.now in
    c.grant_or_wait.ensures.next
    ∙ sym (L.accepted_lock s a.kind a.rank a.object c.requires.1 c.requires.2)
    ∙ L.done_by s (state_in c.read.result) a.kind a.rank a.object c.read.ensures c.in_ok-lock_refusal.ensures
