-- `events::unlock` meets its contract: refused, or the parts that it changes are those of the state after the release, and that of the wake follows.
-- Assumes nothing.
use mathlib.Core.Path.{◌≡◌, refl, sym, subst, ap, ◌∙◌}
use Rattle.std.specs.Prelude.{Err}
use Rattle.std.proofs.lemmas.Result.{err_from_is_err_and}
use Rattle.state.specs.Lent.{state_in, state_in_mut}
use mathlib.Core.Logic.{inl, inr}
use Prim.Native.Nat.{◌≤◌}
use Rattle.state.specs.declared.State.{State}
use Rattle.state.specs.State.{most_jobs, with_locks, release}
use Rattle.state.specs.Holders.{HolderFacts, release_holders}
use Rattle.refusals.specs.Accepting.{RequestsFit}
use Rattle.events.specs.Events as E
use Rattle.events.proofs.EventLaws as L
use Rattle.events.proofs.unlock.Goals as goal
use Rattle.events.proofs.unlock.Goals.{then-state-rank, else-state-rank}

pub returns-in_err-unlock_refusal-clause-next : goal.returns-in_err-unlock_refusal-clause-next
returns-in_err-unlock_refusal-clause-next c =
    let a = c.args in
    let p = err_from_is_err_and c.from_residual.result c.from_residual.ensures.1 in
    L.refused_by (state_in_mut a.state.now) (state_in c.read.result) 4 a.rank a.object c.in_err-unlock_refusal.field-0.0 c.from_residual.result c.read.ensures
    c.in_err-unlock_refusal.ensures (p.1 ∙ ap Err p.2)

pub release-requires : goal.release-requires
release-requires c =
    let a = c.args in
    let s = state_in_mut a.state.now in
    let r = L.ranked_by s (state_in c.read.result) 4 a.rank a.object c.read.ensures c.in_ok-unlock_refusal.ensures c.requires.0.jobs_fit in
    let o = L.object_by s (state_in c.read.result) 4 a.rank a.object c.read.ensures c.in_ok-unlock_refusal.ensures refl c.requires.0.objects_fit in
    (r.0, r.1, o.0, o.1)

-- the parts are those of the state after the release
after_release : (c : goal.After-wake-arg-1) → state_in_mut c.if-state-rank.state ≡ release (state_in_mut c.args.state.now) c.args.rank c.args.object
unfolding release
after_release c =
    let a = c.args in
    let s = state_in_mut a.state.now in
    let H = c.requires.1 in
    let o = L.object_by s (state_in c.read.result) 4 a.rank a.object c.read.ensures c.in_ok-unlock_refusal.ensures refl c.requires.0.objects_fit in
    let reads = c.release.ensures.1 in
    elim c.if-state-rank.branch [
      | then-state-rank w ↦
          (λ i. state_in_mut (w.state-is i))
          ∙ (λ i. with_locks s s.active (c.release.ensures.0 i) s.sleeping (L.next_holder s H a.rank a.object o.0 o.1 w.holder_of-state.result _ reads (inl (w.if-state-rank.true, w.holder_of-state.ensures)) i) (reads i) s.writers s.certified s.request)
      | else-state-rank w ↦
          (λ i. state_in_mut (w.state-is i))
          ∙ (λ i. with_locks s s.active (c.release.ensures.0 i) s.sleeping (L.next_holder s H a.rank a.object o.0 o.1 s.holder _ reads (inr (w.if-state-rank.false, refl)) i) (reads i) s.writers s.certified s.request)
    ]

pub wake-requires : goal.wake-requires
unfolding release
wake-requires c =
    let a = c.args in
    let s = state_in_mut a.state.now in
    let H = c.requires.1 in
    let o = L.object_by s (state_in c.read.result) 4 a.rank a.object c.read.ensures c.in_ok-unlock_refusal.ensures refl c.requires.0.objects_fit in
    subst (λ (x : State). (x.counts.jobs ≤ most_jobs) × RequestsFit x.request × HolderFacts x) (sym (after_release c))
    (c.requires.0.jobs_fit, c.requires.0.requests_fit, release_holders s H a.rank a.object o.0 o.1)

pub returns-clause-next : goal.returns-clause-next
returns-clause-next c =
    let a = c.args in
    let s = state_in_mut a.state.now in
    c.wake.ensures.next ∙ ap E.wake (after_release c.before)
    ∙ sym (L.accepted_unlock s 4 a.rank a.object refl)
    ∙ L.done_by s (state_in c.read.result) 4 a.rank a.object c.read.ensures c.in_ok-unlock_refusal.ensures
