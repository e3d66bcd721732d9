-- `events::wake` meets its contract: whoever is found waits, so its request is for an object that the arrays have.
-- Assumes nothing.
use mathlib.Core.Path.{◌≡◌, sym, ap, ap₂, subst, ◌∙◌}
use Prim.Native.Nat.{ℕ, ◌≤◌}
use native.Mathlib.Omega.{arith}
use Rattle.std.specs.Prelude.{◌≢◌}
use Rattle.basics.specs.Arrays.{at, put, at_index}
use Rattle.state.specs.State.{most_jobs, most_objects, mode_of_request, object_of_request, requested_mode, requested_object, grant_readers, grant_writers, grant_marks, with_locks, grant}
use Rattle.state.specs.declared.State.{State}
use Rattle.state.specs.Lent.{state_in_mut}
use Rattle.refusals.specs.Accepting.{RequestsFit}
use Rattle.rule.specs.Granting.{wakeable}
use Rattle.events.specs.declared.Answer.TheVariants.{Done}
use Rattle.events.specs.Events.{outcome}
use Rattle.rule.specs.WakeLaws.{woken_waits}
use Rattle.events.proofs.EventLaws as L
use Rattle.events.proofs.wake.Goals as goal

-- whoever is found is a rank, and waits for an object that the arrays have
pub record Found (request : ℕ) (rank : ℕ) : Type 0 where
  pub first : 1 ≤ rank
  pub last : rank ≤ most_jobs
  pub object : (1 ≤ object_of_request request) × (object_of_request request ≤ most_objects)

found : (s : State) (r : ℕ) → s.counts.jobs ≤ most_jobs → RequestsFit s.request → r ≡ wakeable s → r ≢ 0 → Found (at s.request r) r
found s r few fit e some =
    let w = woken_waits s (λ z. some (e ∙ z)) in
    let low : 1 ≤ r = omega arith in
    let high : r ≤ most_jobs = omega (arith, e, w.0, few) in
    record { first = low; last = high; object = fit r low high (λ z. w.1 (ap (at s.request) (sym e) ∙ z)) }

pub bounds-state-rank : goal.bounds-state-rank
bounds-state-rank c =
    let s = state_in_mut c.args.state.now in
    let f = found s c.wakeable-rank.result c.requires.0 c.requires.1 (c.wakeable-rank.ensures ∙ ap wakeable c.read.ensures) c.if-rank-ne0.true in
    omega (arith, f.first, f.last)

pub grant-requires : goal.grant-requires
grant-requires c =
    let s = state_in_mut c.args.state.now in
    let f = found s c.wakeable-rank.result c.requires.0 c.requires.1 (c.wakeable-rank.ensures ∙ ap wakeable c.read.ensures) c.if-rank-ne0.true in
    let e = c.object_of_request.ensures ∙ ap object_of_request (sym (at_index s.request c.wakeable-rank.result f.first)) in
    (f.first, f.last, subst (λ (o : ℕ). 1 ≤ o) (sym e) f.object.0, subst (λ (o : ℕ). o ≤ most_objects) (sym e) f.object.1)

pub returns-then-rank-ne0-clause-next : goal.returns-then-rank-ne0-clause-next
unfolding grant
returns-then-rank-ne0-clause-next c =
    let s = state_in_mut c.args.state.now in
    let r = c.wakeable-rank.result in
    let is = c.wakeable-rank.ensures ∙ ap wakeable c.read.ensures in
    let f = found s r c.requires.0 c.requires.1 is c.if-rank-ne0.true in
    let m = c.mode_of_request.ensures ∙ ap mode_of_request (sym (at_index s.request r f.first)) in
    let o = c.object_of_request.ensures ∙ ap object_of_request (sym (at_index s.request r f.first)) in
    ap (λ (x : State). outcome (Done r) (with_locks x x.active x.unlocked x.sleeping r x.readers x.writers x.certified x.request)) c.grant.ensures.next
    ∙ ap₂ (λ (m o : ℕ). outcome (Done r) (with_locks s s.active s.unlocked s.sleeping r (grant_readers m r o s.readers) (grant_writers m r o s.writers) (grant_marks m o s.certified) (put s.request r 0))) m o
    ∙ ap (λ (h : ℕ). outcome (Done r) (with_locks s s.active s.unlocked s.sleeping h (grant_readers (requested_mode s r) r (requested_object s r) s.readers) (grant_writers (requested_mode s r) r (requested_object s r) s.writers) (grant_marks (requested_mode s r) (requested_object s r) s.certified) (put s.request r 0)))
    (L.woken_carries s c.requires.2 r is c.requires.0 f.first f.object)
    ∙ sym (L.woken_some s r is c.if-rank-ne0.true)

pub returns-else-rank-ne0-clause-next : goal.returns-else-rank-ne0-clause-next
returns-else-rank-ne0-clause-next c =
    let s = state_in_mut c.args.state.now in
    ap (λ (r : ℕ). outcome (Done r) s) c.if-rank-ne0.false
    ∙ sym (L.woken_none s (sym (c.wakeable-rank.ensures ∙ ap wakeable c.read.ensures) ∙ c.if-rank-ne0.false))
