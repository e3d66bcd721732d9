-- An event keeps the version; and in version 2 a job that finishes has no write lock that is not certified, by refusal 25.
-- Assumes nothing.
use Rattle.std.specs.Prelude.{◌≡◌, refl, ◌≢◌, Bool, true, false, ◌||◌, ℕ, zero, suc, eqb, if◌then◌else◌}
use Rattle.std.proofs.Common.{subst, ap, arith}
use Rattle.std.proofs.lemmas.Bool.{not-false}
use Rattle.basics.specs.Choice.{between}
use Rattle.state.specs.declared.Counts.{Counts}
use Rattle.state.specs.declared.State.{State}
use Rattle.state.specs.State.{write, activate, await, grant, release, fall_asleep, awaken, end_run}
use Rattle.state.specs.Facts.{Facts}
use Rattle.weights.specs.Keys.{lowest_key}
use Rattle.rule.specs.Granting.{passes_below, wakeable}
use Rattle.refusals.specs.Refusals.{is_request, mode_of, all_certified, refusal}
use Rattle.refusals.specs.AcceptedEvent.{AcceptedEvent, not_refused}
use Rattle.events.specs.declared.Outcome.{Outcome}
use Rattle.events.specs.Answers.{Paper, paper}
use Rattle.events.specs.Events.{request_meeting, woken, wake, accepted}
use Rattle.manager.specs.Step.{step, step_refused}
use Rattle.promises.specs.Terms.{is_granted, is_waits, is_done, happened}
use Rattle.promises.specs.LockModes.{held_mode}
use Rattle.promises.proofs.CertifiedLocks.{not_25_modes}

-- ---- an event keeps the table's counts, the version among them

either_way : {A B : Type 0} (f : A → B) (b : Bool) {x y : A} {v : B} → f x ≡ v → f y ≡ v → f (if b then x else y) ≡ v
either_way f true e g = e
either_way f false e g = g

woken_counts : (s : State) (w : ℕ) → (woken s w).counts ≡ s.counts
unfolding woken grant
woken_counts s w = either_way (λ (t : State). t.counts) (eqb w 0) refl refl

request_counts : (s : State) (m r o k : ℕ) → (request_meeting s m r o k).state.counts ≡ s.counts
unfolding request_meeting grant await
request_counts s m r o k = either_way (λ (x : Outcome). x.state.counts) (passes_below r k) refl refl

accepted_counts : (s : State) (k r o : ℕ) → (accepted s k r o).state.counts ≡ s.counts
unfolding accepted wake activate release end_run fall_asleep awaken
accepted_counts s k r o =
    let counts : Outcome → Counts = λ x. x.state.counts in
    either_way counts (eqb k 1) refl
    (either_way counts (is_request k) (request_counts s (mode_of k) r o (lowest_key s r))
    (either_way counts (eqb k 4) (woken_counts (release s r o) (wakeable (release s r o)))
    (either_way counts (between 5 6 k) (woken_counts (end_run s r) (wakeable (end_run s r)))
    (either_way counts (between 8 9 k) (either_way (λ (t : State). t.counts) (eqb k 8) refl refl) refl))))

pub step_counts : (s : State) (k r o : ℕ) → (step s k r o).state.counts ≡ s.counts
unfolding step
step_counts s k r o = either_way (λ (x : Outcome). x.state.counts) (eqb (refusal s k r o) 0) (accepted_counts s k r o) refl

-- ---- a finish

-- an event whose label is that of a finish is of kind 5
finish_kind : (k : ℕ) (p : Paper) → happened k p ≡ 5 → k ≡ 5
finish_kind k p = go (is_granted p) (is_waits p) (is_done p) (eqb k 1 || between 4 6 k)
  where
    go : (granted waits done moves : Bool) → (if granted then 2 else if waits then 3 else if done then (if moves then k else 0) else 0) ≡ 5 → k ≡ 5
    go true waits done moves e = absurd (omega arith)
    go false true done moves e = absurd (omega arith)
    go false false true false e = absurd (omega arith)
    go false false true true e = e
    go false false false moves e = absurd (omega arith)

pub finish_modes : (s : State) → Facts s → s.counts.version ≡ 2 → (k r o : ℕ) → happened k (paper (step s k r o).answer) ≡ 5
    → (p : ℕ) → held_mode s r p ≢ write
finish_modes s F second k r o done = go (refusal s k r o) refl
  where
    go : (n : ℕ) → refusal s k r o ≡ n → (p : ℕ) → held_mode s r p ≢ write
    go zero e =
        let A = subst (λ n. AcceptedEvent s n r o) (finish_kind k (paper (step s k r o).answer) done) (not_refused s k r o e) in
        not_25_modes s F second r (not-false (all_certified s r) A.not_25)
    go (suc n) e =
        let answer = ap (λ (x : Outcome). happened k (paper x.answer)) (step_refused s k r o (λ q. omega arith)) in
        absurd (omega (arith, answer, done))
