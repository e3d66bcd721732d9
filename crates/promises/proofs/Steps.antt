-- Each event in a well-formed state is a step as the theory asks: first each rule, then any event.
-- Assumes nothing.
use Rattle.std.specs.Prelude.{◌≡◌, ◌≢◌, Bool, true, false, not, eqb, if◌then◌else◌}
use Rattle.std.proofs.Math.Path.{refl, sym, subst, ap}
use Rattle.std.proofs.Common.{◌∙◌, ne_eqb}
use Rattle.std.proofs.Math.Logic.{inl, inr}
use Prim.Native.Nat.{ℕ, zero, suc, ◌≤◌, ◌<◌}
use native.Mathlib.Omega.{arith}
use Rattle.std.proofs.Math.Decide.{ℕ_discrete}
use Rattle.std.proofs.lemmas.Bool.{not-false}
use Rattle.basics.specs.Choice.{clash, between, and_left, between_true}
use Rattle.ranks.specs.Ranks.{with, without}
use Rattle.ranks.specs.RankLaws.{member-with_same, member-without_same}
use Rattle.state.specs.declared.State.{State}
use Rattle.state.specs.State.{most_objects, read, write, certify, holds, holds_any, is_certified, is_active, has_unlocked, request_of, mode_of_request, object_of_request, requested_object}
use Rattle.state.specs.State.{with_sleepers, activate, await, grant, release, fall_asleep, awaken, end_run}
use Rattle.state.specs.Facts.{RequestFacts, Facts}
use Rattle.state.specs.Changes.{activate_same, await_same, object_fits, await_request, grant_request, grant_same, grant_locks}
use Rattle.state.specs.Changes.{end_request, end_same, end_none, end_locks}
use Rattle.state.specs.Keeping.{end_keeps}
use Rattle.state.proofs.Releasing.{release_none, release_same, release_locks, release_keeps}
use Rattle.weights.specs.Keys.{no_weight, key_holder, key_object, lowest_key}
use Rattle.rule.specs.Granting.{passes, reason, wakeable}
use Rattle.rule.proofs.ConflictLaws.{no_conflict}
use Rattle.events.specs.declared.Outcome.{Outcome}
use Rattle.events.specs.declared.Answer.TheVariants.{Granted, Waits, Refused}
use Rattle.events.specs.Answers.{Paper, paper}
use Rattle.refusals.specs.Refusals.{mode_of, refusal}
use Rattle.refusals.specs.AcceptedEvent.{AcceptedEvent, not_refused, not_waiting, read_facts, write_facts, certify_facts}
use Rattle.events.specs.Events.{outcome, request_meeting, request, woken, wake, accepted}
use Rattle.manager.specs.Step.{step}
use Rattle.theory.specs.Words.{Label, Ends}
use Rattle.theory.specs.Machine.{MayRequest, Step}
use Rattle.theory.specs.Build.{labelled}
use Rattle.theory.proofs.Build.{ends_run, nothing_step, refused_step, start_step, grant_step, wait_step, unlock_step, end_step}
use Rattle.theory.specs.Modes.{ModeStep}
use Rattle.theory.proofs.Modes.{nothing_modes, wait_modes, grant_modes, release_modes}
use Rattle.promises.specs.Terms.{happened, label_of}
use Rattle.promises.proofs.Weights.{passes_all, fails_blocked}
use Rattle.promises.specs.View.{as_number, view}
use Rattle.promises.proofs.Frames.{weight_frame, requested_frame, active_frame, unlocked_frame, no_weight_lem, took_grant}
use Rattle.promises.specs.LockModes.{modes}
use Rattle.promises.proofs.LockModes.{read_mode, mode_frame, asked_frame, given_grant}
use Rattle.promises.proofs.Waking.{woken_wakes, woken_modes}

-- what is shown of an event with this label that goes from s to t
pub record Goes (s : State) (l : Label) (t : State) : Type 0 where
  pub step : Step no_weight (view s) l (view t)
  pub moves : ModeStep (view s) (modes s) l (modes t)
  -- what is granted was asked for as the refusals allow
  pub granted : l.what ≡ 2 → RequestFacts s l.mode l.job l.object

-- ---- the rules

module _ (s : State) (F : Facts s) (r : ℕ) (low : 1 ≤ r) (high : r ≤ s.counts.jobs) where
  small : r < no_weight
  small = omega (arith, F.counts.jobs)

  -- no request is seen of a job that does not wait
  free : request_of s r ≡ 0 → requested_object s r ≡ 0
  free e = ap object_of_request e

  start_goes : (o : ℕ) → is_active s r ≡ false → Goes s (labelled 1 r o 0 0) (activate s r)
  unfolding activate
  start_goes o idle = record {
    step =
        start_step r o (λ x p. weight_frame s (activate s r) x p (record { locks = λ m. refl; certified = λ h. refl })) (λ x. refl) (ap as_number idle) active
        (λ x. elim (ℕ_discrete r x) [ yes e ↦ inr e | no d ↦ inl (active_frame s (activate s r) x (activate_same s r x d)) ]) (λ x. refl);
    moves = nothing_modes 1 r o (omega arith) (λ x. refl) (λ x p. refl);
    granted = λ e. absurd (omega arith);
  }
    where
      active : as_number (is_active (activate s r) r) ≢ 0
      active e = let z : as_number (is_active (activate s r) r) ≡ 1 = ap as_number (member-with_same s.active r low) in omega arith

  module _ (m o : ℕ) (A : RequestFacts s m r o) (none : request_of s r ≡ 0) where
    may : MayRequest no_weight (view s) r
    may = record {
      positive = low;
      rank = small;
      active = λ e. (let z : as_number (is_active s r) ≡ 1 = ap as_number A.active in omega arith);
      not_unlocked = ap as_number A.not_unlocked;
    }

    grant_goes : passes s r ≡ true → Goes s (labelled 2 r o m 0) (grant s m r o)
    unfolding grant
    grant_goes e = record {
      step =
          grant_step r o m may (free none) (λ x. refl) (λ x. refl) (took_grant s F r low high m o A (passes_all s F r small e))
          (λ x. ap object_of_request (same_requests x));
      moves =
          grant_modes r o m (given_grant s F r low high m o A (no_conflict s F r low high m o A e))
          (λ x p. elim (grant_locks s F r m o A x p) [ inl same ↦ inl (mode_frame s (grant s m r o) x p same) | inr own ↦ inr own ])
          (λ x. ap mode_of_request (same_requests x));
      granted = λ q. A;
    }
      where
        same_requests : (x : ℕ) → request_of (grant s m r o) x ≡ request_of s x
        same_requests x = elim (ℕ_discrete r x) [
          | yes q ↦ subst (λ y. request_of (grant s m r o) y ≡ request_of s y) q (grant_request s F r m o A ∙ sym none)
          | no d ↦ (grant_same s F r m o A x d).request
        ]

    wait_goes : passes s r ≡ false → Goes s (labelled 3 r o m 0) (await s m r o)
    unfolding await
    wait_goes e = record {
      step =
          wait_step r o m may (free none) (λ x. refl) (λ x. refl) A.object.0 (fails_blocked s F r small e)
          (λ x p. weight_frame s (await s m r o) x p (record { locks = λ n. refl; certified = λ h. refl }))
          (ap object_of_request (await_request s F r m o A) ∙ omega (arith, object_fits s F r m o A))
          (λ x. elim (ℕ_discrete r x) [ yes q ↦ inr q | no d ↦ inl (requested_frame s (await s m r o) x (await_same s r m o x d)) ]);
      moves =
          wait_modes r o m (ap mode_of_request (await_request s F r m o A) ∙ omega (arith, object_fits s F r m o A))
          (λ x. elim (ℕ_discrete r x) [ yes q ↦ inr q | no d ↦ inl (asked_frame s (await s m r o) x (await_same s r m o x d)) ])
          (λ x p. refl);
      granted = λ q. absurd (omega arith);
    }

    request_goes : (k : ℕ) → m ≡ mode_of k → Goes s (label_of k r o (paper (request s m r o).answer)) (request s m r o).state
    unfolding request_meeting
    request_goes k mode = go (passes s r) refl
      where
        key : ℕ
        key = lowest_key s r

        answered : Bool → Outcome
        answered b =
            if b then outcome Granted (grant s m r o) else
            outcome (Waits (key_holder key) (key_object key) (reason s m o (key_holder key) (key_object key))) (await s m r o)

        go : (b : Bool) → passes s r ≡ b → Goes s (label_of k r o (paper (answered b).answer)) (answered b).state
        go true e = subst (λ n. Goes s (labelled 2 r o n 0) (grant s m r o)) mode (grant_goes e)
        go false e = subst (λ n. Goes s (labelled 3 r o n 0) (await s m r o)) mode (wait_goes e)

  unlock_goes : (o : ℕ) → 1 ≤ o → o ≤ s.counts.objects → is_active s r ≡ true → request_of s r ≡ 0
      → not (holds_any s r o) ≡ false → holds s write r o ≡ false
      → Goes s (labelled 4 r o 0 (wakeable (release s r o))) (woken (release s r o) (wakeable (release s r o)))
  unfolding release
  unlock_goes o a b active none held unwritten =
      let in_array : o ≤ most_objects = omega (arith, F.counts.objects) in
      let same = release_same s r F.sized o a in_array in
      let locks = release_locks s r F.sized o a in_array in
      let keeps = release_keeps s F r low high o a in_array active none in
      let woke = woken_wakes (release s r o) keeps in
      record {
        step =
            unlock_step r o (wakeable (release s r o)) (view (release s r o)) woke (free none)
            (no_weight_lem (release s r o) r o (release_none s r F.sized o a in_array unwritten))
            (λ x p. elim (locks x p) [ inl l ↦ inl (weight_frame s (release s r o) x p l) | inr own ↦ inr own ])
            (λ x. refl) (λ x. refl) marked
            (λ x. elim (ℕ_discrete r x) [ yes e ↦ inr e | no d ↦ inl (unlocked_frame s (release s r o) x (same x d)) ]);
        moves =
            release_modes 4 r o (wakeable (release s r o)) (view (release s r o)) (modes (release s r o)) (woken_modes (release s r o) keeps)
            (omega arith) (λ l e. woke.waited l (ap (requested_object s) e ∙ free none)) (λ x. inl refl)
            (λ x p. elim (locks x p) [ inl l ↦ inl (mode_frame s (release s r o) x p l) | inr own ↦ inr (inl (omega arith)) ])
            (λ x. inl refl) (λ e. read_mode (holds s write r o) (is_certified s o) (holds s read r o) held unwritten);
        granted = λ e. absurd (omega arith);
      }
    where
      marked : as_number (has_unlocked (release s r o) r) ≢ 0
      marked e = let z : as_number (has_unlocked (release s r o) r) ≡ 1 = ap as_number (member-with_same s.unlocked r low) in omega arith

  -- other sleepers are not seen here
  sleepers_go : (o z : ℕ) → Goes s (labelled 0 r o 0 0) (with_sleepers s z)
  sleepers_go o z = record {
    step =
        nothing_step r o (λ x p. weight_frame s (with_sleepers s z) x p (record { locks = λ m. refl; certified = λ h. refl })) (λ x. refl) (λ x. refl) (λ x. refl);
    moves = nothing_modes 0 r o (omega arith) (λ x. refl) (λ x p. refl);
    granted = λ e. absurd (omega arith);
  }

  -- what: 5 finish, 6 abandon
  end_goes : (what o : ℕ) → 5 ≤ what → what ≤ 6 → (what ≤ 5 → request_of s r ≡ 0)
      → Goes s (labelled what r o 0 (wakeable (end_run s r))) (woken (end_run s r) (wakeable (end_run s r)))
  unfolding end_run
  end_goes what o five six none =
      let same = end_same s F r in
      let keeps = end_keeps s F r low high in
      let woke = woken_wakes (end_run s r) keeps in
      let dropped : requested_object (end_run s r) r ≡ 0 = ap object_of_request (end_request s F r low high) in
      record {
        step =
            end_step r o (wakeable (end_run s r)) (view (end_run s r)) woke what five six (λ l. free (none l))
            (λ p. no_weight_lem (end_run s r) r p (λ m. end_none s F r m p))
            (λ x p. elim (end_locks s F r x p) [ inl l ↦ inl (weight_frame s (end_run s r) x p l) | inr own ↦ inr own ])
            dropped
            (λ x. elim (ℕ_discrete r x) [ yes e ↦ inr e | no d ↦ inl (requested_frame s (end_run s r) x (same x d)) ])
            (ap as_number (member-without_same s.active r))
            (λ x. elim (ℕ_discrete r x) [ yes e ↦ inr e | no d ↦ inl (active_frame s (end_run s r) x (same x d)) ])
            (λ x. elim (ℕ_discrete r x) [ yes e ↦ inr e | no d ↦ inl (unlocked_frame s (end_run s r) x (same x d)) ]);
        moves =
            release_modes what r o (wakeable (end_run s r)) (view (end_run s r)) (modes (end_run s r)) (woken_modes (end_run s r) keeps)
            (omega arith) (λ l e. woke.waited l (ap (requested_object (end_run s r)) e ∙ dropped))
            (λ x. elim (ℕ_discrete r x) [ yes e ↦ inr (ends x e) | no d ↦ inl (requested_frame s (end_run s r) x (same x d)) ])
            (λ x p. elim (end_locks s F r x p) [ inl l ↦ inl (mode_frame s (end_run s r) x p l) | inr own ↦ inr (inr (ends x own)) ])
            (λ x. elim (ℕ_discrete r x) [ yes e ↦ inr (ends x e) | no d ↦ inl (asked_frame s (end_run s r) x (same x d)) ])
            (λ e. absurd (omega arith));
        granted = λ e. absurd (omega arith);
      }
    where
      ends : (x : ℕ) → r ≡ x → Ends (labelled what r o 0 (wakeable (end_run s r))) x
      ends x e = ends_run five six e

-- ---- any event

abbrev pub OutcomeGoes : State → ℕ → ℕ → ℕ → Outcome → Type 0
OutcomeGoes s k r o x = Goes s (label_of k r o (paper x.answer)) x.state

accepted_goes : (s : State) → Facts s → (k r o : ℕ) → AcceptedEvent s k r o → OutcomeGoes s k r o (accepted s k r o)
unfolding accepted wake fall_asleep awaken
accepted_goes s F zero r o A = absurd (clash A.kind refl)
accepted_goes s F (suc zero) r o A = start_goes s F r A.rank.0 A.rank.1 o A.not_12
accepted_goes s F (suc (suc zero)) r o A =
    request_goes s F r A.rank.0 A.rank.1 read o (read_facts s F.version r o A) (not_waiting s r A.not_14) 2 refl
accepted_goes s F (suc (suc (suc zero))) r o A =
    request_goes s F r A.rank.0 A.rank.1 write o (write_facts s F.version r o A) (not_waiting s r A.not_14) 3 refl
accepted_goes s F (suc (suc (suc (suc zero)))) r o A =
    let object = between_true 1 s.counts.objects o A.object in
    unlock_goes s F r A.rank.0 A.rank.1 o object.0 object.1 (not-false (is_active s r) A.not_13)
    (not_waiting s r A.not_14) A.not_18 A.not_21
accepted_goes s F (suc (suc (suc (suc (suc zero))))) r o A =
    end_goes s F r A.rank.0 A.rank.1 5 o (omega arith) (omega arith) (λ l. not_waiting s r A.not_14)
accepted_goes s F (suc (suc (suc (suc (suc (suc zero)))))) r o A =
    end_goes s F r A.rank.0 A.rank.1 6 o (omega arith) (omega arith) (λ l. absurd (omega arith))
accepted_goes s F (suc (suc (suc (suc (suc (suc (suc zero))))))) r o A =
    request_goes s F r A.rank.0 A.rank.1 certify o (certify_facts s F.version r o A) (not_waiting s r A.not_14) 7 refl
accepted_goes s F (suc (suc (suc (suc (suc (suc (suc (suc zero)))))))) r o A = sleepers_go s F r A.rank.0 A.rank.1 o (with s.sleeping r)
accepted_goes s F (suc (suc (suc (suc (suc (suc (suc (suc (suc zero))))))))) r o A = sleepers_go s F r A.rank.0 A.rank.1 o (without s.sleeping r)
accepted_goes s F (suc (suc (suc (suc (suc (suc (suc (suc (suc (suc k)))))))))) r o A =
    absurd (omega (arith, between_true 1 9 (suc (suc (suc (suc (suc (suc (suc (suc (suc (suc k)))))))))) (and_left _ _ A.kind)))

pub step_goes : (s : State) → Facts s → (k r o : ℕ) → OutcomeGoes s k r o (step s k r o)
unfolding step
step_goes s F k r o = go (refusal s k r o) refl
  where
    go : (n : ℕ) → refusal s k r o ≡ n → OutcomeGoes s k r o (if eqb n 0 then accepted s k r o else outcome (Refused n) s)
    go zero e = accepted_goes s F k r o (not_refused s k r o e)
    go (suc n) e =
        subst (λ b. OutcomeGoes s k r o (if b then accepted s k r o else outcome (Refused (suc n)) s))
        (sym (ne_eqb (suc n) 0 (λ q. omega arith)))
        (record {
          step = refused_step (view s) r o;
          moves = nothing_modes 0 r o (omega arith) (λ x. refl) (λ x p. refl);
          granted = λ q. absurd (omega arith);
        })

-- an event of kinds 4 to 6 that is answered done has its kind in its label
pub done_kind : (k : ℕ) (p : Paper) → between 4 6 k ≡ true → p.number ≡ 3 → 4 ≤ happened k p
done_kind k p kind done =
    let known = between_true 4 6 k kind in
    let is : happened k p ≡ k = simp (done, kind, ne_eqb k 1 (λ q. omega arith)) in
    omega arith
