-- An event in a well-formed state leaves a well-formed state: first a request, then the search for a waiting job, then the rules of the kinds, then any event.
-- Assumes nothing.
use Rattle.std.specs.Prelude.{◌≡◌, Bool, ℕ, zero, suc, ◌≤◌, if◌then◌else◌}
use Rattle.std.proofs.Math.Path.{refl}
use Rattle.std.proofs.Common.{sym, subst, inl, inr, arith, ne_eqb}
use Rattle.std.proofs.Math.Bool.{true, false}
use Rattle.std.proofs.lemmas.Bool.{not-false}
use Rattle.basics.specs.Choice.{and_left, between_true}
use Rattle.state.specs.declared.State.{State}
use Rattle.state.specs.State.{read, write, certify, is_active, is_sleeping, requested_mode, requested_object, await, grant, release, end_run}
use Rattle.state.specs.Facts.{RequestFacts, Facts}
use Rattle.state.specs.WellFormedFacts.{sleeper_free}
use Rattle.state.specs.Keeping.{activate_keeps, await_keeps, fall_asleep_keeps, awaken_keeps, end_keeps, grant_keeps}
use Rattle.state.proofs.Releasing.{release_keeps}
use Rattle.rule.specs.Granting.{passes, wakes, wakeable}
use Rattle.state.specs.Holders.{holder_facts}
use Rattle.rule.proofs.ConflictLaws.{above_others, no_conflict}
use Rattle.rule.specs.WakeLaws.{FoundAt, Found, wakeable_found, wakes_is}
use Rattle.refusals.specs.Refusals.{event_refusal}
use Rattle.refusals.specs.AcceptedEvent.{AcceptedEvent, event_not_refused, not_waiting, read_facts, write_facts, certify_facts}
use Rattle.events.specs.declared.Answer.{Answer}
use Rattle.events.specs.declared.Answer.TheVariants.{Granted, Refused}
use Rattle.events.specs.Events.{outcome, request_meeting, request, woken, wake, accepted, unless_refused, perform}

-- ---- a request

module _ (s : State) (F : Facts s) (r : ℕ) (low : 1 ≤ r) (high : r ≤ s.counts.jobs) (m o : ℕ) (A : RequestFacts s m r o) where
  -- it passes and gets its lock
  passed_keeps : passes s r ≡ true → Facts (grant s m r o)
  passed_keeps pass = grant_keeps s F r low high m o A (no_conflict s F r low high m o A pass) (above_others s (holder_facts s F) r pass)

  -- it gets its lock, or the job waits
  request_keeps : Facts (request s m r o).state
  unfolding request_meeting
  request_keeps = go (passes s r) _ refl
    where
      go : (b : Bool) (waits : Answer) → passes s r ≡ b → Facts (if b then outcome Granted (grant s m r o) else outcome waits (await s m r o)).state
      go true waits e = passed_keeps e
      go false waits e = await_keeps s F r low high m o A

-- ---- the search for a waiting job

-- a job that is woken gets the lock that it asked for
woken_granted : (s : State) (w : ℕ) → 1 ≤ w → woken s w ≡ grant s (requested_mode s w) w (requested_object s w)
unfolding woken
woken_granted s w low = simp (ne_eqb w 0 (λ e. omega arith))

-- the search finds nobody, or a job whose request passes: what holds in both cases holds of what it finds and the state with that job woken
pub by_search : (s : State) (P : ℕ → State → Type 0) → (((i : ℕ) → 1 ≤ i → i ≤ s.counts.jobs → wakes s i ≡ 0) → P 0 s)
    → ((w : ℕ) → FoundAt s.counts.jobs (wakes s) w → P w (grant s (requested_mode s w) w (requested_object s w)))
    → P (wakeable s) (woken s (wakeable s))
unfolding woken
by_search s P none one = go (wakeable s) (wakeable_found s)
  where
    go : (w : ℕ) → Found s.counts.jobs (wakes s) w → P w (woken s w)
    go w (inl z) = subst (λ v. P v (woken s v)) (sym z.0) (none z.1)
    go w (inr W) = subst (P w) (sym (woken_granted s w W.low)) (one w W)

woken_keeps : (s : State) → Facts s → Facts (woken s (wakeable s))
woken_keeps s F =
    by_search s (λ w t. Facts t) (λ none. F)
    (λ w W. (let is = wakes_is s w W.low W.itself in
    passed_keeps s F w W.low W.high (requested_mode s w) (requested_object s w) (F.requests w is.0) is.1))

-- ---- the rules of the kinds

-- the release of an unlock that is not refused
pub release_accepted_keeps : (s : State) → Facts s → (r o : ℕ) → AcceptedEvent s 4 r o → Facts (release s r o)
release_accepted_keeps s F r o A =
    let object = between_true 1 s.counts.objects o A.object in
    release_keeps s F r A.rank.0 A.rank.1 o object.0 (omega (arith, F.counts.objects)) (not-false (is_active s r) A.not_13)
    (not_waiting s r A.not_14)

-- an event that is not refused
accepted_keeps : (s : State) → Facts s → (k r o : ℕ) → AcceptedEvent s k r o → Facts (accepted s k r o).state
unfolding accepted wake
accepted_keeps s F zero r o A = F
accepted_keeps s F (suc zero) r o A = activate_keeps s F r A.rank.0 A.rank.1 A.not_12
accepted_keeps s F (suc (suc zero)) r o A = request_keeps s F r A.rank.0 A.rank.1 read o (read_facts s F.version r o A)
accepted_keeps s F (suc (suc (suc zero))) r o A = request_keeps s F r A.rank.0 A.rank.1 write o (write_facts s F.version r o A)
accepted_keeps s F (suc (suc (suc (suc zero)))) r o A = woken_keeps (release s r o) (release_accepted_keeps s F r o A)
accepted_keeps s F (suc (suc (suc (suc (suc zero))))) r o A = woken_keeps (end_run s r) (end_keeps s F r A.rank.0 A.rank.1)
accepted_keeps s F (suc (suc (suc (suc (suc (suc zero)))))) r o A = woken_keeps (end_run s r) (end_keeps s F r A.rank.0 A.rank.1)
accepted_keeps s F (suc (suc (suc (suc (suc (suc (suc zero))))))) r o A =
    request_keeps s F r A.rank.0 A.rank.1 certify o (certify_facts s F.version r o A)
accepted_keeps s F (suc (suc (suc (suc (suc (suc (suc (suc zero)))))))) r o A =
    fall_asleep_keeps s F r A.rank.0 A.rank.1 (not-false (is_active s r) A.not_13) (not_waiting s r A.not_14)
accepted_keeps s F (suc (suc (suc (suc (suc (suc (suc (suc (suc zero))))))))) r o A =
    awaken_keeps s F r A.rank.0 A.rank.1 (sleeper_free s F r (not-false (is_sleeping s r) A.not_27))
accepted_keeps s F (suc (suc (suc (suc (suc (suc (suc (suc (suc (suc k)))))))))) r o A =
    absurd (omega (arith, between_true 1 9 (suc (suc (suc (suc (suc (suc (suc (suc (suc (suc k)))))))))) (and_left _ _ A.kind)))

-- ---- any event

-- of any kind or none, refused or not
pub perform_keeps : (s : State) → Facts s → (k r o : ℕ) → Facts (perform s k r o).state
unfolding perform
perform_keeps s F k r o = go (event_refusal s k r o) refl
  where
    go : (n : ℕ) → event_refusal s k r o ≡ n → Facts (unless_refused n s (accepted s k r o)).state
    go zero e = accepted_keeps s F k r o (event_not_refused s k r o e)
    go (suc n) e =
        subst (λ b. Facts (if b then accepted s k r o else outcome (Refused (suc n)) s).state) (sym (ne_eqb (suc n) 0 (λ q. omega arith))) F
