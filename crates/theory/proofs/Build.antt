-- One law for each kind of event: what a manager shows of its own rules so that the event is a Step.
use Rattle.std.specs.Prelude.{◌≡◌, refl, ◌≢◌, ◌⊎◌, ℕ, ◌≤◌, ◌<◌}
use Rattle.std.proofs.Common.{sym, ap, ◌∙◌, inl, inr, arith}
use Rattle.std.proofs.Math.Decide.{dec_le}
use Rattle.theory.specs.Words.{Label, Starts, Unlocks, Ends}
use Rattle.theory.specs.Machine.{View, Blocked, Took, MayRequest, Releases, TurnsWait, Step}
use Rattle.theory.specs.Build.{labelled, Woke}

-- what: 5 finish, 6 abandonment
pub ends_run : {what j o w x : ℕ} → 5 ≤ what → what ≤ 6 → j ≡ x → Ends (labelled what j o 0 w) x
ends_run {what} five six e =
    record { finish_or_abandonment_done = elim (dec_le what 5) [ yes l ↦ inl (omega arith) | no l ↦ inr (omega arith) ]; of_job = e }

module _ {N : ℕ} {s s' : View} where
  -- an event that releases nothing and searches for nobody
  quiet_step : (l : Label) → l.what ≤ 3 → l.woken ≡ 0
      → (l.what ≡ 1 → (s.active l.job ≡ 0) × (s'.active l.job ≢ 0))
      → (2 ≤ l.what → MayRequest N s l.job × (s.requested l.job ≡ 0))
      → (l.what ≡ 2 → Took s.weight s'.weight l.job l.object)
      → (l.what ≡ 3 → (0 < l.object) × (s'.requested l.job ≡ l.object) × Blocked s.weight l.job)
      → (l.what ≢ 2 → (r p : ℕ) → s'.weight r p ≡ s.weight r p)
      → ((x : ℕ) → (s'.requested x ≡ s.requested x) ⊎ TurnsWait l x)
      → ((x : ℕ) → (s'.active x ≡ s.active x) ⊎ (Starts l x ⊎ Ends l x))
      → ((x : ℕ) → s'.unlocked x ≡ s.unlocked x) → Step N s l s'
  quiet_step l kind nobody start request grant wait weight requested active unlocked = record {
    after_release = s.weight;
    release = λ r p. inl refl;
    start = start;
    request = λ a b. request a;
    grant = grant;
    wait = wait;
    unlock = λ a. absurd (omega arith);
    finish = λ a. absurd (omega arith);
    end = λ a. absurd (omega arith);
    search = λ a. absurd (omega arith);
    wake = λ a. absurd (omega arith);
    weight_same = λ a b. weight a;
    requested_same = requested;
    active_same = active;
    unlocked_same = λ x. inl (unlocked x);
  }

  -- an event that changes nothing of what is seen here, such as a refused one
  pub nothing_step : (j o : ℕ) → ((r p : ℕ) → s'.weight r p ≡ s.weight r p) → ((x : ℕ) → s'.requested x ≡ s.requested x)
      → ((x : ℕ) → s'.active x ≡ s.active x) → ((x : ℕ) → s'.unlocked x ≡ s.unlocked x)
      → Step N s (labelled 0 j o 0 0) s'
  nothing_step j o weight requested active unlocked =
      quiet_step (labelled 0 j o 0 0) (omega arith) refl (λ a. absurd (omega arith)) (λ a. absurd (omega arith))
      (λ a. absurd (omega arith)) (λ a. absurd (omega arith)) (λ a. weight) (λ x. inl (requested x))
      (λ x. inl (active x)) unlocked

  pub start_step : (j o : ℕ) → ((r p : ℕ) → s'.weight r p ≡ s.weight r p) → ((x : ℕ) → s'.requested x ≡ s.requested x)
      → s.active j ≡ 0 → s'.active j ≢ 0 → ((x : ℕ) → (s'.active x ≡ s.active x) ⊎ (j ≡ x))
      → ((x : ℕ) → s'.unlocked x ≡ s.unlocked x) → Step N s (labelled 1 j o 0 0) s'
  start_step j o weight requested idle started active unlocked =
      quiet_step (labelled 1 j o 0 0) (omega arith) refl (λ a. (idle, started)) (λ a. absurd (omega arith))
      (λ a. absurd (omega arith)) (λ a. absurd (omega arith)) (λ a. weight) (λ x. inl (requested x))
      (λ x. elim (active x) [ inl e ↦ inl e | inr e ↦ inr (inl (omega arith)) ]) unlocked

  module _ (j o mode : ℕ) (may : MayRequest N s j) (free : s.requested j ≡ 0)
      (active : (x : ℕ) → s'.active x ≡ s.active x) (unlocked : (x : ℕ) → s'.unlocked x ≡ s.unlocked x) where
    pub grant_step : Took s.weight s'.weight j o → ((x : ℕ) → s'.requested x ≡ s.requested x)
        → Step N s (labelled 2 j o mode 0) s'
    grant_step took requested =
        quiet_step (labelled 2 j o mode 0) (omega arith) refl (λ a. absurd (omega arith)) (λ a. (may, free)) (λ a. took)
        (λ a. absurd (omega arith)) (λ a. absurd (a refl)) (λ x. inl (requested x)) (λ x. inl (active x)) unlocked

    pub wait_step : 0 < o → Blocked s.weight j → ((r p : ℕ) → s'.weight r p ≡ s.weight r p) → s'.requested j ≡ o
        → ((x : ℕ) → (s'.requested x ≡ s.requested x) ⊎ (j ≡ x)) → Step N s (labelled 3 j o mode 0) s'
    wait_step object blocked weight waits requested =
        quiet_step (labelled 3 j o mode 0) (omega arith) refl (λ a. absurd (omega arith)) (λ a. (may, free))
        (λ a. absurd (omega arith)) (λ a. (object, waits, blocked)) (λ a. weight)
        (λ x. elim (requested x) [ inl e ↦ inl e | inr e ↦ inr (inl (omega arith)) ])
        (λ x. inl (active x)) unlocked

  module _ (j o w : ℕ) (m : View) (woke : Woke m w s') where
    -- an event that releases locks and searches for a waiting job; the fields of m are those that the search begins with
    release_step : (what : ℕ) → 4 ≤ what → m.requested j ≡ 0
        → (what ≤ 5 → s.requested j ≡ 0)
        → (what ≡ 4 → (m.unlocked j ≢ 0) × (m.weight j o ≡ N))
        → (5 ≤ what → (m.active j ≡ 0) × ((p : ℕ) → m.weight j p ≡ N))
        → ((r p : ℕ) → (m.weight r p ≡ s.weight r p) ⊎ Releases (labelled what j o 0 w) r p)
        → ((x : ℕ) → (m.requested x ≡ s.requested x) ⊎ Ends (labelled what j o 0 w) x)
        → ((x : ℕ) → (m.active x ≡ s.active x) ⊎ Ends (labelled what j o 0 w) x)
        → ((x : ℕ) → (m.unlocked x ≡ s.unlocked x) ⊎ (Unlocks (labelled what j o 0 w) x o ⊎ Ends (labelled what j o 0 w) x))
        → Step N s (labelled what j o 0 w) s'
    release_step what kind none free unlock end weight requested active unlocked = record {
      after_release = m.weight;
      release = weight;
      start = λ a. absurd (omega arith);
      request = λ a b. absurd (omega arith);
      grant = λ a. absurd (omega arith);
      wait = λ a. absurd (omega arith);
      unlock = λ a. (free (omega arith), (λ e. (unlock a).0 (sym (woke.unlocked_same j) ∙ e)), (unlock a).1);
      finish = λ a. free (omega arith);
      end = λ a. (woke.active_same j ∙ (end a).0, dropped (woke.requested_same j), (end a).1);
      search = λ a. woke.search;
      wake = λ a. (kind, other a, (λ e. woke.waited a (same a ∙ e)), woke.served a, rw (same a) at (woke.took a));
      weight_same = λ a. woke.nobody;
      requested_same = λ x. elim (woke.requested_same x) [
        | inl e ↦ elim (requested x) [ inl f ↦ inl (e ∙ f) | inr f ↦ inr (inr (inr f)) ]
        | inr e ↦ inr (inr (inl (omega arith)))
      ];
      active_same = λ x. elim (active x) [ inl e ↦ inl (woke.active_same x ∙ e) | inr e ↦ inr (inr e) ];
      unlocked_same = λ x. elim (unlocked x) [ inl e ↦ inl (woke.unlocked_same x ∙ e) | inr e ↦ inr e ];
    }
      where
        other : 0 < w → w ≢ j
        other a e = woke.waited a (ap m.requested e ∙ none)

        same : 0 < w → m.requested w ≡ s.requested w
        same a = elim (requested w) [ inl e ↦ e | inr e ↦ absurd (other a (sym e.of_job)) ]

        dropped : (s'.requested j ≡ m.requested j) ⊎ ((0 < j) × (w ≡ j)) → s'.requested j ≡ 0
        dropped (inl e) = e ∙ none
        dropped (inr e) = absurd (other (omega arith) e.1)

    pub unlock_step : s.requested j ≡ 0 → m.weight j o ≡ N
        → ((r p : ℕ) → (m.weight r p ≡ s.weight r p) ⊎ ((j ≡ r) × (o ≡ p))) → ((x : ℕ) → m.requested x ≡ s.requested x)
        → ((x : ℕ) → m.active x ≡ s.active x) → m.unlocked j ≢ 0 → ((x : ℕ) → (m.unlocked x ≡ s.unlocked x) ⊎ (j ≡ x))
        → Step N s (labelled 4 j o 0 w) s'
    unlock_step free gone weight requested active marked unlocked =
        release_step 4 (omega arith) (requested j ∙ free) (λ a. free) (λ a. (marked, gone)) (λ a. absurd (omega arith))
        (λ r p. elim (weight r p) [ inl e ↦ inl e | inr e ↦ inr (inl (omega arith)) ]) (λ x. inl (requested x))
        (λ x. inl (active x)) (λ x. elim (unlocked x) [ inl e ↦ inl e | inr e ↦ inr (inl (omega arith)) ])

    -- what: 5 finish, 6 abandonment
    pub end_step : (what : ℕ) → 5 ≤ what → what ≤ 6 → (what ≤ 5 → s.requested j ≡ 0) → ((p : ℕ) → m.weight j p ≡ N)
        → ((r p : ℕ) → (m.weight r p ≡ s.weight r p) ⊎ (j ≡ r)) → m.requested j ≡ 0
        → ((x : ℕ) → (m.requested x ≡ s.requested x) ⊎ (j ≡ x)) → m.active j ≡ 0
        → ((x : ℕ) → (m.active x ≡ s.active x) ⊎ (j ≡ x))
        → ((x : ℕ) → (m.unlocked x ≡ s.unlocked x) ⊎ (j ≡ x)) → Step N s (labelled what j o 0 w) s'
    end_step what five six free gone weight none requested idle active unlocked =
        release_step what (omega arith) none free (λ a. absurd (omega arith)) (λ a. (idle, gone))
        (λ r p. elim (weight r p) [ inl e ↦ inl e | inr e ↦ inr (inr (ends_run five six e)) ])
        (λ x. elim (requested x) [ inl e ↦ inl e | inr e ↦ inr (ends_run five six e) ])
        (λ x. elim (active x) [ inl e ↦ inl e | inr e ↦ inr (ends_run five six e) ])
        (λ x. elim (unlocked x) [ inl e ↦ inl e | inr e ↦ inr (inr (ends_run five six e)) ])

-- a refused event
pub refused_step : {N : ℕ} (s : View) (j o : ℕ) → Step N s (labelled 0 j o 0 0) s
refused_step s j o = nothing_step j o (λ r p. refl) (λ x. refl) (λ x. refl) (λ x. refl)
