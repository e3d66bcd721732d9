-- One law for each kind of event: what a manager shows of its own rules so that the event is a ModeStep.
use Rattle.std.specs.Prelude.{◌≡◌, refl, ◌≢◌, ◌⊎◌, ℕ, ◌≤◌, ◌<◌}
use Rattle.std.proofs.Common.{sym, subst, ◌∙◌, inl, inr, arith}
use Rattle.theory.specs.Words.{Ends, Label}
use Rattle.theory.specs.Machine.{View, Releases, TurnsWait}
use Rattle.theory.specs.Build.{labelled}
use Rattle.theory.specs.Modes.{Modes, Gives, Given, ModeStep, KeepsApart, WokeModes}

-- a refused event gives nothing
pub refused_apart : (version : ℕ) (s : View) (u : Modes) (j o : ℕ) → KeepsApart version s u (labelled 0 j o 0 0)
refused_apart version s u j o =
    let none : (x p m : ℕ) → ¬ Gives s u (labelled 0 j o 0 0) x p m =
    λ x p m g. elim g [ inl a ↦ omega (arith, a.0) | inr a ↦ omega (arith, a.0) ] in
    record { mode = λ x p m g. absurd (none x p m g); meets = λ x p m r g. absurd (none x p m g); finish = λ e a. absurd (omega arith) }

module _ {s : View} {u u' : Modes} where
  -- an event that gives and releases nothing
  quiet_modes : (l : Label) → l.what ≤ 3 → l.what ≢ 2 → l.woken ≡ 0 → (l.what ≡ 3 → u'.asked l.job ≡ l.mode)
      → ((x : ℕ) → (u'.asked x ≡ u.asked x) ⊎ TurnsWait l x) → ((r p : ℕ) → u'.held r p ≡ u.held r p)
      → ModeStep s u l u'
  quiet_modes l kind none nobody wait asked held = record {
    wait = wait;
    give = λ x o m g. elim g [ inl a ↦ absurd (none a.0.granted) | inr a ↦ absurd (omega (arith, a.0)) ];
    unlock = λ a. absurd (omega arith);
    asked_same = asked;
    held_same = λ r p. inl (held r p);
  }

  -- an event that changes nothing of what is seen here: a start, a refused one
  pub nothing_modes : (what j o : ℕ) → what ≤ 1 → ((x : ℕ) → u'.asked x ≡ u.asked x)
      → ((r p : ℕ) → u'.held r p ≡ u.held r p) → ModeStep s u (labelled what j o 0 0) u'
  nothing_modes what j o kind asked held =
      quiet_modes (labelled what j o 0 0) (omega arith) (λ a. omega arith) refl (λ a. absurd (omega arith))
      (λ x. inl (asked x)) held

  pub wait_modes : (j o m : ℕ) → u'.asked j ≡ m → ((x : ℕ) → (u'.asked x ≡ u.asked x) ⊎ (j ≡ x))
      → ((r p : ℕ) → u'.held r p ≡ u.held r p) → ModeStep s u (labelled 3 j o m 0) u'
  wait_modes j o m asks asked held =
      quiet_modes (labelled 3 j o m 0) (omega arith) (λ a. omega arith) refl (λ a. asks)
      (λ x. elim (asked x) [ inl e ↦ inl e | inr e ↦ inr (inl (omega arith)) ]) held

  pub grant_modes : (j o m : ℕ) → Given u.held u'.held j o m
      → ((r p : ℕ) → (u'.held r p ≡ u.held r p) ⊎ ((j ≡ r) × (o ≡ p))) → ((x : ℕ) → u'.asked x ≡ u.asked x)
      → ModeStep s u (labelled 2 j o m 0) u'
  grant_modes j o m G held asked = record {
    wait = λ a. absurd (omega arith);
    give = λ x p n g. elim g [ inl a ↦ rw (a.0.to_job, a.0.on_object, a.1) at G | inr a ↦ absurd (omega (arith, a.0)) ];
    unlock = λ a. absurd (omega arith);
    asked_same = λ x. inl (asked x);
    held_same = λ r p. elim (held r p) [ inl e ↦ inl e | inr e ↦ inr (inl (inl (omega arith))) ];
  }

  -- what: 4 unlock, 5 finish, 6 abandonment
  pub release_modes : (what j o w : ℕ) (m : View) (v : Modes) → WokeModes m v w u' → 4 ≤ what → (0 < w → w ≢ j)
      → ((x : ℕ) → (m.requested x ≡ s.requested x) ⊎ Ends (labelled what j o 0 w) x)
      → ((r p : ℕ) → (v.held r p ≡ u.held r p) ⊎ Releases (labelled what j o 0 w) r p)
      → ((x : ℕ) → (v.asked x ≡ u.asked x) ⊎ Ends (labelled what j o 0 w) x)
      → (what ≡ 4 → u.held j o ≡ 1) → ModeStep s u (labelled what j o 0 w) u'
  release_modes what j o w m v W kind other requested held asked unlock = record {
    wait = λ a. absurd (omega arith);
    give = λ x p n g. elim g [
      | inl a ↦ absurd (omega (arith, a.0))
      | inr a ↦ rw (a.1, a.2)
          at (subst (λ y. Given u.held u'.held y (s.requested y) (u.asked y)) a.0.given_as_woken (given (omega (arith, a.0))))
    ];
    unlock = unlock;
    asked_same = λ x. elim (W.asked_same x) [
      | inl e ↦ elim (asked x) [ inl f ↦ inl (e ∙ f) | inr f ↦ inr (inr (inr f)) ]
      | inr e ↦ inr (inr (inl (omega arith)))
    ];
    held_same = λ r p. elim (W.held_same r p) [
      | inl e ↦ elim (held r p) [ inl f ↦ inl (e ∙ f) | inr f ↦ inr (inr f) ]
      | inr e ↦ inr (inl (inr (omega arith, sym (rw e.1 at (same_request (omega (arith, e.0, e.1)))) ∙ e.2)))
    ];
  }
    where
      -- the woken job's request and its locks are what they were before the release
      same_request : 0 < w → m.requested w ≡ s.requested w
      same_request h = elim (requested w) [ inl e ↦ e | inr e ↦ absurd (other h (sym e.of_job)) ]

      same_mode : 0 < w → v.asked w ≡ u.asked w
      same_mode h = elim (asked w) [ inl e ↦ e | inr e ↦ absurd (other h (sym e.of_job)) ]

      same_lock : 0 < w → (p : ℕ) → v.held w p ≡ u.held w p
      same_lock h p = elim (held w p) [
        | inl e ↦ e
        | inr e ↦ elim e [ inl a ↦ absurd (other h (sym a.of_job)) | inr a ↦ absurd (other h (sym a.of_job)) ]
      ]

      given : 0 < w → Given u.held u'.held w (s.requested w) (u.asked w)
      given h =
          let G : Given v.held u'.held w (s.requested w) (u.asked w) = rw (same_request h, same_mode h) at (W.gave h) in
          record { mode = G.mode; holds = G.holds; stronger = omega (arith, G.stronger, same_lock h (s.requested w)) }
