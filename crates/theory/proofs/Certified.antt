-- A run that finishes has certified every write lock that it was granted, of any events from a fresh state, where each event is a Step and a ModeStep
-- and no job finishes with a write lock that is not certified (FinishesCertified).
-- From its grant on the write lock is held, in what the states show, until the run is granted a stronger one there, which is the certify lock
-- (WritesStay); and at the finish it is held no more.
use Rattle.std.specs.Prelude.{◌≡◌, ◌⊎◌, ℕ, suc, ◌<◌}
use Rattle.std.proofs.Common.{sym, subst, ◌∙◌, inl, inr, arith}
use Rattle.std.proofs.Math.Decide.{le_ind}
use Rattle.theory.specs.Words.{Label, Run}
use Rattle.theory.specs.WriteLocks.{GrantIn, WritesCertified}
use Rattle.theory.specs.Machine.{View, Releases}
use Rattle.theory.specs.Links.{Trace}
use Rattle.theory.proofs.Links.{run_before, grant_run}
use Rattle.theory.specs.Modes.{Modes, ModeStep, FinishesCertified}
use Rattle.theory.proofs.HeldModes.{grant_given, same_or_granted}
use Rattle.theory.proofs.WritesStay.{not_unlocked}

module _ {N : ℕ} {view : ℕ → View} {modes : ℕ → Modes} {label : ℕ → Label} (T : Trace N view label)
    (M : (i : ℕ) → ModeStep (view i) (modes i) (label i) (modes (suc i))) where
  -- one event of the run: the write lock stays, or it is the grant of the certify lock
  write_or_certify : (j k o t : ℕ) → Run label j k (suc t) → k < t → (modes t).held j o ≡ 2
      → ((modes (suc t)).held j o ≡ 2) ⊎ GrantIn label 3 j k o t
  write_or_certify j k o t r after h = elim (same_or_granted T M j k o t (run_before label j k t (suc t) r after (omega arith)) stays) [
    | inl e ↦ inl (e ∙ h)
    | inr v ↦ (let G = grant_given T M j k o t v in inr (record { grant = v; in_mode = omega (arith, G.mode, G.stronger) }))
  ]
    where
      stays : ¬ Releases (label t) j o
      stays (inl u) = not_unlocked (M t) j o (omega arith) u
      stays (inr e) = r.not_ended t after (omega arith) e

  pub trace_writes_certified : ((i : ℕ) → FinishesCertified (modes i) (label i)) → WritesCertified label
  trace_writes_certified finishes j k o g f F v l = elim (since f l F.run) [
    | inl h ↦ absurd (finishes f F.finish_done o (subst (λ x. (modes f).held x o ≡ 2) (sym F.of_job) h))
    | inr c ↦ c
  ]
    where
      begun : k < g
      begun = (grant_run label j k o g v.grant).begun

      -- at each time of the run behind the grant the write lock is held, or it has been certified
      Since : ℕ → Type 0
      Since t = ((modes t).held j o ≡ 2) ⊎ ((c : ℕ) × (g < c) × (c < t) × GrantIn label 3 j k o c)

      step : (t : ℕ) → g < t → Run label j k (suc t) → Since t → Since (suc t)
      step t a r (inl h) = elim (write_or_certify j k o t r (omega (arith, begun)) h) [ inl e ↦ inl e | inr c ↦ inr (t, a, omega arith, c) ]
      step t a r (inr c) = inr (c.0, c.1, omega (arith, c.2), c.3)

      since : (t : ℕ) → g < t → Run label j k t → Since t
      since t a r =
          le_ind (λ n. Run label j k n → Since n) (λ w. inl ((grant_given T M j k o g v.grant).holds ∙ v.in_mode))
          (λ n b ih w. step n b w (ih (run_before label j k n (suc n) w (omega (arith, begun)) (omega arith)))) t a r
