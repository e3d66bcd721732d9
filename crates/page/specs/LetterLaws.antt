-- The letters of the lines: who runs has R, who waits W and who sleeps Z, and a number is one of the ranks at most once.
-- Assumes nothing.
use Rattle.std.specs.Prelude.{◌≡◌, refl, ◌⊎◌, Bool, true, false, not, ◌&&◌, ℕ, zero, suc, ◌+◌, ◌≤◌, ◌<◌, eqb, if◌then◌else◌}
use Rattle.std.proofs.Common.{sym, ap, ◌∙◌, inl, inr, eq-or-lt_of_le, arith, eqb-true, eq-eqb, ne_eqb}
use Rattle.std.proofs.lemmas.Bool.{not-true}
use Rattle.basics.specs.Choice.{clash, same_test, and_left, and_right}
use Rattle.basics.specs.Loops.{sum, one_if}
use Rattle.state.specs.declared.State.{State}
use Rattle.state.specs.State.{most_jobs, processor_of_job, is_active, is_waiting, is_sleeping}
use Rattle.inheritance.specs.Running.{is_awake, running_rank}
use Rattle.inheritance.specs.RunningLaws.{running_ready}
use Rattle.page.specs.Page.{state_letter}

-- ---- who runs and who waits

module _ (s : State) (small : s.counts.jobs ≤ most_jobs) where
  -- who runs on its processor
  runs_own : (p r : ℕ) → 1 ≤ r → running_rank s p ≡ r
      → (is_active s r ≡ true) × (processor_of_job s r ≡ p) × (is_waiting s r ≡ false) × (is_sleeping s r ≡ false)
  runs_own p r low e =
      let ready = (running_ready s p r small low e).ready in
      let own = eqb (processor_of_job s r) p in
      let two = own && is_awake s r in
      let both = and_left two (not (is_waiting s r)) ready in
      let awake = and_right own (is_awake s r) both in (
        and_left (is_active s r) (not (is_sleeping s r)) awake,
        eqb-true (processor_of_job s r) p (and_left own (is_awake s r) both),
        not-true _ (and_right two (not (is_waiting s r)) ready),
        not-true _ (and_right (is_active s r) (not (is_sleeping s r)) awake),
      )

  -- a waiting job's letter is W
  pub letter_W : (r : ℕ) → 1 ≤ r → is_waiting s r ≡ true → state_letter s r ≡ 87
  letter_W r low w = go (eqb (running_rank s (processor_of_job s r)) r) refl
    where
      go : (b : Bool) → eqb (running_rank s (processor_of_job s r)) r ≡ b → state_letter s r ≡ 87
      go true e = absurd (clash w (runs_own (processor_of_job s r) r low (eqb-true _ r e)).2)
      go false e = simp (e, w)

  -- a sleeper's letter is Z: who sleeps neither runs nor waits
  pub letter_Z : (r : ℕ) → 1 ≤ r → is_waiting s r ≡ false → is_sleeping s r ≡ true → state_letter s r ≡ 90
  letter_Z r low free z = go (eqb (running_rank s (processor_of_job s r)) r) refl
    where
      go : (b : Bool) → eqb (running_rank s (processor_of_job s r)) r ≡ b → state_letter s r ≡ 90
      go true e = absurd (clash z (runs_own (processor_of_job s r) r low (eqb-true _ r e)).3)
      go false e = simp (e, free, z)

  -- a line of processor p has the letter R just where p runs its rank
  pub letter_R : (p r : ℕ) → 1 ≤ r → is_active s r && eqb (processor_of_job s r) p && eqb (state_letter s r) 82 ≡ eqb (running_rank s p) r
  letter_R p r low =
      same_test (is_active s r && eqb (processor_of_job s r) p && eqb (state_letter s r) 82) (eqb (running_rank s p) r)
      (λ t. let two = is_active s r && eqb (processor_of_job s r) p in
      let own = eqb-true (processor_of_job s r) p (and_right (is_active s r) (eqb (processor_of_job s r) p) (and_left two _ t)) in
      ap (λ (q : ℕ). eqb (running_rank s q) r) (sym own) ∙ runs (eqb (running_rank s (processor_of_job s r)) r) (is_waiting s r) (is_sleeping s r) (and_right two _ t))
      (λ t. let own = runs_own p r low (eqb-true (running_rank s p) r t) in
      let here = ap (λ (q : ℕ). eqb (running_rank s q) r) own.1 ∙ t in
      simp (own.0, eq-eqb (processor_of_job s r) p own.1, here))
    where
      runs : (b w z : Bool) → eqb (if b then 82 else if w then 87 else if z then 90 else 73) 82 ≡ true → b ≡ true
      runs true w z t = refl
      runs false true z t = absurd (clash t refl)
      runs false false true t = absurd (clash t refl)
      runs false false false t = absurd (clash t refl)

-- ---- how often a number is one of 1, .., n: not above them, not if it is 0, else once

never_above : (n x : ℕ) → n < x → sum n (λ r. one_if (eqb x r)) ≡ 0
unfolding sum
never_above zero x h = refl
never_above (suc n) x h = let here = ne_eqb x (suc n) (λ e. omega arith) in simp here (omega (arith, never_above n x (omega arith)))

pub never_zero : (n : ℕ) → sum n (λ r. one_if (eqb 0 r)) ≡ 0
unfolding sum
never_zero zero = refl
never_zero (suc n) = let here = ne_eqb 0 (suc n) (λ e. omega arith) in simp here (omega (arith, never_zero n))

pub once : (n x : ℕ) → 1 ≤ x → x ≤ n → sum n (λ r. one_if (eqb x r)) ≡ 1
unfolding sum
once zero x low high = absurd (omega arith)
once (suc n) x low high = go (once n x low) (eq-or-lt_of_le high)
  where
    go : (x ≤ n → sum n (λ r. one_if (eqb x r)) ≡ 1) → (x ≡ suc n) ⊎ (x < suc n) → sum n (λ r. one_if (eqb x r)) + one_if (eqb x (suc n)) ≡ 1
    go rest (inl e) = let here = eq-eqb x (suc n) e in simp here (omega (arith, never_above n x (omega arith)))
    go rest (inr l) = let here = ne_eqb x (suc n) (λ e. omega arith) in simp here (omega (arith, rest (omega arith)))
