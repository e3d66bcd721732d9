-- What a request that is not refused is answered, in any well-formed state: granted where it passes, else waits with the lock that stops it.
-- Assumes nothing.
use Rattle.std.specs.Prelude.{◌≡◌, refl, ◌≢◌, ◌↔◌, Bool, true, false, ℕ, zero, suc, ◌≤◌, get_or}
use Rattle.std.proofs.Common.{sym, subst, ap, ◌∙◌, arith, ne_eqb}
use Rattle.basics.specs.Choice.{clash}
use Rattle.state.specs.State.{most_jobs}
use Rattle.state.specs.declared.State.{State}
use Rattle.state.specs.WellFormed.{well_formed}
use Rattle.state.specs.Facts.{Sized}
use Rattle.state.specs.WellFormedFacts.{facts}
use Rattle.rule.specs.Granting.{passes}
use Rattle.rule.specs.GrantingTheorems.{MoreUrgentThanOthers, FirstOfOthers, stopping_holder, stopping_object}
use Rattle.rule.proofs.GrantingTheorems.{passes_iff, stopping_lock}
use Rattle.events.specs.Answers.{Paper, paper}
use Rattle.events.specs.Events.{request_meeting, request, accepted}
use Rattle.refusals.specs.Refusals.{is_request, mode_of, refusal}
use Rattle.refusals.specs.AcceptedEvent.{not_refused}
use Rattle.manager.specs.Step.{step, step_accepted}

-- an accepted request is a request of the rule
pub accepted_request : (s : State) (k r o : ℕ) → is_request k ≡ true → accepted s k r o ≡ request s (mode_of k) r o
unfolding accepted
accepted_request s k r o e = simp (ne_eqb k 1 (λ q. clash e (ap is_request q)), e)

pub refused_number : (s : State) (k r o n : ℕ) → refusal s k r o ≡ suc n → (paper (step s k r o).answer).number ≡ 4
unfolding step
refused_number s k r o n e = simp (e, ne_eqb (suc n) 0 (λ q. omega arith))

-- ---- by whether it passes

abbrev answer_of : State → ℕ → ℕ → ℕ → Paper
answer_of s m r o = paper (request s m r o).answer

request_passes : (s : State) (m r o : ℕ) → passes s r ≡ true → (answer_of s m r o).number ≡ 1
unfolding request_meeting
request_passes s m r o e = simp e

request_stopped : (s : State) (m r o : ℕ) → passes s r ≡ false
    → ((answer_of s m r o).number ≡ 2) × (get_or (answer_of s m r o).values 0 0 ≡ stopping_holder s r) × (get_or (answer_of s m r o).values 1 0 ≡ stopping_object s r)
unfolding request_meeting
request_stopped s m r o e = (simp e, simp e, simp e)

-- an event of any kind that is not answered refused
pub none_refuses : (s : State) (k r o : ℕ) → (paper (step s k r o).answer).number ≢ 4 → refusal s k r o ≡ 0
none_refuses s k r o ok = go (refusal s k r o) refl
  where
    go : (n : ℕ) → refusal s k r o ≡ n → n ≡ 0
    go zero e = refl
    go (suc n) e = absurd (ok (refused_number s k r o n e))

module _ (s : State) (z : Sized s) (w : well_formed s ≡ true) (k r o : ℕ) (kind : is_request k ≡ true) (ok : (paper (step s k r o).answer).number ≢ 4) where
  pub rank_fits : r ≤ most_jobs
  rank_fits = omega (arith, (not_refused s k r o (none_refuses s k r o ok)).rank, (facts s z w).counts.jobs)

  answer_is : answer_of s (mode_of k) r o ≡ paper (step s k r o).answer
  answer_is = sym (ap (λ x. paper x.answer) (step_accepted s k r o (none_refuses s k r o ok) ∙ accepted_request s k r o kind))

  pub granted_exactly : ((paper (step s k r o).answer).number ≡ 1) ↔ MoreUrgentThanOthers s r
  granted_exactly = (
    λ one. (passes_iff s z w r rank_fits).0 (by_number (passes s r) refl (ap (λ (p : Paper). p.number) answer_is ∙ one)),
    λ all. sym (ap (λ (p : Paper). p.number) answer_is) ∙ request_passes s (mode_of k) r o ((passes_iff s z w r rank_fits).1 all),
  )
    where
      by_number : (b : Bool) → passes s r ≡ b → (answer_of s (mode_of k) r o).number ≡ 1 → passes s r ≡ true
      by_number true e one = e
      by_number false e one = absurd (omega (arith, (request_stopped s (mode_of k) r o e).0))

  -- the answer waits gives the holder and the object of the lock that stops the request
  abbrev Stopped : Paper → Type 0
  Stopped p = (passes s r ≡ false) × (get_or p.values 0 0 ≡ stopping_holder s r) × (get_or p.values 1 0 ≡ stopping_object s r)

  pub waits_stopped : (paper (step s k r o).answer).number ≡ 2 → Stopped (paper (step s k r o).answer)
  waits_stopped two = subst Stopped answer_is (stopped (passes s r) refl)
    where
      stopped : (b : Bool) → passes s r ≡ b → Stopped (answer_of s (mode_of k) r o)
      stopped true e = absurd (omega (arith, request_passes s (mode_of k) r o e, ap (λ (p : Paper). p.number) answer_is))
      stopped false e = let is = request_stopped s (mode_of k) r o e in (e, is.1, is.2)

  pub waits_for : (paper (step s k r o).answer).number ≡ 2
      → FirstOfOthers s r (get_or (paper (step s k r o).answer).values 0 0) (get_or (paper (step s k r o).answer).values 1 0)
  waits_for two = let is = waits_stopped two in rw (is.1, is.2) (stopping_lock s z w r rank_fits is.0)
