-- Version 2: a write lock that is not certified holds up no job that is more urgent than every job declared to write its object.
-- It weighs the write ceiling, which is the rank of a declared writer, for its holder is one; so such a job passes it. If a write lock there
-- stops the job all the same, it is certified.
-- Assumes nothing.
use Rattle.std.specs.Prelude.{◌≡◌, refl, ◌≢◌, Bool, true, false, [], ◌∷◌, ℕ, ◌≤◌, ◌<◌, get_or}
use Rattle.std.proofs.Common.{sym, subst, ap, ◌∙◌, inl, inr, arith, ne_eqb, ltb-false}
use Rattle.basics.specs.Replies.{told, value}
use Rattle.state.specs.declared.State.{State}
use Rattle.state.specs.State.{write, declared, holds, is_certified, request_of}
use Rattle.state.specs.Facts.{Facts}
use Rattle.state.specs.WellFormedFacts.{facts_well_formed, held_rank}
use Rattle.state.specs.Weights.{write_ceiling_of, weight}
use Rattle.state.specs.WeightLaws.{ceiling_in}
use Rattle.weights.specs.Keys.{no_weight, key_weight, key_holder, key_object, lowest_key}
use Rattle.rule.specs.Granting.{passes, named_holder_of, named_object_of}
use Rattle.rule.specs.GrantingTheorems.{stopping_holder, stopping_object}
use Rattle.rule.proofs.GrantingTheorems.{names_nobody}
use Rattle.events.specs.Answers.{Paper, paper}
use Rattle.refusals.specs.Refusals.{is_request}
use Rattle.manager.specs.Step.{step}
use Rattle.questions.specs.Answers.{named_reply}
use Rattle.questions.specs.Questions.{ask_named_lock}
use Rattle.theory.proofs.KeyLaws.{key_named}
use Rattle.promises.specs.Terms.{AboveWriters}
use Rattle.promises.specs.Weights.{lock_weight}
use Rattle.promises.proofs.Weights.{lock_held, lock_small, lowest}
use Rattle.promises.proofs.View.{waiting_below, asks_named, named_lowest}
use Rattle.promises.proofs.Requests.{rank_fits, waits_stopped}

module _ (s : State) (F : Facts s) (second : s.counts.version ≡ 2) (j h o : ℕ) (above : AboveWriters s j o) (held : holds s write h o ≡ true) where
  lets_pass : is_certified s o ≡ false → j < weight s write h o
  unfolding weight
  lets_pass unmarked =
      let writer = ceiling_in s.counts F.counts.jobs.1 (declared s write o) h ((F.locks o).right write h held) (held_rank s F write h o held).1 in
      simp (ne_eqb s.counts.version 1 (λ q. omega arith), unmarked) (above (write_ceiling_of s o) writer)

  -- the lock that stops a request of j
  stops_certified : j < no_weight → passes s j ≡ false → stopping_holder s j ≡ h → stopping_object s j ≡ o → is_certified s o ≡ true
  stops_certified small fails holder object = go (is_certified s o) refl
    where
      stops : lock_weight s h o ≤ j
      stops = rw (holder, object) at (key_named (lowest s F j) small (lock_small s F) (ltb-false j (key_weight (lowest_key s j)) fails)).1

      -- h has no read lock there
      light : weight s write h o ≤ j
      light =
          let lock = lock_held s h o (omega (arith, stops)) in
          elim lock.known [
            | inl e ↦ absurd ((F.locks o).once h (subst (λ m. holds s m h o ≡ true) e lock.held) held)
            | inr e ↦ omega (arith, stops, lock.weighs, ap (λ m. weight s m h o) e)
          ]

      go : (b : Bool) → is_certified s o ≡ b → b ≡ true
      go true e = refl
      go false e = absurd (omega (arith, light, lets_pass e))

  -- which the answer waits gives
  pub answer_certified : (k p n : ℕ) → is_request k ≡ true → paper (step s k j p).answer ≡ record { number = 2; values = h ∷ o ∷ n ∷ [] }
      → is_certified s o ≡ true
  answer_certified k p n kind answer =
      let two : (paper (step s k j p).answer).number ≡ 2 = ap (λ (a : Paper). a.number) answer in
      let ok : (paper (step s k j p).answer).number ≢ 4 = λ four. omega arith in
      let well = facts_well_formed s F in
      let is = waits_stopped s F.sized well k j p kind ok two in
      stops_certified (omega (arith, rank_fits s F.sized well k j p kind ok)) is.0
      (sym is.1 ∙ ap (λ (a : Paper). get_or a.values 0 0) answer) (sym is.2 ∙ ap (λ (a : Paper). get_or a.values 1 0) answer)

  -- and the question for the named lock; a job that waits though its request would pass names nobody
  pub named_certified : request_of s j ≢ 0 → named_reply (ask_named_lock s j) ≡ told (h ∷ o ∷ []) → is_certified s o ≡ true
  named_certified waits reply = go (passes s j) refl
    where
      is : told (named_holder_of s j ∷ named_object_of s j ∷ []) ≡ told (h ∷ o ∷ [])
      is = sym (asks_named s F j waits) ∙ reply

      go : (b : Bool) → passes s j ≡ b → is_certified s o ≡ true
      go true e = absurd (omega (arith, held_rank s F write h o held, (names_nobody s j (inr e)).0, ap (λ a. value a 0 0) is))
      go false e =
          let lowest_is = sym (named_lowest s F j waits e) in
          stops_certified (waiting_below s F j waits) e
          (ap key_holder lowest_is ∙ ap (λ a. value a 0 0) is) (ap key_object lowest_is ∙ ap (λ a. value a 1 0) is)
