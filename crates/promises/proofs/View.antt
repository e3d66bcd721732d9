-- The question for the named lock gives what the theory of demand 3 asks of it, in what a state of the manager shows to it (specs/View).
-- Assumes nothing.
use Rattle.std.specs.Prelude.{◌≡◌, ◌≢◌, Bool, [], ◌∷◌, ℕ, ◌+◌, ◌<◌}
use Rattle.std.proofs.Math.Path.{refl}
use Rattle.std.proofs.Common.{sym, subst, arith}
use Rattle.std.proofs.Math.Bool.{true, false}
use Rattle.std.proofs.Math.Decide.{ℕ_discrete}
use Rattle.std.proofs.Math.Dec.{eqb}
use borrow.Author.Tests.{eq-eqb, ne_eqb, ltb-false}
use Rattle.basics.specs.Choice.{inside_between}
use Rattle.basics.specs.Replies.{told}
use Rattle.state.specs.declared.State.{State}
use Rattle.state.specs.State.{most_objects, request_of, requested_object}
use Rattle.state.specs.Facts.{Facts}
use Rattle.state.specs.WellFormedFacts.{facts_well_formed, held_object, waiting_rank}
use Rattle.weights.specs.Keys.{no_weight, key_weight, key_holder, key_object, lowest_key}
use Rattle.rule.specs.Granting.{passes, named_key, named_holder_of, named_object_of}
use Rattle.refusals.specs.Refusals.{job_refusal}
use Rattle.questions.specs.Answers.{named_reply}
use Rattle.questions.specs.Questions.{ask_named_lock}
use Rattle.theory.specs.Machine.{Blocked, NamedLock, Seen}
use Rattle.theory.proofs.KeyLaws.{key_named}
use Rattle.promises.specs.Terms.{named}
use Rattle.promises.specs.Weights.{lock_weight}
use Rattle.promises.proofs.Weights.{lock_held, lock_small, lowest, blocked_fails}
use Rattle.promises.specs.View.{as_number, view}

pub as_number_true : (b : Bool) → as_number b ≢ 0 → b ≡ true
as_number_true true n = refl
as_number_true false n = absurd (n refl)

module _ (s : State) (F : Facts s) where
  -- a job waits if and only if the object of its request is not 0
  pub waits_requested : (j : ℕ) → request_of s j ≢ 0 → requested_object s j ≢ 0
  waits_requested j d z = omega (arith, (F.requests j d).object)

  pub requested_waits : (j : ℕ) → requested_object s j ≢ 0 → request_of s j ≢ 0
  requested_waits j n e = n (omega arith)

  pub no_request : (j : ℕ) → requested_object s j ≡ 0 → request_of s j ≡ 0
  no_request j e = elim (ℕ_discrete (request_of s j) 0) [ yes z ↦ z | no d ↦ absurd (waits_requested j d e) ]

  pub waiting_below : (j : ℕ) → request_of s j ≢ 0 → j < no_weight
  waiting_below j d = omega (arith, waiting_rank s F j d, F.counts.jobs)

  -- ---- the named lock

  names_nobody : (j : ℕ) → request_of s j ≡ 0 → named s j ≡ 0
  unfolding ask_named_lock named_key
  names_nobody j e = go (eqb (job_refusal s j) 0) refl
    where
      go : (b : Bool) → eqb (job_refusal s j) 0 ≡ b → named s j ≡ 0
      go true q = simp (q, eq-eqb (request_of s j) 0 e)
      go false q = simp q

  -- the question is not refused for a waiting job
  pub asks_named : (j : ℕ) → request_of s j ≢ 0 → named_reply (ask_named_lock s j) ≡ told (named_holder_of s j ∷ named_object_of s j ∷ [])
  unfolding ask_named_lock job_refusal
  asks_named j d =
      let rank = waiting_rank s F j d in
      simp (facts_well_formed s F, inside_between 1 s.counts.jobs j rank.0 rank.1, (F.requests j d).active)

  -- whose named lock is the one with the lowest key, if its request does not pass
  pub named_lowest : (j : ℕ) → request_of s j ≢ 0 → passes s j ≡ false → named_key s j ≡ lowest_key s j
  unfolding named_key
  named_lowest j d e = simp (ne_eqb (request_of s j) 0 d, e)

  pub names_lowest : (j : ℕ) → request_of s j ≢ 0 → passes s j ≡ false → named s j ≡ key_holder (lowest_key s j)
  names_lowest j d e = simp (asks_named j d, named_lowest j d e)

  pub seen : Seen no_weight (most_objects + 1) (view s)
  seen = record {
    objects = λ r o l. let h = lock_held s r o l in omega (arith, held_object s F h.mode r o h.held, F.counts.objects);
    names_nobody = λ j e. names_nobody j (no_request j e);
    names_holder = names_holder;
  }
    where
      names_holder : (j : ℕ) → requested_object s j ≢ 0 → Blocked (lock_weight s) j → (o : ℕ) × NamedLock (lock_weight s) j (named s j) o
      names_holder j n b =
          let d = requested_waits j n in
          let small = waiting_below j d in
          let fails = blocked_fails s F j small b in (
            key_object (lowest_key s j),
            subst (λ h. NamedLock (lock_weight s) j h (key_object (lowest_key s j))) (sym (names_lowest j d fails))
                (key_named (lowest s F j) small (lock_small s F) (ltb-false j (key_weight (lowest_key s j)) fails)),
          )
