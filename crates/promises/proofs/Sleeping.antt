-- Two states that differ only in who sleeps answer alike, but who runs: no rule of a request, a wake-up, a named lock or an inherited rank reads the sleepers.
-- Assumes nothing.
use Rattle.std.specs.Prelude.{◌≡◌, refl, ◌≢◌, true, false, ℕ, if◌then◌else◌}
use Rattle.std.proofs.Math.Path.{sym, ap₂}
use Rattle.std.proofs.Common.{ap, ◌∙◌}
use Rattle.std.proofs.Math.Bool.{Bool}
use Rattle.std.proofs.Math.Dec.{eqb}
use Rattle.basics.specs.Choice.{between}
use Rattle.ranks.specs.Ranks.{without}
use Rattle.state.specs.declared.State.{State}
use Rattle.state.specs.State.{with_sleepers, await, grant, release, end_run}
use Rattle.state.specs.WellFormed.{well_formed}
use Rattle.weights.specs.Keys.{key_holder, key_object, lowest_key}
use Rattle.weights.specs.Parts.{lowest_key_parts}
use Rattle.rule.specs.Granting.{passes_below, reason, named_key, wakeable}
use Rattle.rule.specs.Parts.{named_waits_parts, wakeable_parts}
use Rattle.inheritance.specs.Parts.{inherited_rank_parts}
use Rattle.refusals.specs.Refusals.{is_request, mode_of, job_refusal_of, job_refusal}
use Rattle.events.specs.declared.Outcome.{Outcome}
use Rattle.events.specs.declared.Answer.TheVariants.{Granted, Waits, Done, Refused}
use Rattle.events.specs.Answers.{paper}
use Rattle.events.specs.Events.{outcome, start, request_meeting, request, wake, unlock, finish, sleep_or_awaken, accepted}
use Rattle.manager.specs.Step.{step, step_accepted}
use Rattle.questions.specs.Answers.{RankAnswer, NamedAnswer}
use Rattle.questions.specs.Questions.{ask_inherited_rank, ask_named_lock}
use Rattle.promises.proofs.Requests.{none_refuses}

-- ---- the rules

module _ (s : State) (z : ℕ) where
  wakeable_same : wakeable (with_sleepers s z) ≡ wakeable s
  wakeable_same = wakeable_parts (with_sleepers s z) ∙ sym (wakeable_parts s)

  named_same : (j : ℕ) → named_key (with_sleepers s z) j ≡ named_key s j
  named_same j = named_waits_parts (with_sleepers s z) j ∙ sym (named_waits_parts s j)

  meeting_same : (m r o k : ℕ) → (request_meeting (with_sleepers s z) m r o k).answer ≡ (request_meeting s m r o k).answer
  unfolding request_meeting reason
  meeting_same m r o k = go (passes_below r k)
    where
      answered : State → Bool → Outcome
      answered t b =
          if b then outcome Granted (grant t m r o) else outcome (Waits (key_holder k) (key_object k) (reason t m o (key_holder k) (key_object k))) (await t m r o)

      go : (b : Bool) → (answered (with_sleepers s z) b).answer ≡ (answered s b).answer
      go true = refl
      go false = refl

  request_same : (m r o : ℕ) → (request (with_sleepers s z) m r o).answer ≡ (request s m r o).answer
  request_same m r o =
      ap (λ (k : ℕ). (request_meeting (with_sleepers s z) m r o k).answer) (lowest_key_parts (with_sleepers s z) r ∙ sym (lowest_key_parts s r))
      ∙ meeting_same m r o (lowest_key s r)

-- ---- events

accepted_same : (s : State) (z k r o : ℕ) → (accepted (with_sleepers s z) k r o).answer ≡ (accepted s k r o).answer
unfolding accepted wake release end_run
accepted_same s z k r o = go (eqb k 1) (is_request k) (eqb k 4) (between 5 6 k) (between 8 9 k)
  where
    by_kind : State → (starts asks unlocks ends sleeps : Bool) → Outcome
    by_kind t starts asks unlocks ends sleeps =
        if starts then start t r else
        if asks then request t (mode_of k) r o else
        if unlocks then unlock t r o else
        if ends then finish t r else
        if sleeps then sleep_or_awaken t k r else
        outcome (Refused 9) t

    go : (starts asks unlocks ends sleeps : Bool)
        → (by_kind (with_sleepers s z) starts asks unlocks ends sleeps).answer ≡ (by_kind s starts asks unlocks ends sleeps).answer
    go true asks unlocks ends sleeps = refl
    go false true unlocks ends sleeps = request_same s z (mode_of k) r o
    go false false true ends sleeps = ap Done (wakeable_same (release s r o) z)
    go false false false true sleeps = ap Done (wakeable_same (end_run s r) (without z r))
    go false false false false true = refl
    go false false false false false = refl

pub answer_same : (s : State) (z k r o : ℕ) → (paper (step s k r o).answer).number ≢ 4 → (paper (step (with_sleepers s z) k r o).answer).number ≢ 4
    → (step (with_sleepers s z) k r o).answer ≡ (step s k r o).answer
answer_same s z k r o ok ok_too =
    ap (λ (x : Outcome). x.answer) (step_accepted (with_sleepers s z) k r o (none_refuses (with_sleepers s z) k r o ok_too))
    ∙ accepted_same s z k r o
    ∙ sym (ap (λ (x : Outcome). x.answer) (step_accepted s k r o (none_refuses s k r o ok)))

-- ---- questions

module _ (s : State) (z : ℕ) (same : well_formed (with_sleepers s z) ≡ well_formed s) where
  pub named_lock_same : (j : ℕ) → ask_named_lock (with_sleepers s z) j ≡ ask_named_lock s j
  unfolding ask_named_lock job_refusal
  named_lock_same j =
      ap₂ (λ (well : Bool) (key : ℕ). if eqb (job_refusal_of well s.counts.jobs s.active j) 0 then NamedAnswer.Lock (key_holder key) (key_object key)
      else NamedAnswer.Refused (job_refusal_of well s.counts.jobs s.active j)) same (named_same s z j)

  pub inherited_rank_same : (j : ℕ) → ask_inherited_rank (with_sleepers s z) j ≡ ask_inherited_rank s j
  unfolding ask_inherited_rank job_refusal
  inherited_rank_same j =
      ap₂ (λ (well : Bool) (n : ℕ). if eqb (job_refusal_of well s.counts.jobs s.active j) 0 then RankAnswer.Rank n
      else RankAnswer.Refused (job_refusal_of well s.counts.jobs s.active j)) same
      (inherited_rank_parts (with_sleepers s z) j ∙ sym (inherited_rank_parts s j))
