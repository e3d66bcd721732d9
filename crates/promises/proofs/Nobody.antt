-- Nobody by the table: what the question for ceilings gives in a well-formed state, and that the rule and the rule with 65 for nobody (specs/NobodyAs65.antt)
-- else say the same there. Each lock that is held weighs the same by both, since its holder is a rank of the table and may lock its object; so each
-- lowest key is the same, and all that follows from it. A holder is more urgent than nobody by both, so that the reason is the same too.
-- Assumes nothing.
use Rattle.std.specs.Prelude.{◌≡◌, ◌⊎◌, Bool, ◌&&◌, ℕ, zero, suc, ◌+◌, ◌*◌, ◌%◌, ◌^◌, ◌≤◌, ◌<◌, ltb, if◌then◌else◌}
use Rattle.std.proofs.Math.Path.{refl, ap}
use Rattle.std.proofs.Common.{sym, subst, ap₂, ◌∙◌, inl, inr, arith}
use Rattle.std.proofs.Math.Bool.{true, false, not}
use Rattle.std.proofs.Math.Decide.{dec_lt}
use Rattle.std.proofs.Math.Dec.{eqb}
use borrow.Author.Tests.{ltb-true, ltb-false, lt-ltb, ne_eqb}
use Rattle.basics.specs.Choice.{◌if◌else◌, same_test, and_left, between_true}
use Rattle.basics.specs.Loops.{least_same, first_nonzero_same}
use Rattle.ranks.specs.Ranks.{member}
use Rattle.ranks.specs.RankLaws.{member-le, first-le}
use Rattle.ranks.specs.UnionLaws.{union_right, union-lt}
use Rattle.state.specs.declared.State.{State}
use Rattle.state.specs.State.{most_jobs, read, write, is_object, declared, declared_any, holders, shares_with_none, request_of, is_waiting, grant, await, release, end_run}
use Rattle.state.specs.Facts.{In, Facts}
use Rattle.state.specs.Keeping.{end_keeps}
use Rattle.state.specs.Modes.{either_mode}
use Rattle.state.specs.WellFormedFacts.{facts_well_formed, held_rank}
use Rattle.state.specs.Weights.{more_urgent, ceiling_of, write_ceiling_of, absolute_ceiling_of, write_weight, weight, old_weight}
use Rattle.state.specs.WeightLaws.{ceiling_none, ceiling_least, ceiling_in}
use Rattle.weights.specs.Keys.{no_key, key_weight, key_holder, key_object, Weigh, lowest_key_by, lowest_key, old_lowest_key}
use Rattle.weights.specs.KeyLaws.{KeyOfOther, key_at, key_above, stops_same, same_lowest_key}
use Rattle.rule.specs.Granting.{passes_below, named_key_of, named_key, conflicts, reason, wakes, wakeable}
use Rattle.inheritance.specs.Running as R
use Rattle.inheritance.specs.Running.{inherited_from, is_ready, running_rank}
use Rattle.refusals.specs.Refusals.{refusal, job_refusal, object_refusal, processor_refusal}
use Rattle.refusals.specs.AcceptedEvent.{AcceptedEvent, not_refused}
use Rattle.events.specs.declared.Answer.TheVariants.{Granted, Waits, Done}
use Rattle.events.specs.Events.{outcome, request_meeting, request, woken, wake, accepted, unless_refused}
use Rattle.events.specs.Keeping.{release_accepted_keeps}
use Rattle.manager.specs.Step.{step}
use Rattle.basics.specs.Replies.{value}
use Rattle.questions.specs.Answers.{RankAnswer, NamedAnswer, CeilingsAnswer, ceilings_reply}
use Rattle.questions.specs.Questions.{ask_inherited_rank, ask_named_lock, ask_ceilings, ask_running}
use Rattle.promises.specs.Terms.{old_request, CeilingIs}
use Rattle.promises.specs.NobodyAs65 as B

-- ---- from the facts of a well-formed state

module _ (s : State) (F : Facts s) where
  -- a lock that is held weighs the same
  weight_same : (m r o : ℕ) → In (holders s m o) r → weight s m r o ≡ B.weight65 s m r o
  unfolding weight B.weight65
  weight_same m r o held =
      let rank = held_rank s F m r o held in
      either_mode (λ f. In (f (declared s read o) (declared s write o)) r
      → f (more_urgent (write_ceiling_of s o) r) (write_weight s o) ≡ f (more_urgent (B.write_ceiling65 s o) r) (B.write_weight65 s o))
      (λ right. omega arith) (λ right. written right (shares_with_none s o)) m ((F.locks o).right m r held)
    where
      written : In (declared s write o) r → (none : Bool)
          → (if none then absolute_ceiling_of s o else write_ceiling_of s o) ≡ (if none then B.absolute_ceiling65 s o else B.write_ceiling65 s o)
      written right true =
          let low = ceiling_least s.counts (declared_any s o) r (union_right (declared s read o) (declared s write o) r right) in
          omega (arith, held_rank s F m r o held)
      written right false = let low = ceiling_least s.counts (declared s write o) r right in omega (arith, held_rank s F m r o held)

  key_same : (j : ℕ) → lowest_key s j ≡ B.lowest_key65 s j
  key_same j = same_lowest_key (weight s) (B.weight65 s) s j (λ m r o l. weight_same m r o l.held)

  -- ---- who is woken

  wakes_same : (j : ℕ) → wakes s j ≡ B.wakes65 s j
  wakes_same j = ap (λ (k : ℕ). if is_waiting s j && passes_below j k then j else 0) (key_same j)

  wake_same : wake s ≡ B.wake65 s
  unfolding wake wakeable
  wake_same = ap (λ (w : ℕ). outcome (Done w) (woken s w)) (first_nonzero_same s.counts.jobs (wakes s) (B.wakes65 s) (λ j a b. wakes_same j))

  -- ---- a request

  -- who holds the lock that stops a request, by any rule of weighing, is a rank of the table
  stops_in_table : (weigh : Weigh) (j : ℕ) → j ≤ s.counts.jobs → passes_below j (lowest_key_by weigh s j) ≡ false → key_holder (lowest_key_by weigh s j) ≤ s.counts.jobs
  stops_in_table weigh j high e = go (lowest_key_by weigh s j) (ltb-false j (key_weight (lowest_key_by weigh s j)) e) (key_at weigh s j)
    where
      go : (k : ℕ) → key_weight k ≤ j → (k ≡ no_key) ⊎ KeyOfOther weigh s j k → key_holder k ≤ s.counts.jobs
      go k low (inl z) = absurd (omega (arith, F.counts.jobs))
      go k low (inr w) =
          let lock = w.lock in
          omega (arith, w.is, lock.rank, lock.object, F.counts.objects, held_rank s F w.mode w.holder w.object lock.held)

  -- a rank of the table is more urgent than the write ceiling by both, or by neither
  cap_same : (h p : ℕ) → h ≤ s.counts.jobs → ltb h (write_ceiling_of s p) ≡ ltb h (B.write_ceiling65 s p)
  cap_same h p high =
      same_test (ltb h (write_ceiling_of s p)) (ltb h (B.write_ceiling65 s p))
      (λ e. lt-ltb h (B.write_ceiling65 s p) (omega (arith, ltb-true h (write_ceiling_of s p) e)))
      (λ e. lt-ltb h (write_ceiling_of s p) (omega (arith, ltb-true h (B.write_ceiling65 s p) e)))

  reason_same : (m o h p : ℕ) → h ≤ s.counts.jobs → reason s m o h p ≡ B.reason65 s m o h p
  unfolding reason
  reason_same m o h p high =
      ap (λ (b : Bool). 1 if eqb p o && conflicts s.counts.version m (member (holders s write p) h) (shares_with_none s p) else
      3 if not (member (holders s write p) h) && b else 2)
      (cap_same h p high)

  -- a request that meets a lowest key
  meeting_same : (m r o k : ℕ) → (passes_below r k ≡ false → key_holder k ≤ s.counts.jobs) → request_meeting s m r o k ≡ B.request_meeting65 s m r o k
  unfolding request_meeting
  meeting_same m r o k in_table = go (passes_below r k) refl
    where
      go : (b : Bool) → passes_below r k ≡ b
          → (if b then outcome Granted (grant s m r o) else outcome (Waits (key_holder k) (key_object k) (reason s m o (key_holder k) (key_object k))) (await s m r o))
          ≡ (if b then outcome Granted (grant s m r o) else outcome (Waits (key_holder k) (key_object k) (B.reason65 s m o (key_holder k) (key_object k))) (await s m r o))
      go true e = refl
      go false e =
          ap (λ (n : ℕ). outcome (Waits (key_holder k) (key_object k) n) (await s m r o)) (reason_same m o (key_holder k) (key_object k) (in_table e))

  request_same : (m r o : ℕ) → r ≤ s.counts.jobs → request s m r o ≡ B.request_meeting65 s m r o (B.lowest_key65 s r)
  request_same m r o high =
      meeting_same m r o (lowest_key s r) (stops_in_table (weight s) r high) ∙ ap (B.request_meeting65 s m r o) (key_same r)

  -- ---- a request by the old rule

  -- a lock weighs the same, or nobody by both
  old_above : (m r o : ℕ) → old_weight s m r o ≤ B.old_weight65 s m r o
  unfolding old_weight B.old_weight65
  old_above m r o =
      either_mode (λ f. f (write_ceiling_of s o) (absolute_ceiling_of s o) ≤ f (B.write_ceiling65 s o) (B.absolute_ceiling65 s o)) (omega arith) (omega arith) m

  old_same : (m r o : ℕ) → old_weight s m r o ≤ s.counts.jobs → old_weight s m r o ≡ B.old_weight65 s m r o
  unfolding old_weight B.old_weight65
  old_same m r o =
      either_mode (λ f. f (write_ceiling_of s o) (absolute_ceiling_of s o) ≤ s.counts.jobs
      → f (write_ceiling_of s o) (absolute_ceiling_of s o) ≡ f (B.write_ceiling65 s o) (B.absolute_ceiling65 s o))
      (λ h. omega arith) (λ h. omega arith) m

  -- it passes by both, or meets the same lock
  pub old_request_same : (m r o : ℕ) → r ≤ s.counts.jobs → old_request s m r o ≡ B.old_request65 s m r o
  unfolding request_meeting
  old_request_same m r o high = elim (dec_lt r (key_weight (old_lowest_key s r))) [
    | yes l ↦
        (let below = key_above (old_weight s) (B.old_weight65 s) s r (λ n q p k. old_above n q p) in
        simp (lt-ltb r (key_weight (old_lowest_key s r)) l, lt-ltb r (key_weight (B.old_lowest_key65 s r)) (omega arith)))
    | no n ↦
        meeting_same m r o (old_lowest_key s r) (stops_in_table (old_weight s) r high)
        ∙ ap (B.request_meeting65 s m r o) (sym (stops_same (old_weight s) (B.old_weight65 s) s r (omega (arith, F.counts.jobs)) F.counts.objects.1
        (λ n q p k. old_above n q p) (λ n q p k light. old_same n q p (omega arith)) (omega arith)))
  ]

  -- ---- inherited ranks and the running job

  named_same : (j : ℕ) → named_key s j ≡ B.named_key65 s j
  unfolding named_key
  named_same j = ap (λ (k : ℕ). named_key_of (request_of s j) k j) (key_same j)

  inherited_same : (j : ℕ) → R.inherited_rank s j ≡ B.inherited_rank65 s j
  unfolding R.inherited_rank B.inherited_rank65
  inherited_same j =
      least_same s.counts.jobs j (inherited_from s j) (B.inherited_from65 s j)
      (λ r a b. ap (λ (k : ℕ). if is_waiting s r && eqb (key_holder k) j then r else j) (named_same r))

  running_same : (p : ℕ) → running_rank s p ≡ B.running_rank65 s p
  unfolding running_rank B.running_rank65
  running_same p =
      ap (λ (n : ℕ). n % 256)
      (least_same s.counts.jobs no_key _ _ (λ r a b. ap (λ (n : ℕ). if is_ready s p r then n * 256 + r else no_key) (inherited_same r)))

  -- ---- the questions

  pub ask_inherited_same : (r : ℕ) → ask_inherited_rank s r ≡ B.ask_inherited_rank65 s r
  unfolding ask_inherited_rank B.ask_inherited_rank65
  ask_inherited_same r =
      ap (λ (n : ℕ). if eqb (job_refusal s r) 0 then RankAnswer.Rank n else RankAnswer.Refused (job_refusal s r)) (inherited_same r)

  pub ask_named_same : (r : ℕ) → ask_named_lock s r ≡ B.ask_named_lock65 s r
  unfolding ask_named_lock B.ask_named_lock65
  ask_named_same r =
      ap (λ (k : ℕ). if eqb (job_refusal s r) 0 then NamedAnswer.Lock (key_holder k) (key_object k) else NamedAnswer.Refused (job_refusal s r)) (named_same r)

  pub ask_running_same : (p : ℕ) → ask_running s p ≡ B.ask_running65 s p
  unfolding ask_running B.ask_running65
  ask_running_same p =
      ap (λ (n : ℕ). if eqb (processor_refusal s p) 0 then RankAnswer.Rank n else RankAnswer.Refused (processor_refusal s p)) (running_same p)

-- ---- the question for ceilings

ceiling_is : (s : State) → Facts s → (ranks : ℕ) → ranks < 2 ^ s.counts.jobs → CeilingIs s.counts.jobs ranks (ceiling_of s.counts ranks)
ceiling_is s F ranks within = record {
  most_urgent_lem = λ r i.
      (ceiling_in s.counts F.counts.jobs.1 ranks r i (member-le s.counts.jobs ranks r within i), ceiling_least s.counts ranks r i);
  nobody = ceiling_none s.counts F.counts.jobs.1 ranks;
}

pub ask_ceilings_are : (s : State) → Facts s → (o : ℕ) → is_object s o ≡ true
    → CeilingIs s.counts.jobs (declared s write o) (value (ceilings_reply (ask_ceilings s o)) 0 0)
    × CeilingIs s.counts.jobs (declared_any s o) (value (ceilings_reply (ask_ceilings s o)) 1 0)
unfolding ask_ceilings object_refusal
ask_ceilings_are s F o object =
    let answer : ask_ceilings s o ≡ CeilingsAnswer.Ceilings (write_ceiling_of s o) (absolute_ceiling_of s o) = simp (facts_well_formed s F, object) in
    subst
    (λ a. CeilingIs s.counts.jobs (declared s write o) (value (ceilings_reply a) 0 0) × CeilingIs s.counts.jobs (declared_any s o) (value (ceilings_reply a) 1 0))
    (sym answer) (
      ceiling_is s F (declared s write o) (F.declared_jobs write o),
      ceiling_is s F (declared_any s o)
          (union-lt s.counts.jobs (declared s read o) (declared s write o) (F.declared_jobs read o) (F.declared_jobs write o)),
    )

-- "A table of 64 jobs still gives 65."
pub ask_ceilings_64 : (s : State) → s.counts.jobs ≡ most_jobs → (o : ℕ) → ask_ceilings s o ≡ B.ask_ceilings65 s o
unfolding ask_ceilings B.ask_ceilings65
ask_ceilings_64 s all o =
    let writes : write_ceiling_of s o ≡ B.write_ceiling65 s o = omega (arith, first-le most_jobs (declared s write o)) in
    let locks : absolute_ceiling_of s o ≡ B.absolute_ceiling65 s o = omega (arith, first-le most_jobs (declared_any s o)) in
    ap₂ (λ (w a : ℕ). if eqb (object_refusal s o) 0 then CeilingsAnswer.Ceilings w a else CeilingsAnswer.Refused (object_refusal s o)) writes locks

-- ---- any event

accepted_same : (s : State) → Facts s → (k r o : ℕ) → AcceptedEvent s k r o → accepted s k r o ≡ B.accepted65 s k r o
unfolding accepted B.accepted65
accepted_same s F zero r o A = refl
accepted_same s F (suc zero) r o A = refl
accepted_same s F (suc (suc zero)) r o A = request_same s F _ r o A.rank.1
accepted_same s F (suc (suc (suc zero))) r o A = request_same s F _ r o A.rank.1
accepted_same s F (suc (suc (suc (suc zero)))) r o A = wake_same (release s r o) (release_accepted_keeps s F r o A)
accepted_same s F (suc (suc (suc (suc (suc zero))))) r o A = wake_same (end_run s r) (end_keeps s F r A.rank.0 A.rank.1)
accepted_same s F (suc (suc (suc (suc (suc (suc zero)))))) r o A = wake_same (end_run s r) (end_keeps s F r A.rank.0 A.rank.1)
accepted_same s F (suc (suc (suc (suc (suc (suc (suc zero))))))) r o A = request_same s F _ r o A.rank.1
accepted_same s F (suc (suc (suc (suc (suc (suc (suc (suc zero)))))))) r o A = refl
accepted_same s F (suc (suc (suc (suc (suc (suc (suc (suc (suc zero))))))))) r o A = refl
accepted_same s F (suc (suc (suc (suc (suc (suc (suc (suc (suc (suc k)))))))))) r o A =
    absurd (omega (arith, between_true 1 9 (suc (suc (suc (suc (suc (suc (suc (suc (suc (suc k)))))))))) (and_left _ _ A.kind)))

pub step_same : (s : State) → Facts s → (k r o : ℕ) → step s k r o ≡ B.step65 s k r o
unfolding step B.step65
step_same s F k r o = go (refusal s k r o) refl
  where
    go : (n : ℕ) → refusal s k r o ≡ n → unless_refused n s (accepted s k r o) ≡ unless_refused n s (B.accepted65 s k r o)
    go zero e = accepted_same s F k r o (not_refused s k r o e)
    go (suc n) e = simp (ne_eqb (suc n) 0 (λ q. omega arith))
