-- One processor, version 1: in a state that is reached, where no sleeping holder is more urgent than the job that the processor runs, a request of that job
-- passes by both rules, or meets the same lock.
-- The job that runs is the most urgent holder, or more urgent than every holder; so each lock that stops it weighs the same by both rules.
-- Assumes nothing.
use Rattle.std.specs.Prelude.{◌≡◌, ◌≢◌, ◌⊎◌, Bool, true, false, not, ◌&&◌, ◌||◌, eqb, if◌then◌else◌}
use Rattle.std.proofs.Math.Path.{refl, sym}
use Rattle.std.proofs.Common.{subst, ap, ◌∙◌}
use Rattle.std.proofs.Math.Logic.{inl, inr}
use Prim.Native.Nat.{ℕ, zero, suc, ◌+◌, ◌*◌, ◌≤◌, ◌<◌}
use native.Mathlib.Omega.{arith}
use Rattle.std.proofs.Math.Decide.{ℕ_discrete, dec_lt}
use borrow.Author.Tests.{eqb-false, eq-eqb, ne_eqb, lt-ltb}
use Rattle.basics.specs.Choice.{◌if◌else◌, or_right}
use Rattle.basics.specs.Loops.{least, least_top, least-le, least_at}
use Rattle.ranks.specs.Ranks.{member}
use Rattle.state.specs.declared.State.{State}
use Rattle.state.specs.State.{most_jobs, most_objects, read, write, holders, holds, holds_any, is_active, is_sleeping, request_of}
use Rattle.state.specs.Facts.{Facts}
use Rattle.state.specs.Modes.{either_mode}
use Rattle.state.specs.WellFormedFacts.{facts_well_formed, held_rank}
use Rattle.state.specs.Weights.{write_ceiling_of, absolute_ceiling_of, more_urgent, write_weight, weight, old_weight}
use Rattle.state.specs.WeightLaws.{weight_small}
use Rattle.weights.specs.Keys.{no_weight, no_key, key_weight, key_holder, lowest_key, old_lowest_key}
use Rattle.weights.specs.KeyLaws.{OthersLock, key_above, stops_same}
use Rattle.rule.specs.Granting.{passes, old_passes, named_key}
use Rattle.inheritance.specs.Running as R
use Rattle.inheritance.specs.Running.{inherited_from, ready_key, running_rank}
use Rattle.inheritance.specs.RunningLaws.{run_key, running_ready}
use Rattle.events.specs.Answers.{paper}
use Rattle.refusals.specs.Refusals.{is_request, mode_of, refusal, processor_refusal}
use Rattle.refusals.specs.AcceptedEvent.{not_refused}
use Rattle.events.specs.Events.{request_meeting, request}
use Rattle.manager.specs.Step.{step, step_accepted}
use Rattle.basics.specs.Replies.{value}
use Rattle.questions.specs.Answers.{rank_reply}
use Rattle.questions.specs.Questions.{ask_running}
use Rattle.theory.specs.Keeps.{TopHolder}
use Rattle.theory.proofs.Keeps.{named_top, top_not_waiting}
use Rattle.promises.specs.Terms.{named, old_request, NoSleeperAbove}
use Rattle.promises.specs.Weights.{lock_weight}
use Rattle.promises.proofs.Weights.{lock_below, lock_held}
use Rattle.promises.specs.View.{view}
use Rattle.promises.proofs.View.{as_number_true, waits_requested, no_request, names_lowest, seen}
use Rattle.promises.proofs.Requests.{accepted_request, refused_number}
use Rattle.promises.proofs.ReachedStates.{Kept}
use Rattle.promises.proofs.OnlyProcessor.{ready_key_lem}

-- ---- the two weights

-- which in version 1 are one for a write lock
module _ (s : State) (first : s.counts.version ≡ 1) where
  write_absolute : (o : ℕ) → write_weight s o ≡ absolute_ceiling_of s o
  write_absolute o = simp (eq-eqb s.counts.version 1 first)

  old_above : (m r o : ℕ) → weight s m r o ≤ old_weight s m r o
  unfolding weight old_weight
  old_above m r o =
      either_mode (λ f. f (more_urgent (write_ceiling_of s o) r) (write_weight s o) ≤ f (write_ceiling_of s o) (absolute_ceiling_of s o))
      (omega arith) (omega (arith, write_absolute o)) m

  -- a lock of a job less urgent than j that stops j weighs the same by both
  old_same : (j m r o : ℕ) → j < r → weight s m r o ≤ j → old_weight s m r o ≡ weight s m r o
  unfolding weight old_weight
  old_same j m r o l =
      either_mode (λ f. f (more_urgent (write_ceiling_of s o) r) (write_weight s o) ≤ j
      → f (write_ceiling_of s o) (absolute_ceiling_of s o) ≡ f (more_urgent (write_ceiling_of s o) r) (write_weight s o))
      (λ h. omega arith) (λ h. sym (write_absolute o)) m

  old_key_above : (j : ℕ) → lowest_key s j ≤ old_lowest_key s j
  old_key_above j = key_above (weight s) (old_weight s) s j (λ m r o l. old_above m r o)

  -- what is stopped by less urgent jobs alone is stopped by the same lock
  old_key_same : (j : ℕ) → j ≤ most_jobs → s.counts.objects ≤ most_objects → ((m r o : ℕ) → OthersLock s j m r o → weight s m r o ≤ j → j < r)
      → key_weight (lowest_key s j) ≤ j → old_lowest_key s j ≡ lowest_key s j
  old_key_same j small objects less =
      stops_same (weight s) (old_weight s) s j small objects (λ m r o l. old_above m r o) (λ m r o l light. sym (old_same j m r o (less m r o l light) light))

-- ---- the job that the only processor runs

module _ (s : State) (K : Kept s) (first : s.counts.version ≡ 1) (one : s.counts.processors ≡ 1) where
  abbrev F : Facts s
  F = K.facts

  -- a waiting job names the most urgent holder
  waiting_names_top : (x : ℕ) → request_of s x ≢ 0 → TopHolder no_weight (view s) (named s x)
  waiting_names_top x d = named_top K.invariant (seen s F) x (waits_requested s F x d)

  inherits_low : (y : ℕ) → R.inherited_rank s y ≤ y
  unfolding R.inherited_rank
  inherits_low y = least_top s.counts.jobs y (inherited_from s y)

  -- a job less urgent than some holder inherits nothing
  inherits_own : (j h p : ℕ) → 1 ≤ j → lock_weight s h p < no_weight → h < j → j ≤ R.inherited_rank s j
  unfolding R.inherited_rank named_key
  inherits_own j h p low held less = elim (least_at s.counts.jobs j (inherited_from s j)) [
    | inl e ↦ omega arith
    | inr t ↦ go t.0 (eqb (request_of s t.0) 0) refl (passes s t.0) refl t.3
  ]
    where
      inherited : ℕ
      inherited = least s.counts.jobs j (inherited_from s j)

      -- who waits names another than j
      another : (x : ℕ) → request_of s x ≢ 0 → passes s x ≡ false → key_holder (lowest_key s x) ≢ j
      another x d f e =
          let top = subst (TopHolder no_weight (view s)) (names_lowest s F x d f ∙ e) (waiting_names_top x d) in
          omega (arith, top.1 h p held)

      go : (x : ℕ) → (q : Bool) → eqb (request_of s x) 0 ≡ q → (f : Bool) → passes s x ≡ f
          → inherited ≡ (if not q && eqb (key_holder (if not q && not f then lowest_key s x else no_key)) j then x else j) → j ≤ inherited
      go x true e f g z = omega arith
      go x false e true g z = omega (arith, simp (ne_eqb 0 j (λ y. omega arith)) at z)
      go x false e false g z = omega (arith, simp (ne_eqb (key_holder (lowest_key s x)) j (another x (eqb-false (request_of s x) 0 e) g)) at z)

  ready_below : (y : ℕ) → 1 ≤ y → y ≤ s.counts.jobs → is_active s y ≡ true → is_sleeping s y ≡ false → request_of s y ≡ 0 → run_key s 0 ≤ y * 256 + y
  ready_below y a b active awake free =
      omega (arith, least-le s.counts.jobs no_key (ready_key s 0) y a b, ready_key_lem s K first one y a b active awake free, inherits_low y)

  -- a lock in some mode is one in either
  held_any : (m y q : ℕ) → holds s m y q ≡ true → holds_any s y q ≡ true
  held_any m y q =
      either_mode (λ f. member (f (holders s read q) (holders s write q)) y ≡ true → holds_any s y q ≡ true)
      (λ e. ap (λ b. b || holds s write y q) e) (or_right (holds s read y q) (holds s write y q)) m

  -- the job that runs is more urgent than each other holder
  runs_above : (j h p : ℕ) → 1 ≤ j → j ≤ s.counts.jobs → NoSleeperAbove s j → running_rank s 0 ≡ j → h ≢ j → lock_weight s h p < no_weight → j < h
  runs_above j h p low high above run d held = elim (dec_lt j h) [
    | yes z ↦ z
    | no z ↦ absurd (elim (ℕ_discrete (request_of s h) 0) [ yes free ↦ ready h p held (omega arith) free | no w ↦ waiting (omega arith) w ])
  ]
    where
      -- a holder more urgent than j is awake
      awake : (m y q : ℕ) → holds s m y q ≡ true → y < j → is_sleeping s y ≡ false
      awake m y q h less = go (is_sleeping s y) refl
        where
          go : (b : Bool) → is_sleeping s y ≡ b → b ≡ false
          go true e = absurd (omega (arith, above y q (held_any m y q h) e))
          go false e = refl

      -- and if it doesn't wait, it runs before j
      ready : (y q : ℕ) → lock_weight s y q < no_weight → y < j → request_of s y ≡ 0 → ⊥
      ready y q held less free =
          let H = lock_held s y q held in
          let rank = held_rank s F H.mode y q H.held in
          let active = as_number_true (is_active s y) (K.invariant.holder y q held) in
          let below = ready_below y rank.0 rank.1 active (awake H.mode y q H.held less) free in
          let own = inherits_own j y q low held less in
          let key = (running_ready s 0 j F.counts.jobs.1 low run).key in
          omega arith

      -- one that waits names the most urgent holder, which doesn't
      waiting : h < j → request_of s h ≢ 0 → ⊥
      waiting less w =
          let top = waiting_names_top h w in
          ready (named s h) top.0.0 top.0.1 (omega (arith, top.1 h p held))
          (no_request s F (named s h) (top_not_waiting K.invariant (seen s F) (named s h) top))

  -- ---- one request

  -- it passes by both rules, or meets the same lock
  pub same_key : (j : ℕ) → 1 ≤ j → j ≤ s.counts.jobs → NoSleeperAbove s j → running_rank s 0 ≡ j
      → ((passes s j ≡ true) × (old_passes s j ≡ true)) ⊎ (old_lowest_key s j ≡ lowest_key s j)
  same_key j low high above run = elim (dec_lt j (key_weight (lowest_key s j))) [
    | yes l ↦ inl (lt-ltb j (key_weight (lowest_key s j)) l, lt-ltb j (key_weight (old_lowest_key s j)) (omega (arith, old_key_above s first j)))
    | no n ↦ inr (old_key_same s first j (omega (arith, F.counts.jobs)) F.counts.objects.1
        (λ m r o l w. runs_above j r o low high above run l.other (omega (arith, lock_below s m r o l.mode l.held, weight_small s m r o, F.counts.jobs))) (omega arith))
  ]

  pub running_is : value (rank_reply (ask_running s 0)) 0 0 ≡ running_rank s 0
  unfolding ask_running processor_refusal
  running_is = simp (facts_well_formed s F, lt-ltb 0 s.counts.processors (omega arith))

-- ---- the event

request_same : (s : State) (m j o : ℕ) → ((passes s j ≡ true) × (old_passes s j ≡ true)) ⊎ (old_lowest_key s j ≡ lowest_key s j)
    → request s m j o ≡ old_request s m j o
unfolding request_meeting
request_same s m j o (inl p) = simp (p.0, p.1)
request_same s m j o (inr e) = ap (request_meeting s m j o) (sym e)

pub one_request : (s : State) → Kept s → s.counts.version ≡ 1 → s.counts.processors ≡ 1 → (k j o : ℕ) → is_request k ≡ true
    → value (rank_reply (ask_running s 0)) 0 0 ≡ j → NoSleeperAbove s j → (paper (step s k j o).answer).number ≢ 4 → step s k j o ≡ old_request s (mode_of k) j o
one_request s K first one k j o kind run above ok = go (refusal s k j o) refl
  where
    go : (n : ℕ) → refusal s k j o ≡ n → step s k j o ≡ old_request s (mode_of k) j o
    go zero e =
        let rank = (not_refused s k j o e).rank in
        step_accepted s k j o e ∙ accepted_request s k j o kind
        ∙ request_same s (mode_of k) j o (same_key s K first one j rank.0 rank.1 above (sym (running_is s K first one) ∙ run))
    go (suc n) e = absurd (ok (refused_number s k j o n e))
