-- What is known of an event that is not refused: none of the refusals 9 to 18, 21 and 24 to 27 holds.
-- Assumes nothing.
use Rattle.std.specs.Prelude.{◌≡◌, ◌≢◌, true, false, not, ◌&&◌, ℕ, ◌≤◌, eqb}
use Rattle.std.proofs.Common.{arith, eqb-true, eq-eqb}
use Rattle.std.proofs.lemmas.Bool.{not-false, not-true}
use Rattle.basics.specs.Choice.{clash, between_true, if_zero}
use Rattle.state.specs.declared.State.{State}
use Rattle.state.specs.State.{read, write, certify, strongest, is_rank, is_object, may_lock, holds, holds_already, holds_any, is_active, has_unlocked, is_sleeping, request_of, is_waiting}
use Rattle.state.specs.WellFormed.{well_formed}
use Rattle.state.specs.Facts.{RequestFacts}
use Rattle.refusals.specs.Refusals.{is_kind, is_request, for_ready, mode_of, all_certified, object_allowed, event_refusal, refusal}

pub record AcceptedEvent (s : State) (k r o : ℕ) : Type 0 where
  pub kind : is_kind s.counts.version k ≡ true
  pub rank : (1 ≤ r) × (r ≤ s.counts.jobs)
  pub object : object_allowed s k o ≡ true
  pub not_12 : eqb k 1 && is_active s r ≡ false
  pub not_13 : not (eqb k 1) && not (is_active s r) ≡ false
  pub not_14 : for_ready k && is_waiting s r ≡ false
  pub not_26 : for_ready k && is_sleeping s r ≡ false
  pub not_27 : eqb k 9 && not (is_sleeping s r) ≡ false
  pub not_25 : eqb k 5 && not (all_certified s r) ≡ false
  pub not_15 : is_request k && has_unlocked s r ≡ false
  pub not_16 : is_request k && not (may_lock s (mode_of k) r o) ≡ false
  pub not_17 : is_request k && holds_already s (mode_of k) r o ≡ false
  pub not_24 : eqb k 7 && not (holds s write r o) ≡ false
  pub not_18 : eqb k 4 && not (holds_any s r o) ≡ false
  pub not_21 : eqb k 4 && holds s write r o ≡ false

-- in a state that is taken to be well formed
pub event_not_refused : (s : State) (k r o : ℕ) → event_refusal s k r o ≡ 0 → AcceptedEvent s k r o
unfolding event_refusal
event_not_refused s k r o e =
    let e9 = if_zero 8 (not (is_kind s.counts.version k)) _ e in
    let e10 = if_zero 9 (not (is_rank s r)) _ e9.1 in
    let e11 = if_zero 10 (not (object_allowed s k o)) _ e10.1 in
    let e12 = if_zero 11 (eqb k 1 && is_active s r) _ e11.1 in
    let e13 = if_zero 12 (not (eqb k 1) && not (is_active s r)) _ e12.1 in
    let e14 = if_zero 13 (for_ready k && is_waiting s r) _ e13.1 in
    let e26 = if_zero 25 (for_ready k && is_sleeping s r) _ e14.1 in
    let e27 = if_zero 26 (eqb k 9 && not (is_sleeping s r)) _ e26.1 in
    let e25 = if_zero 24 (eqb k 5 && not (all_certified s r)) _ e27.1 in
    let e15 = if_zero 14 (is_request k && has_unlocked s r) _ e25.1 in
    let e16 = if_zero 15 (is_request k && not (may_lock s (mode_of k) r o)) _ e15.1 in
    let e17 = if_zero 16 (is_request k && holds_already s (mode_of k) r o) _ e16.1 in
    let e24 = if_zero 23 (eqb k 7 && not (holds s write r o)) _ e17.1 in
    let e18 = if_zero 17 (eqb k 4 && not (holds_any s r o)) _ e24.1 in
    let e21 = if_zero 20 (eqb k 4 && holds s write r o) _ e18.1 in
    record {
      kind = not-false (is_kind s.counts.version k) e9.0;
      rank = between_true 1 s.counts.jobs r (not-false (is_rank s r) e10.0);
      object = not-false (object_allowed s k o) e11.0;
      not_12 = e12.0;
      not_13 = e13.0;
      not_14 = e14.0;
      not_26 = e26.0;
      not_27 = e27.0;
      not_25 = e25.0;
      not_15 = e15.0;
      not_16 = e16.0;
      not_17 = e17.0;
      not_24 = e24.0;
      not_18 = e18.0;
      not_21 = e21.0;
    }

-- in any state
pub not_refused : (s : State) (k r o : ℕ) → refusal s k r o ≡ 0 → AcceptedEvent s k r o
unfolding refusal
not_refused s k r o e = event_not_refused s k r o (if_zero 7 (not (well_formed s)) _ e).1

-- a job that does not wait
pub not_waiting : (s : State) (r : ℕ) → is_waiting s r ≡ false → request_of s r ≡ 0
not_waiting s r e = eqb-true (request_of s r) 0 (not-false (eqb (request_of s r) 0) e)

-- what the refusals 9, 11, 13, 15, 16, 17, 24 and 26 leave of a request
request_facts : (s : State) (m r o : ℕ) → (read ≤ m) × (m ≤ strongest s.counts.version) → is_object s o ≡ true → is_active s r ≡ true
    → has_unlocked s r ≡ false → is_sleeping s r ≡ false → may_lock s m r o ≡ true → holds_already s m r o ≡ false → (m ≡ certify → holds s write r o ≡ true) → RequestFacts s m r o
request_facts s m r o mode object active not_unlocked awake right new before = record {
  mode = mode;
  object = between_true 1 s.counts.objects o object;
  active = active;
  not_unlocked = not_unlocked;
  awake = awake;
  right = right;
  new = new;
  before = before;
}

module _ (s : State) (version : (1 ≤ s.counts.version) × (s.counts.version ≤ 2)) (r o : ℕ) where
  pub read_facts : AcceptedEvent s 2 r o → RequestFacts s read r o
  read_facts A =
      request_facts s read r o (omega arith, omega arith) A.object (not-false (is_active s r) A.not_13) A.not_15 A.not_26
      (not-false (may_lock s read r o) A.not_16) A.not_17 (λ q. absurd (omega arith))

  pub write_facts : AcceptedEvent s 3 r o → RequestFacts s write r o
  write_facts A =
      request_facts s write r o (omega arith, omega arith) A.object (not-false (is_active s r) A.not_13) A.not_15 A.not_26
      (not-false (may_lock s write r o) A.not_16) A.not_17 (λ q. absurd (omega arith))

  pub certify_facts : AcceptedEvent s 7 r o → RequestFacts s certify r o
  certify_facts A =
      let second : s.counts.version ≢ 1 = λ e. clash (eq-eqb s.counts.version 1 e) (not-true (eqb s.counts.version 1) A.kind) in
      request_facts s certify r o (omega arith, omega arith) A.object (not-false (is_active s r) A.not_13) A.not_15 A.not_26
      (not-false (may_lock s certify r o) A.not_16) A.not_17 (λ q. not-false (holds s write r o) A.not_24)
