-- What an event's rule comes to once its tests are known: laws of the definitions in specs/Events.antt, and of requests in range.
-- Assumes nothing.
use mathlib.Core.Path.{◌≡◌, refl, sym, subst, ap, ap₂, ◌∙◌}
use mathlib.Core.Logic.{◌≢◌, ◌⊎◌, inl, inr}
use mathlib.Core.Bool.{Bool, true, false, ◌||◌}
use mathlib.Core.List.{List}
use Prim.Native.Nat.{ℕ, ◌-◌, ◌≤◌}
use native.Mathlib.Omega.{arith}
use native.Mathlib.Decide.{ℕ_discrete, dec_le}
use lib.ListN.{length}
use lib.Dec.{eqb}
use borrow.Author.Tests.{eq-eqb, ne_eqb, ltb-false, le-leb, lt-leb}
use Rattle.basics.specs.Choice.{between, between_true, inside_between}
use Rattle.basics.specs.Arrays.{at, put, at-put_same, at-put_other, at_out, length-put}
use Rattle.ranks.specs.Ranks.{without, union, most_urgent, unions}
use Rattle.state.specs.declared.State.{State}
use Rattle.state.specs.declared.refusal.Refusal.{Refusal}
use Rattle.state.specs.RefusalNumbers.{number, number_positive}
use Rattle.state.specs.State.{most_jobs, most_objects, most_urgent_holder, certify, requested_mode, requested_object, grant_readers, grant_writers, release_readers, release_sets, activate, await, grant}
use Rattle.state.specs.Weights.{weight}
use Rattle.state.specs.Holders.{HolderFacts, granted_holder, end_run_holder}
use Rattle.state.proofs.Releasing.{release_holder}
use Rattle.weights.specs.Keys.{Weigh, key_weight, key_holder, key_object, lowest_key_by, lowest_key}
use Rattle.one_holder.specs.OneHolder.{deciding_key, Decides}
use Rattle.one_holder.specs.OneHolderLaws.{deciding}
use Rattle.rule.proofs.ConflictLaws.{above_others}
use Rattle.weights.specs.KeyLaws.{key_at}
use Rattle.rule.specs.Granting.{passes_below, reason, wakes, wakeable}
use Rattle.rule.specs.WakeLaws.{FoundAt, wakeable_found, wakes_is}
use Rattle.std.specs.Prelude.{Result, Err}
use Rattle.events.specs.declared.Answer.{Answer}
use Rattle.events.specs.declared.Answer.TheVariants.{Granted, Waits, Done, Refused}
use Rattle.events.specs.Answers.{answer_of}
use Rattle.refusals.specs.Accepting.{RequestsFit, accepted_numbers}
use Rattle.refusals.specs.Refusals.{is_request, event_refusal}
use Rattle.events.specs.Events.{outcome, request_meeting, request, woken, wake, unlock, finish, sleep_or_awaken, accepted, perform}

-- ---- the rule of each kind

module _ (s : State) (k r o : ℕ) where
  pub accepted_start : k ≡ 1 → accepted s k r o ≡ outcome (Done 0) (activate s r)
  unfolding accepted
  accepted_start e = rw e

  pub accepted_lock : 2 ≤ k → k ≤ 3 → accepted s k r o ≡ request s (k - 1) r o
  unfolding accepted
  accepted_lock a b = simp (ne_eqb k 1 (λ e. omega arith), inside_between 2 3 k a b, ne_eqb k 7 (λ e. omega arith))

  pub accepted_certify : k ≡ 7 → accepted s k r o ≡ request s certify r o
  unfolding accepted
  accepted_certify e = rw e

  pub accepted_unlock : k ≡ 4 → accepted s k r o ≡ unlock s r o
  unfolding accepted
  accepted_unlock e = rw e

  pub accepted_finish : 5 ≤ k → k ≤ 6 → accepted s k r o ≡ finish s r
  unfolding accepted
  accepted_finish a b =
      simp (ne_eqb k 1 (λ e. omega arith), le-leb 2 k (omega arith), lt-leb k 3 (omega arith), ne_eqb k 4 (λ e. omega arith), ne_eqb k 7 (λ e. omega arith), inside_between 5 6 k a b)

  pub accepted_sleep : 8 ≤ k → k ≤ 9 → accepted s k r o ≡ sleep_or_awaken s k r
  unfolding accepted
  accepted_sleep a b =
      simp (
        ne_eqb k 1 (λ e. omega arith),
        le-leb 2 k (omega arith),
        lt-leb k 3 (omega arith),
        ne_eqb k 4 (λ e. omega arith),
        ne_eqb k 7 (λ e. omega arith),
        le-leb 5 k (omega arith),
        lt-leb k 6 (omega arith),
        inside_between 8 9 k a b,
      )

  -- ---- refused, or not

  pub perform_refused : (n : ℕ) → n ≡ event_refusal s k r o → n ≢ 0 → outcome (Refused n) s ≡ perform s k r o
  unfolding perform
  perform_refused n e d = ap (λ (m : ℕ). outcome (Refused m) s) e ∙ sym (simp (ne_eqb (event_refusal s k r o) 0 (λ z. d (e ∙ z))))

  pub perform_err : (e : Refusal) → number e ≡ event_refusal s k r o → outcome (Refused (number e)) s ≡ perform s k r o
  perform_err e is = perform_refused (number e) is (number_positive e)

  pub perform_accepted : event_refusal s k r o ≡ 0 → perform s k r o ≡ accepted s k r o
  unfolding perform
  perform_accepted e = simp (eq-eqb (event_refusal s k r o) 0 e)

  pub perform_unknown : between 1 9 k ≡ false → outcome (Refused 9) s ≡ perform s k r o
  unfolding perform event_refusal
  perform_unknown e = sym (simp e)

-- an event that is refused by what its parts say leaves them as they are
pub refused_by : (s t : State) (k r o : ℕ) (e : Refusal) (result : Result Answer Refusal) → t ≡ s → number e ≡ event_refusal t k r o
    → result ≡ Err e → outcome (answer_of result) s ≡ perform s k r o
refused_by s t k r o e result same is err =
    ap (λ (x : Result Answer Refusal). outcome (answer_of x) s) err ∙ perform_err s k r o e (is ∙ ap (λ (x : State). event_refusal x k r o) same)

-- one that is not refused does what the rule of its kind says
pub done_by : (s t : State) (k r o : ℕ) → t ≡ s → 0 ≡ event_refusal t k r o → accepted s k r o ≡ perform s k r o
done_by s t k r o same is = sym (perform_accepted s k r o (sym (is ∙ ap (λ (x : State). event_refusal x k r o) same)))

-- and, where its kind carries an object, one of the table
pub object_by : (s t : State) (k r o : ℕ) → t ≡ s → 0 ≡ event_refusal t k r o → (is_request k || eqb k 4) ≡ true → s.counts.objects ≤ most_objects
    → (1 ≤ o) × (o ≤ most_objects)
object_by s t k r o same is carries few =
    let n = accepted_numbers s k r o (sym (is ∙ ap (λ (x : State). event_refusal x k r o) same)) in
    let inside = between_true 1 s.counts.objects o (simp carries at n.2) in
    (inside.0, omega (arith, inside.1))

-- and has a rank of the table
pub ranked_by : (s t : State) (k r o : ℕ) → t ≡ s → 0 ≡ event_refusal t k r o → s.counts.jobs ≤ most_jobs → (1 ≤ r) × (r ≤ most_jobs)
ranked_by s t k r o same is few =
    let n = accepted_numbers s k r o (sym (is ∙ ap (λ (x : State). event_refusal x k r o) same)) in
    (n.0, omega (arith, n.1))

-- ---- a request

pub granted : (s : State) (m r o k : ℕ) → passes_below r k ≡ true → request_meeting s m r o k ≡ outcome Granted (grant s m r o)
unfolding request_meeting
granted s m r o k e = simp e

pub waits : (s : State) (m r o k : ℕ) → passes_below r k ≡ false
    → request_meeting s m r o k ≡ outcome (Waits (key_holder k) (key_object k) (reason s m o (key_holder k) (key_object k))) (await s m r o)
unfolding request_meeting
waits s m r o k e = simp e

-- the key that stops a request is a lock's: its holder and its object are in range
pub stopped : (weigh : Weigh) (s : State) (j k : ℕ) → k ≡ lowest_key_by weigh s j → passes_below j k ≡ false → j ≤ most_jobs → s.counts.objects ≤ most_objects
    → (1 ≤ key_holder k) × (key_holder k ≤ most_jobs) × (1 ≤ key_object k) × (key_object k ≤ most_objects)
stopped weigh s j k e fails l n = elim (key_at weigh s j) [
  | inl z ↦ absurd (omega (arith, e, z, ltb-false j (key_weight k) fails))
  | inr w ↦ (let r = w.lock.rank in let o = w.lock.object in omega (arith, e, w.is, r, o))
]

-- the key of the most urgent holder decides it as the full reading of all locks does
module _ (s : State) (H : HolderFacts s) (m r o : ℕ) (small : r ≤ most_jobs) (k : ℕ) (is : k ≡ deciding_key s r) where
  full : Decides r k (lowest_key s r)
  full = subst (λ key. Decides r key (lowest_key s r)) (sym is) (deciding s H r small)

  pub decided : request_meeting s m r o k ≡ request s m r o
  decided = go (passes_below r (lowest_key s r)) refl
    where
      go : (b : Bool) → passes_below r (lowest_key s r) ≡ b → request_meeting s m r o k ≡ request s m r o
      go true e = granted s m r o k (full.same ∙ e) ∙ sym (granted s m r o (lowest_key s r) e)
      go false e = ap (request_meeting s m r o) (full.stops e)

  pub stopping : passes_below r k ≡ false → k ≡ lowest_key s r
  stopping e = full.stops (sym full.same ∙ e)

  -- the lock that is then named is one of the table
  pub named : passes_below r k ≡ false → (1 ≤ key_holder k) × (key_holder k ≤ most_jobs) × (1 ≤ key_object k) × (key_object k ≤ most_objects)
  named e = stopped (weight s) s r k (stopping e) e small H.few

  -- who is granted a lock is then the most urgent holder
  pub carries : 1 ≤ r → 1 ≤ o → o ≤ most_objects → passes_below r k ≡ true
      → r ≡ most_urgent_holder (grant_readers m r o s.readers) (grant_writers m r o s.writers)
  carries low a b e = sym (granted_holder s H m r o low small a b (above_others s H r (sym full.same ∙ e)))

-- ---- the woken job

pub woken_none : (s : State) → wakeable s ≡ 0 → wake s ≡ outcome (Done 0) s
unfolding wake woken
woken_none s e = rw e

pub woken_some : (s : State) (r : ℕ) → r ≡ wakeable s → r ≢ 0 → wake s ≡ outcome (Done r) (grant s (requested_mode s r) r (requested_object s r))
unfolding wake woken
woken_some s r e d = rw (sym e) (simp (ne_eqb r 0 d))

-- and is then the most urgent holder
pub woken_carries : (s : State) → HolderFacts s → (r : ℕ) → r ≡ wakeable s → s.counts.jobs ≤ most_jobs → 1 ≤ r
    → (1 ≤ requested_object s r) × (requested_object s r ≤ most_objects)
    → r ≡ most_urgent_holder (grant_readers (requested_mode s r) r (requested_object s r) s.readers) (grant_writers (requested_mode s r) r (requested_object s r) s.writers)
woken_carries s H r e few low object = elim (wakeable_found s) [
  | inl z ↦ absurd (omega (arith, e, z.0))
  | inr w ↦
      let found : FoundAt s.counts.jobs (wakes s) r = subst (FoundAt s.counts.jobs (wakes s)) (sym e) w in
      let pass = (wakes_is s r low found.itself).1 in
      sym (granted_holder s H (requested_mode s r) r (requested_object s r) low (omega (arith, found.high)) object.0 object.1
      (above_others s H r pass))
]

-- ---- locks given up

module _ (s : State) (H : HolderFacts s) (r : ℕ) where
  -- the carried rank after an unlock: looked for anew where it was the job's, else as it was
  pub next_holder : (o : ℕ) → 1 ≤ o → o ≤ most_objects → (h : ℕ) (readers : List ℕ) → readers ≡ release_readers r o s.readers
      → ((s.holder ≡ r) × (h ≡ most_urgent_holder readers s.writers)) ⊎ ((s.holder ≢ r) × (h ≡ s.holder))
      → h ≡ most_urgent_holder (release_readers r o s.readers) s.writers
  next_holder o low high h readers e (inl w) = w.1 ∙ ap (λ x. most_urgent_holder x s.writers) e
  next_holder o low high h readers e (inr w) = w.1 ∙ sym (release_holder s H r o low high w.0)

  -- and after the end of a run, by what is left in the sets
  pub last_holder : (left reading writing : ℕ) → left ≡ union reading writing → reading ≡ unions most_objects (λ o. without (at s.readers o) r)
      → writing ≡ unions most_objects (λ o. without (at s.writers o) r)
      → most_urgent left ≡ most_urgent_holder (release_sets r s.readers) (release_sets r s.writers)
  last_holder left reading writing e p q = ap most_urgent (e ∙ ap₂ union p q) ∙ end_run_holder s H r

-- ---- requests in range stay in range

pub put-zero : (requests : List ℕ) (r : ℕ) → 1 ≤ r → at (put requests r 0) r ≡ 0
put-zero requests r h = elim (dec_le r (length requests)) [
  | yes l ↦ at-put_same requests r 0 h l
  | no n ↦ at_out (put requests r 0) (length requests) r (length-put requests r 0) (λ b. n b.1)
]

pub dropped_fits : (requests : List ℕ) (r : ℕ) → 1 ≤ r → RequestsFit requests → RequestsFit (put requests r 0)
dropped_fits requests r h fit x a b d = elim (ℕ_discrete r x) [
  | yes e ↦ absurd (d (ap (at (put requests r 0)) (sym e) ∙ put-zero requests r h))
  | no n ↦ (let same = at-put_other requests r 0 x n in rw same (fit x a b (λ z. d (same ∙ z))))
]
