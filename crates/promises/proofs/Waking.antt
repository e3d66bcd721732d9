-- The search for a waiting job after a release: who is woken, and that it is a search as the theory asks.
-- Assumes nothing.
use Rattle.std.specs.Prelude.{◌≡◌, ◌≢◌, Bool, ◌&&◌, ℕ, ◌≤◌, eqb, if◌then◌else◌}
use Rattle.std.proofs.Math.Path.{refl, ap}
use Rattle.std.proofs.Common.{◌∙◌, arith, ne_eqb}
use Rattle.std.proofs.Math.Logic.{inl, inr}
use Rattle.std.proofs.Math.Bool.{true, false}
use Rattle.std.proofs.Math.Decide.{ℕ_discrete}
use Rattle.std.proofs.lemmas.Bool.{eqb-false, not-true}
use Rattle.basics.specs.Loops.{all_zero_first}
use Rattle.state.specs.declared.State.{State}
use Rattle.state.specs.State.{request_of, is_waiting, requested_mode, requested_object, object_of_request, grant}
use Rattle.state.specs.Facts.{RequestFacts, Facts}
use Rattle.state.specs.WellFormedFacts.{waiting_rank}
use Rattle.state.specs.Changes.{grant_request, grant_same, grant_locks}
use Rattle.rule.specs.Granting.{passes, wakes, wakeable}
use Rattle.rule.proofs.ConflictLaws.{no_conflict}
use Rattle.rule.specs.WakeLaws.{FoundAt, wakes_is}
use Rattle.events.specs.Events.{woken}
use Rattle.events.specs.Keeping.{by_search}
use Rattle.theory.specs.Machine.{Passes, Blocked}
use Rattle.theory.specs.Build.{Woke}
use Rattle.theory.specs.Modes.{WokeModes}
use Rattle.promises.specs.Weights.{lock_weight}
use Rattle.promises.proofs.Weights.{passes_all, fails_blocked, blocked_fails}
use Rattle.promises.specs.View.{view}
use Rattle.promises.proofs.View.{requested_waits, waits_requested, waiting_below}
use Rattle.promises.proofs.Frames.{requested_frame, took_grant}
use Rattle.promises.specs.LockModes.{modes}
use Rattle.promises.proofs.LockModes.{mode_frame, asked_frame, given_grant}

-- ---- one waiting job

module _ (s : State) where
  wakes_not : (i : ℕ) → 1 ≤ i → request_of s i ≢ 0 → wakes s i ≡ 0 → passes s i ≡ false
  wakes_not i l d e = go (passes s i) refl
    where
      go : (b : Bool) → passes s i ≡ b → b ≡ false
      go true g = absurd (omega (arith, (simp (ne_eqb (request_of s i) 0 d, g) at e)))
      go false g = refl

  module _ (F : Facts s) where
    -- nobody is woken
    none_woke : ((i : ℕ) → 1 ≤ i → i ≤ s.counts.jobs → wakes s i ≡ 0) → Woke (view s) 0 (view s)
    none_woke z = record {
      waited = λ a. absurd (omega arith);
      search = λ x a k.
          let d = requested_waits s F x a in
          let rank = waiting_rank s F x d in
          fails_blocked s F x (waiting_below s F x d) (wakes_not x rank.0 d (z x rank.0 rank.1));
      took = λ a. absurd (omega arith);
      nobody = λ e r p. refl;
      served = λ a. absurd (omega arith);
      requested_same = λ x. inl refl;
      active_same = λ x. refl;
      unlocked_same = λ x. refl;
    }

    none_woke_modes : WokeModes (view s) (modes s) 0 (modes s)
    none_woke_modes = record { gave = λ a. absurd (omega arith); held_same = λ r p. inl refl; asked_same = λ x. inl refl }

    -- w is woken
    module _ (w : ℕ) (W : FoundAt s.counts.jobs (wakes s) w) where
      request : RequestFacts s (requested_mode s w) w (requested_object s w)
      request = F.requests w (wakes_is s w W.low W.itself).0

      pass : Passes (lock_weight s) w
      pass = passes_all s F w (omega (arith, W.high, F.counts.jobs)) (wakes_is s w W.low W.itself).1

      others_wait : (x : ℕ) → w ≢ x → requested_object (grant s (requested_mode s w) w (requested_object s w)) x ≡ requested_object s x
      others_wait x d =
          requested_frame s (grant s (requested_mode s w) w (requested_object s w)) x
          (grant_same s F w (requested_mode s w) (requested_object s w) request x d)

      one_woke : Woke (view s) w (view (grant s (requested_mode s w) w (requested_object s w)))
      unfolding grant
      one_woke = record {
        waited = λ a. waits_requested s F w (wakes_is s w W.low W.itself).0;
        search = λ x a k. elim k [
          | inl q ↦ absurd (omega (arith, W.low))
          | inr q ↦ (let d = requested_waits s F x (λ n. a (others_wait x (λ v. omega arith) ∙ n)) in
              let rank = waiting_rank s F x d in
              fails_blocked s F x (waiting_below s F x d) (wakes_not x rank.0 d (W.before x rank.0 q)))
        ];
        took = λ a. took_grant s F w W.low W.high (requested_mode s w) (requested_object s w) request pass;
        nobody = λ q. absurd (omega (arith, W.low));
        served = λ a. ap object_of_request (grant_request s F w (requested_mode s w) (requested_object s w) request);
        requested_same = λ x. elim (ℕ_discrete w x) [ yes q ↦ inr (omega (arith, W.low), q) | no d ↦ inl (others_wait x d) ];
        active_same = λ x. refl;
        unlocked_same = λ x. refl;
      }

      one_woke_modes : WokeModes (view s) (modes s) w (modes (grant s (requested_mode s w) w (requested_object s w)))
      one_woke_modes = record {
        gave = λ a.
            given_grant s F w W.low W.high (requested_mode s w) (requested_object s w) request
            (no_conflict s F w W.low W.high (requested_mode s w) (requested_object s w) request (wakes_is s w W.low W.itself).1);
        held_same = λ x p. elim (grant_locks s F w (requested_mode s w) (requested_object s w) request x p) [
          | inl same ↦ inl (mode_frame s (grant s (requested_mode s w) w (requested_object s w)) x p same)
          | inr own ↦ inr (omega (arith, W.low, own.0), own.0, rw own.0 at own.1)
        ];
        asked_same = λ x. elim (ℕ_discrete w x) [
          | yes e ↦ inr (omega (arith, W.low), e)
          | no d ↦ inl (asked_frame s (grant s (requested_mode s w) w (requested_object s w)) x
              (grant_same s F w (requested_mode s w) (requested_object s w) request x d))
        ];
      }

    -- the search wakes as the theory asks
    pub woken_wakes : Woke (view s) (wakeable s) (view (woken s (wakeable s)))
    woken_wakes = by_search s (λ w t. Woke (view s) w (view t)) none_woke one_woke

    pub woken_modes : WokeModes (view s) (modes s) (wakeable s) (modes (woken s (wakeable s)))
    woken_modes = by_search s (λ w t. WokeModes (view s) (modes s) w (modes t)) (λ none. none_woke_modes) one_woke_modes

-- ---- where every waiting job is blocked

module _ (s : State) where
  pub blocked_not_woken : Facts s → ((j : ℕ) → requested_object s j ≢ 0 → Blocked (lock_weight s) j)
      → (j : ℕ) → is_waiting s j ≡ true → passes s j ≡ false
  blocked_not_woken F blocked j w =
      let d = eqb-false (request_of s j) 0 (not-true (eqb (request_of s j) 0) w) in
      blocked_fails s F j (waiting_below s F j d) (blocked j (waits_requested s F j d))

  -- nobody is found
  pub nobody_left : ((j : ℕ) → is_waiting s j ≡ true → passes s j ≡ false) → wakeable s ≡ 0
  unfolding wakeable
  nobody_left fails = all_zero_first s.counts.jobs (wakes s) (λ j a b. none j (is_waiting s j) refl)
    where
      none : (j : ℕ) (b : Bool) → is_waiting s j ≡ b → (if b && passes s j then j else 0) ≡ 0
      none j true w = ap {B = ℕ} (λ t. if t then j else 0) (fails j w)
      none j false w = refl
