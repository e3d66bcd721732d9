-- Refusals 9, 10 and 11 go by the three bytes of an event and the table's version and counts: an event whose kind, rank and object are in range gets none of
-- them, in any state.
-- Assumes nothing.
use Rattle.std.specs.Prelude.{ℕ, ◌≤◌, ◌≡◌, refl, ◌≢◌, Bool, true, false, not, ◌&&◌, eqb}
use Rattle.std.proofs.Common.{arith, ne_eqb}
use Rattle.basics.specs.Choice.{◌if◌else◌, between, clash, and_true, between_true, inside_between, if_not}
use Rattle.state.specs.declared.State.{State}
use Rattle.state.specs.State.{write, is_rank, may_lock, holds, holds_already, holds_any, is_active, is_waiting, is_sleeping, has_unlocked}
use Rattle.state.specs.WellFormed.{well_formed}
use Rattle.refusals.specs.Refusals.{is_kind, is_request, for_ready, mode_of, all_certified, object_allowed, event_refusal, refusal}

-- a condition that does not hold decides nothing
passed : (v n : ℕ) (t : Bool) (rest : ℕ) → t ≡ true → rest ≢ v → (n if not t else rest) ≢ v
passed v n true rest e d = d
passed v n false rest e d = absurd (clash e refl)

-- the kinds of both versions
pub kind_of_both : (version k : ℕ) → between 1 6 k ≡ true → is_kind version k ≡ true
kind_of_both version k e =
    let b = between_true 1 6 k e in
    and_true (between 1 9 k) _ (inside_between 1 9 k b.0 (omega arith)) (simp (ne_eqb k 7 (λ q. omega arith)))

pub bytes_not_refused : (s : State) (k r o v : ℕ) → is_kind s.counts.version k ≡ true → is_rank s r ≡ true → object_allowed s k o ≡ true → 9 ≤ v → v ≤ 11
    → refusal s k r o ≢ v
unfolding refusal event_refusal
bytes_not_refused s k r o v kind rank object low high =
    if_not v 8 (not (well_formed s)) _ (λ e. omega arith)
    (passed v 9 (is_kind s.counts.version k) _ kind
    (passed v 10 (is_rank s r) _ rank
    (passed v 11 (object_allowed s k o) _ object
    (if_not v 12 (eqb k 1 && is_active s r) _ (λ e. omega arith)
    (if_not v 13 (not (eqb k 1) && not (is_active s r)) _ (λ e. omega arith)
    (if_not v 14 (for_ready k && is_waiting s r) _ (λ e. omega arith)
    (if_not v 26 (for_ready k && is_sleeping s r) _ (λ e. omega arith)
    (if_not v 27 (eqb k 9 && not (is_sleeping s r)) _ (λ e. omega arith)
    (if_not v 25 (eqb k 5 && not (all_certified s r)) _ (λ e. omega arith)
    (if_not v 15 (is_request k && has_unlocked s r) _ (λ e. omega arith)
    (if_not v 16 (is_request k && not (may_lock s (mode_of k) r o)) _ (λ e. omega arith)
    (if_not v 17 (is_request k && holds_already s (mode_of k) r o) _ (λ e. omega arith)
    (if_not v 24 (eqb k 7 && not (holds s write r o)) _ (λ e. omega arith)
    (if_not v 18 (eqb k 4 && not (holds_any s r o)) _ (λ e. omega arith)
    (if_not v 21 (eqb k 4 && holds s write r o) 0 (λ e. omega arith) (λ e. omega arith))))))))))))))))
