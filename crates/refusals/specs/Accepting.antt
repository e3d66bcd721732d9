-- What an event or a question in a well-formed state may count on: the table's counts are in range, and so are the waiting jobs' requests.
-- Assumes nothing.
use Rattle.std.specs.Prelude.{◌≡◌, ◌≢◌, true, not, ◌&&◌, List, ℕ, ◌≤◌}
use Rattle.std.proofs.Common.{arith, ne_eqb}
use Rattle.std.proofs.lemmas.Bool.{not-false}
use Rattle.basics.specs.Choice.{between, and_left, and_right, between_true, if_zero}
use Rattle.basics.specs.Loops.{every-at}
use Rattle.basics.specs.Arrays.{at}
use Rattle.state.specs.declared.Counts.{Counts}
use Rattle.state.specs.declared.State.{State}
use Rattle.state.specs.State.{most_jobs, most_objects, strongest, is_rank, is_object, is_active, has_unlocked, may_lock, holds_already, request_of, object_of_request, requested_mode, requested_object}
use Rattle.state.specs.WellFormed.{holds_before, may_await, wait_fits, waits_fit, well_formed}
use Rattle.state.specs.Clauses.{clauses, counts_within_lem}
use Rattle.refusals.specs.Refusals.{object_allowed, event_refusal, job_refusal, object_refusal, processor_refusal}
use Rattle.refusals.specs.AcceptedEvent.{event_not_refused}

-- each waiting job asks for an object that the arrays have
abbrev pub RequestsFit : List ℕ → Type 0
RequestsFit requests = (r : ℕ) → 1 ≤ r → r ≤ most_jobs → at requests r ≢ 0 → (1 ≤ object_of_request (at requests r)) × (object_of_request (at requests r) ≤ most_objects)

pub record InRange (counts : Counts) (requests : List ℕ) : Type 0 where
  pub jobs_fit : counts.jobs ≤ most_jobs
  pub objects_fit : counts.objects ≤ most_objects
  pub requests_fit : RequestsFit requests

requested_object_lem : (s : State) (m r o : ℕ) → may_await s m r o ≡ true → is_object s o ≡ true
requested_object_lem s m r o e =
    let one = between 1 (strongest s.counts.version) m in
    let two = one && is_object s o in
    let three = two && is_active s r in
    let four = three && not (has_unlocked s r) in
    let five = four && may_lock s m r o in
    let six = five && not (holds_already s m r o) in
    and_right one (is_object s o)
    (and_left two (is_active s r) (and_left three (not (has_unlocked s r)) (and_left four (may_lock s m r o)
    (and_left five (not (holds_already s m r o)) (and_left six (holds_before s m r o) e)))))

pub well_requests : (s : State) → well_formed s ≡ true → RequestsFit s.request
unfolding waits_fit
well_requests s w r a b d =
    let c = clauses s w in
    let n = counts_within_lem s.counts c.counts in
    let fit = simp (ne_eqb (request_of s r) 0 d) at (every-at most_jobs (wait_fits s) r c.waits a b) in
    let o = between_true 1 s.counts.objects (requested_object s r) (requested_object_lem s (requested_mode s r) r (requested_object s r) fit) in
    (o.0, omega (arith, o.1, n.objects))

pub in_range : (s : State) → well_formed s ≡ true → InRange s.counts s.request
in_range s w =
    let n = counts_within_lem s.counts (clauses s w).counts in
    record { jobs_fit = n.jobs.1; objects_fit = n.objects.1; requests_fit = well_requests s w }

-- an event that is not refused has a rank of the table, and an object that its kind may carry
pub accepted_numbers : (s : State) (k r o : ℕ) → event_refusal s k r o ≡ 0 → (1 ≤ r) × (r ≤ s.counts.jobs) × (object_allowed s k o ≡ true)
accepted_numbers s k r o e =
    let A = event_not_refused s k r o e in
    (A.rank.0, A.rank.1, A.object)

-- ---- what a question that is not refused may count on

pub record Asking (s : State) : Type 0 where
  pub well : well_formed s ≡ true
  pub jobs_fit : s.counts.jobs ≤ most_jobs
  pub objects_fit : s.counts.objects ≤ most_objects

pub asking : (s : State) → well_formed s ≡ true → Asking s
asking s w =
    let n = counts_within_lem s.counts (clauses s w).counts in
    record { well = w; jobs_fit = n.jobs.1; objects_fit = n.objects.1 }

pub job_asking : (s : State) (r : ℕ) → job_refusal s r ≡ 0 → Asking s × ((1 ≤ r) × (r ≤ most_jobs))
unfolding job_refusal
job_asking s r e =
    let e8 = if_zero 7 (not (well_formed s)) _ e in
    let e10 = if_zero 9 (not (is_rank s r)) _ e8.1 in
    let a = asking s (not-false (well_formed s) e8.0) in
    let rank = between_true 1 s.counts.jobs r (not-false (is_rank s r) e10.0) in
    (a, (rank.0, omega (arith, rank.1, a.jobs_fit)))

pub object_asking : (s : State) (o : ℕ) → object_refusal s o ≡ 0 → o ≤ most_objects
unfolding object_refusal
object_asking s o e =
    let e8 = if_zero 7 (not (well_formed s)) _ e in
    let e11 = if_zero 10 (not (is_object s o)) _ e8.1 in
    omega (arith, between_true 1 s.counts.objects o (not-false (is_object s o) e11.0), (asking s (not-false (well_formed s) e8.0)).objects_fit)

pub processor_asking : (s : State) (p : ℕ) → processor_refusal s p ≡ 0 → Asking s
unfolding processor_refusal
processor_asking s p e = asking s (not-false (well_formed s) (if_zero 7 (not (well_formed s)) _ e).0)
