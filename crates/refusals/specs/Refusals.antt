-- The refusals 8 to 19, 21 and 24 to 27 of events and questions (01, "Refusals by who can cause them"; 02, CR 1, CR 6 and CR 8): "Order: 8, then as numbered.",
-- with 26, 27 and 25 after 14, 24 after 17 and 21 after 18.
-- Assumes nothing.
use Rattle.std.specs.Prelude.{ℕ, ◌-◌, Bool, not, ◌&&◌, ◌||◌, eqb, ltb, if◌then◌else◌}
use Rattle.basics.specs.Choice.{◌if◌else◌, between}
use Rattle.basics.specs.Loops.{every}
use Rattle.state.specs.declared.State.{State}
use Rattle.ranks.specs.Ranks.{member}
use Rattle.state.specs.State.{write, certify, shares_with_none, is_rank, is_object, may_lock, holds, holds_already, holds_any, is_active, is_waiting, is_sleeping, has_unlocked}
use Rattle.state.specs.WellFormed.{well_formed}

-- 02, CR 8: "9 now means not 1 to 9, or 7 on a version 1 table"
abbrev pub is_kind : ℕ → ℕ → Bool
is_kind version k = between 1 9 k && not (eqb k 7 && eqb version 1)

-- kinds 2 read-lock, 3 write-lock and 7 certify ask for a lock
abbrev pub is_request : ℕ → Bool
is_request k = between 2 3 k || eqb k 7

-- kind 2 asks in mode 1, kind 3 in mode 2, kind 7 in mode 3
abbrev pub mode_of : ℕ → ℕ
mode_of k = if eqb k 7 then certify else k - 1

-- kinds 2 to 5, 7 and 8 are for a job that neither waits nor sleeps: 14 refuses them "for a waiting job", and 26 is "a sleeping job's event of kind 2 to 5,
-- 7 or 8"
abbrev pub for_ready : ℕ → Bool
for_ready k = between 2 5 k || between 7 8 k

-- each write lock of r is one that shares with none: in version 2, "a write lock not certified" is none of them
unfoldable pub all_certified : State → ℕ → Bool
all_certified s r = every s.counts.objects (λ o. not (holds s write r o) || shares_with_none s o)

-- "11 object out of range, or not 0 for kinds 1, 5, 6", and of events 8 and 9 "Both events carry object 0 (else 11)": what kind k may carry
abbrev pub object_allowed : State → ℕ → ℕ → Bool
object_allowed s k o = if is_request k || eqb k 4 then is_object s o else eqb o 0

-- 9 above; "10 rank not 1 to the job count; 11 object out of range, or not 0 for kinds 1, 5, 6.
-- 12 start of an active job; 13 another kind, or a question, for an idle job; 14 kinds 2 to 5 for a waiting job.
-- 15 lock after an unlock; 16 lock whose right is not declared; 17 that lock or the write lock already held; 18 unlock of a lock not held."
-- 02, CR 1: "Refused: 21, unlock of a write lock, after 18." 02, CR 6: "A certified object .. like a write lock, can't be unlocked early (21)";
-- "Refusals 14 and 15 cover event 7 too, 16 there means the right to write"; "Refused: 24, certify without the write lock, after 17;
-- 25, on a version 2 table finish with a write lock not certified, after 14." 02, CR 8: "Refused: 26, a sleeping job's event of kind 2 to 5, 7 or 8;
-- 27, waking one that isn't asleep; both directly after 14, so before 15 and 25; 14 now covers kind 8 for waiting jobs, as 13 covers 8 and 9 for idle ones."
-- Of an event in a well-formed state, 0 if it is accepted.
unfoldable pub event_refusal : State → ℕ → ℕ → ℕ → ℕ
event_refusal s k r o =
    9 if not (is_kind s.counts.version k) else
    10 if not (is_rank s r) else
    11 if not (object_allowed s k o) else
    12 if eqb k 1 && is_active s r else
    13 if not (eqb k 1) && not (is_active s r) else
    14 if for_ready k && is_waiting s r else
    26 if for_ready k && is_sleeping s r else
    27 if eqb k 9 && not (is_sleeping s r) else
    25 if eqb k 5 && not (all_certified s r) else
    15 if is_request k && has_unlocked s r else
    16 if is_request k && not (may_lock s (mode_of k) r o) else
    17 if is_request k && holds_already s (mode_of k) r o else
    24 if eqb k 7 && not (holds s write r o) else
    18 if eqb k 4 && not (holds_any s r o) else
    21 if eqb k 4 && holds s write r o else
    0

-- the number of an event's refusal, 0 if it is accepted
unfoldable pub refusal : State → ℕ → ℕ → ℕ → ℕ
refusal s k r o = 8 if not (well_formed s) else event_refusal s k r o

-- "The questions for a job's inherited rank and for its named lock .. use 8, 10, 13": in a state that is well formed or not
abbrev pub job_refusal_of : Bool → ℕ → ℕ → ℕ → ℕ
job_refusal_of well jobs active r = 8 if not well else 10 if not (between 1 jobs r) else 13 if not (member active r) else 0

unfoldable pub job_refusal : State → ℕ → ℕ
job_refusal s r = job_refusal_of (well_formed s) s.counts.jobs s.active r

-- "for an object's two ceilings 8, 11"
abbrev pub object_refusal_of : Bool → ℕ → ℕ → ℕ
object_refusal_of well objects o = 8 if not well else 11 if not (between 1 objects o) else 0

unfoldable pub object_refusal : State → ℕ → ℕ
object_refusal s o = object_refusal_of (well_formed s) s.counts.objects o

-- "for the rank a processor runs (0 if idle) 8, 19": "processor number not in the table"
abbrev pub processor_refusal_of : Bool → ℕ → ℕ → ℕ
processor_refusal_of well processors p = 8 if not well else 19 if not (ltb p processors) else 0

unfoldable pub processor_refusal : State → ℕ → ℕ
processor_refusal s p = processor_refusal_of (well_formed s) s.counts.processors p
