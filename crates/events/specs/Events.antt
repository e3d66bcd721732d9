-- What an event in a well-formed state does (01, "Jobs, objects, events": "Each kind has its own rule"): its answer and the next state.
-- Assumes nothing.
use Rattle.std.specs.Prelude.{ℕ, eqb, if◌then◌else◌}
use Rattle.basics.specs.Choice.{between}
use Rattle.state.specs.declared.State.{State}
use Rattle.state.specs.State.{requested_mode, requested_object, activate, await, grant, release, fall_asleep, awaken, end_run}
use Rattle.weights.specs.Keys.{key_holder, key_object, lowest_key}
use Rattle.rule.specs.Granting.{passes_below, reason, wakeable}
use Rattle.events.specs.declared.Outcome.{Outcome}
use Rattle.events.specs.declared.Answer.{Answer}
use Rattle.events.specs.declared.Answer.TheVariants.{Granted, Waits, Done, Refused}
use Rattle.refusals.specs.Refusals.{is_request, mode_of, event_refusal}

abbrev pub outcome : Answer → State → Outcome
outcome a s = record { answer = a; state = s }

-- "1 start: an idle job becomes active."
abbrev pub start : State → ℕ → Outcome
start s r = outcome (Done 0) (activate s r)

-- a request of r for o in mode m that meets a lowest key k: granted, or the job waits and names that lock
unfoldable pub request_meeting : State → ℕ → ℕ → ℕ → ℕ → Outcome
request_meeting s m r o k =
    if passes_below r k then outcome Granted (grant s m r o) else
    outcome (Waits (key_holder k) (key_object k) (reason s m o (key_holder k) (key_object k))) (await s m r o)

-- "2 read-lock, 3 write-lock: granted, or the job waits." "Event 7 asks to turn a held write lock into a certify lock, by the grant rule of 01" (02, CR 6)
abbrev pub request : State → ℕ → ℕ → ℕ → Outcome
request s m r o = request_meeting s m r o (lowest_key s r)

-- the state with rank r woken; nobody where r is 0: "It gets its lock."
unfoldable pub woken : State → ℕ → State
woken s r = if eqb r 0 then s else grant s (requested_mode s r) r (requested_object s r)

-- "After kinds 4, 5 and 6 the waiting jobs are searched": done, with the woken rank or 0
unfoldable pub wake : State → Outcome
wake s = outcome (Done (wakeable s)) (woken s (wakeable s))

-- "4 unlock": "Unlock is for read locks from now on." (02, CR 1)
abbrev pub unlock : State → ℕ → ℕ → Outcome
unlock s r o = wake (release s r o)

-- "5 finish: ends the run and releases everything." "6 abandon: as finish, also for a waiting job, whose request is dropped."
abbrev pub finish : State → ℕ → Outcome
finish s r = wake (end_run s r)

-- 02, CR 8: "a sleeping mark, set by event 8 and cleared by event 9 ..; events 8 and 9 answer done, 0": no lock moves and nobody is woken
abbrev pub sleep_or_awaken : State → ℕ → ℕ → Outcome
sleep_or_awaken s k r = outcome (Done 0) (if eqb k 8 then fall_asleep s r else awaken s r)

-- "Each kind has its own rule": an event that is not refused. A kind without a rule is refused, by 9.
unfoldable pub accepted : State → ℕ → ℕ → ℕ → Outcome
accepted s k r o =
    if eqb k 1 then start s r else
    if is_request k then request s (mode_of k) r o else
    if eqb k 4 then unlock s r o else
    if between 5 6 k then finish s r else
    if between 8 9 k then sleep_or_awaken s k r else
    outcome (Refused 9) s

-- refused by the number n, or, where n is 0, what the rule says: "A refusal returns the state handed in"
abbrev pub unless_refused : ℕ → State → Outcome → Outcome
unless_refused n s rule = if eqb n 0 then rule else outcome (Refused n) s

-- an event in a well-formed state
unfoldable pub perform : State → ℕ → ℕ → ℕ → Outcome
perform s k r o = unless_refused (event_refusal s k r o) s (accepted s k r o)
