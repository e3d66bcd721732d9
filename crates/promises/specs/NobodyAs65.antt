-- The rule with 65 for nobody, as it stood before 02, CR 4 ("no longer 65"). It is there to be compared with, in proofs/Nobody.antt and in the theorems
-- `nobody_..` of proofs/Promises.antt, and nothing else uses it. Each definition is the rule's own of the same name without 65, with the ceilings of this file;
-- what asks for no ceiling is not written again: refusals, the order of keys, what an event changes. It is a rule for both versions, as the rule is.
-- Assumes nothing.
use Rattle.std.specs.Prelude.{Bool, ◌&&◌, ℕ, ◌+◌, ◌*◌, ◌%◌, eqb, if◌then◌else◌}
use Rattle.basics.specs.Choice.{between}
use Rattle.basics.specs.Loops.{least, first_nonzero}
use Rattle.ranks.specs.Ranks.{first}
use Rattle.state.specs.declared.State.{State}
use Rattle.state.specs.State.{most_jobs, write, of_mode, declared, declared_any, holders, shares_with_none, request_of, is_waiting, await, grant, release, end_run}
use Rattle.state.specs.Weights.{more_urgent}
use Rattle.weights.specs.Keys.{no_key, key_holder, key_object, lowest_key_by}
use Rattle.rule.specs.Granting.{passes_below, named_key_of, reason_of}
use Rattle.inheritance.specs.Running.{is_ready}
use Rattle.refusals.specs.Refusals.{is_request, mode_of, refusal, job_refusal, object_refusal, processor_refusal}
use Rattle.events.specs.declared.Outcome.{Outcome}
use Rattle.events.specs.declared.Answer.TheVariants.{Granted, Waits, Done, Refused}
use Rattle.events.specs.Events.{outcome, start, woken, sleep_or_awaken, unless_refused}
use Rattle.questions.specs.Answers.{RankAnswer, NamedAnswer, CeilingsAnswer}

-- ---- ceilings and weights

-- "a ceiling is a count of trailing zeros plus one": of no ranks 65
abbrev pub ceiling65 : ℕ → ℕ
ceiling65 ranks = first most_jobs ranks

abbrev pub write_ceiling65 : State → ℕ → ℕ
write_ceiling65 s o = ceiling65 (declared s write o)

abbrev pub absolute_ceiling65 : State → ℕ → ℕ
absolute_ceiling65 s o = ceiling65 (declared_any s o)

abbrev pub write_weight65 : State → ℕ → ℕ
write_weight65 s o = if shares_with_none s o then absolute_ceiling65 s o else write_ceiling65 s o

unfoldable pub weight65 : State → ℕ → ℕ → ℕ → ℕ
weight65 s m r o = of_mode m (more_urgent (write_ceiling65 s o) r) (write_weight65 s o)

unfoldable pub old_weight65 : State → ℕ → ℕ → ℕ → ℕ
old_weight65 s m r o = of_mode m (write_ceiling65 s o) (absolute_ceiling65 s o)

-- ---- who is granted a lock, whom a waiting job names and why, who is woken

abbrev pub lowest_key65 : State → ℕ → ℕ
lowest_key65 s j = lowest_key_by (weight65 s) s j

abbrev pub old_lowest_key65 : State → ℕ → ℕ
old_lowest_key65 s j = lowest_key_by (old_weight65 s) s j

abbrev pub passes65 : State → ℕ → Bool
passes65 s j = passes_below j (lowest_key65 s j)

abbrev pub named_key65 : State → ℕ → ℕ
named_key65 s j = named_key_of (request_of s j) (lowest_key65 s j) j

abbrev pub reason65 : State → ℕ → ℕ → ℕ → ℕ → ℕ
reason65 s m o h p = reason_of s.counts.version m o h p (shares_with_none s p) (holders s write p) (write_ceiling65 s p)

abbrev pub wakes65 : State → ℕ → ℕ
wakes65 s j = if is_waiting s j && passes65 s j then j else 0

abbrev pub wakeable65 : State → ℕ
wakeable65 s = first_nonzero s.counts.jobs (wakes65 s)

-- ---- an event

abbrev pub request_meeting65 : State → ℕ → ℕ → ℕ → ℕ → Outcome
request_meeting65 s m r o k =
    if passes_below r k then outcome Granted (grant s m r o) else
    outcome (Waits (key_holder k) (key_object k) (reason65 s m o (key_holder k) (key_object k))) (await s m r o)

-- by the old rule
abbrev pub old_request65 : State → ℕ → ℕ → ℕ → Outcome
old_request65 s m r o = request_meeting65 s m r o (old_lowest_key65 s r)

abbrev pub wake65 : State → Outcome
wake65 s = outcome (Done (wakeable65 s)) (woken s (wakeable65 s))

unfoldable pub accepted65 : State → ℕ → ℕ → ℕ → Outcome
accepted65 s k r o =
    if eqb k 1 then start s r else
    if is_request k then request_meeting65 s (mode_of k) r o (lowest_key65 s r) else
    if eqb k 4 then wake65 (release s r o) else
    if between 5 6 k then wake65 (end_run s r) else
    if between 8 9 k then sleep_or_awaken s k r else
    outcome (Refused 9) s

unfoldable pub step65 : State → ℕ → ℕ → ℕ → Outcome
step65 s k r o = unless_refused (refusal s k r o) s (accepted65 s k r o)

-- ---- inherited ranks and the running job

abbrev pub inherited_from65 : State → ℕ → ℕ → ℕ
inherited_from65 s j r = if is_waiting s r && eqb (key_holder (named_key65 s r)) j then r else j

unfoldable pub inherited_rank65 : State → ℕ → ℕ
inherited_rank65 s j = least s.counts.jobs j (inherited_from65 s j)

unfoldable pub running_rank65 : State → ℕ → ℕ
running_rank65 s p = least s.counts.jobs no_key (λ r. if is_ready s p r then inherited_rank65 s r * 256 + r else no_key) % 256

-- ---- the questions

unfoldable pub ask_inherited_rank65 : State → ℕ → RankAnswer
ask_inherited_rank65 s r = if eqb (job_refusal s r) 0 then RankAnswer.Rank (inherited_rank65 s r) else RankAnswer.Refused (job_refusal s r)

unfoldable pub ask_named_lock65 : State → ℕ → NamedAnswer
ask_named_lock65 s r =
    if eqb (job_refusal s r) 0 then NamedAnswer.Lock (key_holder (named_key65 s r)) (key_object (named_key65 s r))
    else NamedAnswer.Refused (job_refusal s r)

unfoldable pub ask_ceilings65 : State → ℕ → CeilingsAnswer
ask_ceilings65 s o =
    if eqb (object_refusal s o) 0 then CeilingsAnswer.Ceilings (write_ceiling65 s o) (absolute_ceiling65 s o)
    else CeilingsAnswer.Refused (object_refusal s o)

unfoldable pub ask_running65 : State → ℕ → RankAnswer
ask_running65 s p = if eqb (processor_refusal s p) 0 then RankAnswer.Rank (running_rank65 s p) else RankAnswer.Refused (processor_refusal s p)
