-- The four questions, each refused by its numbers or answered from the rule (01, "Refusals by who can cause them": the sentences in quotes).
-- Assumes nothing.
use Rattle.std.specs.Prelude.{ℕ, eqb, if◌then◌else◌}
use Rattle.state.specs.declared.State.{State}
use Rattle.state.specs.Weights.{write_ceiling_of, absolute_ceiling_of}
use Rattle.rule.specs.Granting.{named_holder_of, named_object_of}
use Rattle.inheritance.specs.Running as R
use Rattle.questions.specs.Answers.{RankAnswer, NamedAnswer, CeilingsAnswer}
use Rattle.refusals.specs.Refusals.{job_refusal, object_refusal, processor_refusal}

-- "The questions for a job's inherited rank .. use 8, 10, 13"
unfoldable pub ask_inherited_rank : State → ℕ → RankAnswer
ask_inherited_rank s r = if eqb (job_refusal s r) 0 then RankAnswer.Rank (R.inherited_rank s r) else RankAnswer.Refused (job_refusal s r)

-- "and for its named lock (rank and object, 0 and 0 if it names nobody) use 8, 10, 13"
unfoldable pub ask_named_lock : State → ℕ → NamedAnswer
ask_named_lock s r = if eqb (job_refusal s r) 0 then NamedAnswer.Lock (named_holder_of s r) (named_object_of s r) else NamedAnswer.Refused (job_refusal s r)

-- "for an object's two ceilings 8, 11"
unfoldable pub ask_ceilings : State → ℕ → CeilingsAnswer
ask_ceilings s o =
    if eqb (object_refusal s o) 0 then CeilingsAnswer.Ceilings (write_ceiling_of s o) (absolute_ceiling_of s o)
    else CeilingsAnswer.Refused (object_refusal s o)

-- "for the rank a processor runs (0 if idle) 8, 19"
unfoldable pub ask_running : State → ℕ → RankAnswer
ask_running s p = if eqb (processor_refusal s p) 0 then RankAnswer.Rank (R.running_rank s p) else RankAnswer.Refused (processor_refusal s p)
