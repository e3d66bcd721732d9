-- `table::job::job_entries_refusal` meets its contract: the refusal of the bytes decides, then that of the rank.
-- Assumes nothing.
use mathlib.Core.Path.{sym, ◌∙◌}
use Rattle.table_bytes.specs.Steps.{decides}
use Rattle.table.specs.JobEntries.{job_entries_refusal}
use Rattle.table.proofs.job.job_entries_refusal.Goals as goal

pub returns-in_err-table_refusal : goal.returns-in_err-table_refusal
unfolding job_entries_refusal
returns-in_err-table_refusal c = decides _ _ _ _ c.from_residual.ensures.1 c.in_err-table_refusal.ensures

pub returns-then-not-within : goal.returns-then-not-within
unfolding job_entries_refusal
returns-then-not-within c = simp (← c.in_ok-table_refusal.ensures, sym c.within.ensures ∙ c.if-not-within.true)

pub returns : goal.returns
unfolding job_entries_refusal
returns c = simp (← c.in_ok-table_refusal.ensures, sym c.within.ensures ∙ c.if-not-within.false)
