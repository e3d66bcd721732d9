-- Inherited ranks, and the job that a processor runs (01, "Granting, naming, waking"; 02, CR 8).
-- Assumes nothing.
use Rattle.std.specs.Prelude.{ℕ, ◌+◌, ◌*◌, ◌%◌, Bool, not, ◌&&◌, eqb, if◌then◌else◌}
use Rattle.basics.specs.Loops.{least}
use Rattle.state.specs.declared.State.{State}
use Rattle.state.specs.State.{processor_of_job, is_active, is_waiting, is_sleeping}
use Rattle.weights.specs.Keys.{no_key}
use Rattle.rule.specs.Granting.{named_holder_of}

-- r, if it waits and names j; else j
abbrev pub inherited_from : State → ℕ → ℕ → ℕ
inherited_from s j r = if is_waiting s r && eqb (named_holder_of s r) j then r else j

-- "A job's inherited rank is the most urgent of its own and those of the waiting jobs that name it."
unfoldable pub inherited_rank : State → ℕ → ℕ
inherited_rank s j = least s.counts.jobs j (inherited_from s j)

-- r is active and not asleep: "A processor passes over a sleeper"
abbrev pub is_awake : State → ℕ → Bool
is_awake s r = is_active s r && not (is_sleeping s r)

-- r is an active job of processor p that is awake and isn't waiting
abbrev pub is_ready : State → ℕ → ℕ → Bool
is_ready s p r = eqb (processor_of_job s r) p && is_awake s r && not (is_waiting s r)

-- ready jobs are ordered by inherited rank
abbrev pub ready_key : State → ℕ → ℕ → ℕ
ready_key s p r = if is_ready s p r then inherited_rank s r * 256 + r else no_key

-- "A processor runs its active job that isn't waiting with the most urgent inherited rank, or is idle", and passes over a sleeper: that rank, or 0
unfoldable pub running_rank : State → ℕ → ℕ
running_rank s p = least s.counts.jobs no_key (ready_key s p) % 256
