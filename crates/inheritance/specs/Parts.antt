-- Inherited ranks and the running job over parts of a state: the state that has what a function of the code sees, all else 0.
-- Each law says that a question about a state is the same question about its parts.
-- Assumes nothing.
use Rattle.std.specs.Prelude.{◌≡◌, refl, List, ℕ}
use Rattle.state.specs.declared.Counts.{Counts}
use Rattle.state.specs.declared.State.{State}
use Rattle.state.specs.State.{state_of}
use Rattle.state.specs.Weights.{weight}
use Rattle.weights.specs.Keys.{others_key, object_key, lowest_key_by}
use Rattle.rule.specs.Granting.{named_key}
use Rattle.rule.specs.Parts.{waits_of}
use Rattle.inheritance.specs.Running.{inherited_rank, running_rank}

-- a state with these counts, declarations, locks and requests, with the jobs' processors, these active jobs and these sleepers
abbrev pub run_state : Counts → List ℕ → ℕ → ℕ → List ℕ → List ℕ → List ℕ → List ℕ → List ℕ → List ℕ → State
run_state counts processor_of_job active sleeping may_read may_write readers writers certified request =
    state_of counts processor_of_job may_read may_write active 0 sleeping 0 readers writers certified request

-- a state's parts
abbrev pub run_of : State → State
run_of s =
    run_state s.counts s.processor_of s.active s.sleeping s.may_read s.may_write s.readers s.writers s.certified s.request

pub inherited_rank_parts : (s : State) (j : ℕ) → inherited_rank s j ≡ inherited_rank (waits_of s) j
unfolding lowest_key_by object_key others_key weight named_key inherited_rank
inherited_rank_parts s j = refl

pub running_rank_parts : (s : State) (p : ℕ) → running_rank s p ≡ running_rank (run_of s) p
unfolding lowest_key_by object_key others_key weight named_key inherited_rank running_rank
running_rank_parts s p = refl
