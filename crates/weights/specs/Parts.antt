-- The lowest key over parts of a state: the state that has the counts, declarations and locks, all else 0 or empty, has the same.
-- Assumes nothing.
use Rattle.std.specs.Prelude.{◌≡◌, refl, List, [], ℕ}
use Rattle.state.specs.declared.Counts.{Counts}
use Rattle.state.specs.declared.State.{State}
use Rattle.state.specs.State.{state_of}
use Rattle.state.specs.Weights.{weight}
use Rattle.weights.specs.Keys.{others_key, object_key, lowest_key, lowest_key_by}

-- a state with these counts, declarations and locks
abbrev pub locks_state : Counts → List ℕ → List ℕ → List ℕ → List ℕ → List ℕ → State
locks_state counts may_read may_write readers writers certified = state_of counts [] may_read may_write 0 0 0 0 readers writers certified []

-- a state's part
abbrev pub locks_of : State → State
locks_of s = locks_state s.counts s.may_read s.may_write s.readers s.writers s.certified

-- the same question about the part
pub lowest_key_parts : (s : State) (j : ℕ) → lowest_key s j ≡ lowest_key (locks_of s) j
unfolding lowest_key_by object_key others_key weight
lowest_key_parts s j = refl
