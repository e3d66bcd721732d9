-- The rule over parts of a state: the state that has what a function of the code sees, all else 0 or empty, and the same rule over numbers.
-- Each law says that a question about a state is the same question about its parts.
-- Assumes nothing.
use Rattle.std.specs.Prelude.{◌≡◌, refl, List, [], ℕ}
use Rattle.state.specs.declared.Counts.{Counts}
use Rattle.state.specs.declared.State.{State}
use Rattle.state.specs.State.{state_of, holders, shares_with_none, write}
use Rattle.state.specs.Weights.{write_ceiling_of, weight}
use Rattle.weights.specs.Keys.{others_key, object_key, lowest_key_by}
use Rattle.rule.specs.Granting.{named_key, reason_of, reason, wakeable}

-- a state with these counts, declarations, locks and requests
abbrev pub waits_state : Counts → List ℕ → List ℕ → List ℕ → List ℕ → List ℕ → List ℕ → State
waits_state counts may_read may_write readers writers certified request = state_of counts [] may_read may_write 0 0 0 0 readers writers certified request

-- a state's parts
abbrev pub waits_of : State → State
waits_of s = waits_state s.counts s.may_read s.may_write s.readers s.writers s.certified s.request

-- ---- the same question about the parts

pub named_waits_parts : (s : State) (j : ℕ) → named_key s j ≡ named_key (waits_of s) j
unfolding lowest_key_by object_key others_key weight named_key
named_waits_parts s j = refl

pub reason_parts : (s : State) (m o h p : ℕ) → reason s m o h p ≡ reason_of s.counts.version m o h p (shares_with_none s p) (holders s write p) (write_ceiling_of s p)
unfolding reason
reason_parts s m o h p = refl

pub wakeable_parts : (s : State) → wakeable s ≡ wakeable (waits_of s)
unfolding lowest_key_by object_key others_key weight wakeable
wakeable_parts s = refl
