-- The key of a rank's lock on an object and what a write lock weighs, by the table's counts, the object's sets of ranks and whether its write lock
-- shares with none.
-- Assumes nothing.
use Rattle.std.specs.Prelude.{Bool, ℕ, if◌then◌else◌}
use Rattle.ranks.specs.Ranks.{member, union}
use Rattle.state.specs.declared.Counts.{Counts}
use Rattle.state.specs.Weights.{ceiling_of}
use Rattle.weights.specs.Keys.{lock_key, no_key}

-- the key of r's lock on o, if r is one of the holders
abbrev pub held_key : ℕ → ℕ → ℕ → ℕ → ℕ
held_key holders weighs o r = if member holders r then lock_key weighs r o else no_key

-- what a write lock weighs that shares with none or may be shared
abbrev pub writers_weight : Counts → Bool → ℕ → ℕ → ℕ
writers_weight c none may_read may_write = if none then ceiling_of c (union may_read may_write) else ceiling_of c may_write
