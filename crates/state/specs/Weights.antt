-- Ceilings, and what a lock weighs (01, "Ceilings"; 02, CR 4 and CR 6).
-- Assumes nothing.
use Rattle.std.specs.Prelude.{ℕ, ◌+◌, min, if◌then◌else◌}
use Rattle.ranks.specs.Ranks.{first}
use Rattle.state.specs.declared.Counts.{Counts}
use Rattle.state.specs.declared.State.{State}
use Rattle.state.specs.State.{most_jobs, write, of_mode, declared, declared_any, shares_with_none}

-- the more urgent of two ranks or ceilings
abbrev pub more_urgent : ℕ → ℕ → ℕ
more_urgent a b = min a b

-- "'Nobody' is one past the last rank.": "the job count plus one" (02, CR 4). The one definition of nobody
abbrev pub nobody : Counts → ℕ
nobody c = c.jobs + 1

-- the most urgent rank of a set, and nobody where it has none: a set without ranks has its `first` past all ranks, so that nobody is the more urgent
abbrev pub ceiling_of : Counts → ℕ → ℕ
ceiling_of c ranks = more_urgent (first most_jobs ranks) (nobody c)

-- "The write ceiling of an object is the most urgent rank declared to write it"
abbrev pub write_ceiling_of : State → ℕ → ℕ
write_ceiling_of s o = ceiling_of s.counts (declared s write o)

-- "the absolute ceiling the most urgent declared to read or write it"
abbrev pub absolute_ceiling_of : State → ℕ → ℕ
absolute_ceiling_of s o = ceiling_of s.counts (declared_any s o)

-- "A write lock weighs the absolute ceiling." In version 2 "a write lock then weighs the write ceiling, a certify lock the absolute ceiling":
-- a write lock on o weighs the absolute ceiling where it shares with none, which in version 1 every write lock does
abbrev pub write_weight : State → ℕ → ℕ
write_weight s o = if shares_with_none s o then absolute_ceiling_of s o else write_ceiling_of s o

-- "A read lock weighs the more urgent of the write ceiling and its holder's own rank (the cap)."
unfoldable pub weight : State → ℕ → ℕ → ℕ → ℕ
weight s m r o = of_mode m (more_urgent (write_ceiling_of s o) r) (write_weight s o)

-- "The old rule is the same with a read lock weighing the write ceiling alone.": it is a rule for version 1
unfoldable pub old_weight : State → ℕ → ℕ → ℕ → ℕ
old_weight s m r o = of_mode m (write_ceiling_of s o) (absolute_ceiling_of s o)
