-- What the manager's locks weigh, as the theory sees them: one weight for each job and object, `no_weight` where it holds no lock.
-- Assumes nothing.
use Rattle.std.specs.Prelude.{Bool, ℕ, min, if◌then◌else◌}
use Rattle.state.specs.declared.State.{State}
use Rattle.state.specs.State.{read, write, holds}
use Rattle.state.specs.Weights.{weight}
use Rattle.weights.specs.Keys.{no_weight}

-- a weight where a lock is held, else that of no lock, which is past every rank
abbrev pub weight_if : Bool → ℕ → ℕ
weight_if held w = if held then w else no_weight

-- ---- the weight of r's lock on o

module _ (s : State) where
  abbrev pub held_weight : ℕ → ℕ → ℕ → ℕ
  held_weight m r o = weight_if (holds s m r o) (weight s m r o)

  abbrev pub lock_weight : ℕ → ℕ → ℕ
  lock_weight r o = min (held_weight read r o) (held_weight write r o)
