-- What a state of the manager shows to the theory of the modes of its locks.
-- A certify lock is a write lock with a mark, which only its holder's grant sets.
-- Assumes nothing.
use Rattle.std.specs.Prelude.{Bool, ℕ, if◌then◌else◌}
use Rattle.state.specs.declared.State.{State}
use Rattle.state.specs.State.{read, write, certify, holds, is_certified, requested_mode}
use Rattle.theory.specs.Modes.{Modes}

-- the mode of a lock, by whether it is held to write, and then certified, and to read; 0 if neither
abbrev pub mode_if : (writes marked reads : Bool) → ℕ
mode_if writes marked reads = if writes then (if marked then certify else write) else if reads then read else 0

abbrev pub held_mode : State → ℕ → ℕ → ℕ
held_mode s r o = mode_if (holds s write r o) (is_certified s o) (holds s read r o)

abbrev pub modes : State → Modes
modes s = record { held = held_mode s; asked = requested_mode s }
