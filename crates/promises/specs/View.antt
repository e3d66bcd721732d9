-- What a state of the manager shows to the theory of demand 3.
-- Assumes nothing.
use Rattle.std.specs.Prelude.{Bool, ℕ, if◌then◌else◌}
use Rattle.state.specs.declared.State.{State}
use Rattle.state.specs.State.{is_active, has_unlocked, requested_object}
use Rattle.theory.specs.Machine.{View}
use Rattle.promises.specs.Terms.{named}
use Rattle.promises.specs.Weights.{lock_weight}

-- 1 where the test holds, else 0
abbrev pub as_number : Bool → ℕ
as_number b = if b then 1 else 0

abbrev pub view : State → View
view s = record {
  weight = lock_weight s;
  requested = requested_object s;
  active = λ r. as_number (is_active s r);
  unlocked = λ r. as_number (has_unlocked s r);
  names = named s;
}
