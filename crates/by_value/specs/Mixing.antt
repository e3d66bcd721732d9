-- The answers to a list of events mixed into one number: two managers whose numbers differ gave different answers.
-- Assumes nothing.
use Rattle.std.specs.Prelude.{ℕ, ◌+◌, ◌≤◌, ◌<◌, ◌≡◌, refl, List, [], ◌∷◌, length, drop, get_or}
use Rattle.std.proofs.Math.Path.{ap}
use Rattle.std.proofs.Common.{arith}
use Rattle.std.specs.Int.Bits.{bit_xor}
use Rattle.basics.specs.Threes.{drop_three}
use Rattle.state.specs.declared.State.{State}
use Rattle.events.specs.declared.Outcome.{Outcome}
use Rattle.manager.specs.Step.{step}
use Rattle.events.specs.Packing.{packed}

-- the exclusive or of a number and the packed answers to the events in some bytes, from a state
unfoldable pub mixed : State → ℕ → List ℕ → ℕ
mixed s n [] = n
mixed s n (a ∷ []) = n
mixed s n (a ∷ b ∷ []) = n
mixed s n (kind ∷ rank ∷ object ∷ bytes) = mixed (step s kind rank object).state (bit_xor n (packed (step s kind rank object).answer)) bytes

-- the event at an index, and what is behind it
module _ (s : State) (n : ℕ) (bytes : List ℕ) (i : ℕ) where
  abbrev outcome : Outcome
  outcome = step s (get_or bytes i 0) (get_or bytes (i + 1) 0) (get_or bytes (i + 2) 0)

  pub mixed_next : i + 3 ≤ length bytes → mixed s n (drop i bytes) ≡ mixed outcome.state (bit_xor n (packed outcome.answer)) (drop (i + 3) bytes)
  unfolding mixed
  mixed_next h = ap (mixed s n) (drop_three bytes i h)

-- fewer than three bytes are no event
pub mixed_none : (s : State) (n : ℕ) (bytes : List ℕ) → length bytes < 3 → mixed s n bytes ≡ n
unfolding mixed
mixed_none s n [] h = refl
mixed_none s n (a ∷ []) h = refl
mixed_none s n (a ∷ b ∷ []) h = refl
mixed_none s n (a ∷ b ∷ c ∷ bytes) h = absurd (omega arith)
