-- What holds of two parts of one load, said of what the generator answers and leaves in the lent buffer (02, CR 5: the sentence in quotes). That it holds is
-- `made_in_two`, in proofs/LoadTheorems.
-- Assumes nothing.
use Rattle.std.specs.Prelude.{◌≡◌, ℕ, ◌+◌, ◌*◌, List, ◌++◌, take, drop}
use Rattle.state.specs.declared.State.{State}
use Rattle.generator.specs.Load.{make_events, events_made}

-- "For one table, making m and then, behind them, n events from the seed left over equals making m + n where the buffer holds all."
-- The first m are made in state s, those behind them in state t.
module _ (s t : State) (seed m n : ℕ) (buffer : List ℕ) where
  -- the seed that the first m leave over, and the buffer behind them
  abbrev pub left : ℕ
  left = (make_events s seed m buffer).seed

  abbrev pub filled : List ℕ
  filled = events_made s seed m buffer

  abbrev pub InTwo : Type 0
  InTwo =
      (make_events t left n (drop (3 * m) filled) ≡ make_events s seed (m + n) buffer)
      × (take (3 * m) filled ++ events_made t left n (drop (3 * m) filled) ≡ events_made s seed (m + n) buffer)
