-- Events one after the other: the state behind them, and their packed answers; then how many events a list of bytes and a list of answers hold.
-- Assumes nothing.
use Rattle.std.specs.Prelude.{ℕ, zero, suc, ◌*◌, ◌/◌, ◌<◌, min, ◌≡◌, refl, List, [], ◌∷◌, ◌++◌, length, take}
use Rattle.std.proofs.Common.{ap, arith}
use Rattle.state.specs.declared.State.{State}
use Rattle.events.specs.Packing.{packed}
use Rattle.manager.specs.Step.{step}

-- the state behind the events in some bytes: each event "gets the state that the event before it returned, refused or not"
unfoldable pub state_after : State → List ℕ → State
state_after s [] = s
state_after s (a ∷ []) = s
state_after s (a ∷ b ∷ []) = s
state_after s (kind ∷ rank ∷ object ∷ bytes) = state_after (step s kind rank object).state bytes

-- the packed answers to them
unfoldable pub answers_to : State → List ℕ → List ℕ
answers_to s [] = []
answers_to s (a ∷ []) = []
answers_to s (a ∷ b ∷ []) = []
answers_to s (kind ∷ rank ∷ object ∷ bytes) = packed (step s kind rank object).answer ∷ answers_to (step s kind rank object).state bytes

-- how many events some bytes and a list of answers both hold whole, and the bytes of these events
abbrev pub event_count : (bytes answers : List ℕ) → ℕ
event_count bytes answers = min (length bytes / 3) (length answers)

abbrev pub whole_events : (bytes answers : List ℕ) → List ℕ
whole_events bytes answers = take (3 * event_count bytes answers) bytes

-- ---- an event, and what it leaves

pub state_after_more : (s : State) (kind rank object : ℕ) (bytes : List ℕ)
    → state_after s (kind ∷ rank ∷ object ∷ bytes) ≡ state_after (step s kind rank object).state bytes
unfolding state_after
state_after_more s kind rank object bytes = refl

pub answers_to_more : (s : State) (kind rank object : ℕ) (bytes : List ℕ)
    → answers_to s (kind ∷ rank ∷ object ∷ bytes) ≡ packed (step s kind rank object).answer ∷ answers_to (step s kind rank object).state bytes
unfolding answers_to
answers_to_more s kind rank object bytes = refl

-- fewer than three bytes are no event
pub state_after_none : (s : State) (bytes : List ℕ) → length bytes < 3 → state_after s bytes ≡ s
unfolding state_after
state_after_none s [] h = refl
state_after_none s (a ∷ []) h = refl
state_after_none s (a ∷ b ∷ []) h = refl
state_after_none s (a ∷ b ∷ c ∷ bytes) h = absurd (omega arith)

pub answers_to_none : (s : State) (bytes : List ℕ) → length bytes < 3 → answers_to s bytes ≡ []
unfolding answers_to
answers_to_none s [] h = refl
answers_to_none s (a ∷ []) h = refl
answers_to_none s (a ∷ b ∷ []) h = refl
answers_to_none s (a ∷ b ∷ c ∷ bytes) h = absurd (omega arith)

-- ---- k whole events

-- and more bytes behind them: the state is that behind those bytes, from the state that the events leave
pub state_after_join : (k : ℕ) (s : State) (xs ys : List ℕ) → length xs ≡ 3 * k → state_after s (xs ++ ys) ≡ state_after (state_after s xs) ys
unfolding state_after
state_after_join zero s [] ys h = refl
state_after_join zero s (a ∷ xs) ys h = absurd (omega arith)
state_after_join (suc k) s [] ys h = absurd (omega arith)
state_after_join (suc k) s (a ∷ []) ys h = absurd (omega arith)
state_after_join (suc k) s (a ∷ b ∷ []) ys h = absurd (omega arith)
state_after_join (suc k) s (a ∷ b ∷ c ∷ xs) ys h = state_after_join k (step s a b c).state xs ys (omega arith)

-- they have k answers
pub answers_to_length : (k : ℕ) (s : State) (bytes : List ℕ) → length bytes ≡ 3 * k → length (answers_to s bytes) ≡ k
unfolding answers_to
answers_to_length zero s [] h = refl
answers_to_length zero s (a ∷ bytes) h = absurd (omega arith)
answers_to_length (suc k) s [] h = absurd (omega arith)
answers_to_length (suc k) s (a ∷ []) h = absurd (omega arith)
answers_to_length (suc k) s (a ∷ b ∷ []) h = absurd (omega arith)
answers_to_length (suc k) s (a ∷ b ∷ c ∷ bytes) h = ap suc (answers_to_length k (step s a b c).state bytes (omega arith))
