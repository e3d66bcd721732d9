-- A test load from a seed: how the seed steps, the events that it gives, and what the generator answers and leaves in the lent buffer (02, CR 5: the
-- sentences in quotes).
-- Assumes nothing.
use Rattle.std.specs.Prelude.{ℕ, zero, suc, ◌+◌, ◌*◌, ◌/◌, ◌%◌, ◌^◌, Bool, not, ◌||◌, List, [], ◌∷◌, ◌++◌, length, ◌==◌, nat_lt, if◌then◌else◌, Result}
use Rattle.basics.specs.Choice.{◌if◌else◌, between}
use Rattle.state.specs.declared.Counts.{Counts}
use Rattle.state.specs.declared.State.{State}
use Rattle.state.specs.WellFormed.{well_formed}
use Rattle.decimals.specs.Laid.{at_front}
use Rattle.state.specs.declared.refusal.Refusal.{Refusal}
use Rattle.state.specs.RefusalNumbers.{refusal_number}

-- ---- the seed

-- "A 32-bit number s steps to (1664525 × s + 1013904223) mod 2^32."
unfoldable pub step : ℕ → ℕ
step s = (1664525 * s + 1013904223) % 2 ^ 32

-- "uses s ÷ 2^24 rounded down"
abbrev pub drawn : ℕ → ℕ
drawn s = s / 2 ^ 24

-- ---- an event

-- "kind is 1 plus the first mod 6"
abbrev pub kind_from : ℕ → ℕ
kind_from first = 1 + first % 6

-- "rank 1 plus the second mod the job count"
abbrev pub rank_from : (jobs second : ℕ) → ℕ
rank_from jobs second = 1 + second % jobs

-- "0 for kinds 1, 5 and 6"
abbrev pub carries_none : ℕ → Bool
carries_none kind = kind == 1 || between 5 6 kind

-- "object 1 plus the third mod the object count, or 0 for kinds 1, 5 and 6"
abbrev pub object_from : (objects kind third : ℕ) → ℕ
object_from objects kind third = if carries_none kind then 0 else 1 + third % objects

-- "Each event takes three steps and uses s ÷ 2^24 rounded down after each": the event from seed s
unfoldable pub event_from : Counts → ℕ → List ℕ
event_from c s =
    let first = drawn (step s) in
    let second = drawn (step (step s)) in
    let third = drawn (step (step (step s))) in
    kind_from first ∷ rank_from c.jobs second ∷ object_from c.objects (kind_from first) third ∷ []

-- ---- a load

-- the seed behind n events from seed s
unfoldable pub seed_after : (n s : ℕ) → ℕ
seed_after zero s = s
seed_after (suc n) s = step (step (step (seed_after n s)))

-- n events from seed s, three bytes each
unfoldable pub load : Counts → (n s : ℕ) → List ℕ
load c zero s = []
load c (suc n) s = load c n s ++ event_from c (seed_after n s)

-- ---- the generator

-- what it gives: the refusal's number or 0, and the next seed
pub record Made : Type 0 where
  pub refusal : ℕ
  pub seed : ℕ

-- "Refused: 23, buffer shorter than three times the count, after 8."
unfoldable pub load_refusal : State → (count : ℕ) → List ℕ → ℕ
load_refusal s count buffer = 8 if not (well_formed s) else 23 if nat_lt (length buffer) (3 * count) else 0

-- "gives the next seed"; "A refusal gives back the seed handed in."
unfoldable pub make_events : State → (seed count : ℕ) → List ℕ → Made
make_events s seed count buffer =
    record {
      refusal = load_refusal s count buffer;
      seed = if load_refusal s count buffer == 0 then seed_after count seed else seed;
    }

-- "fills a lent buffer with a wanted count of events"; "The rest of the buffer stays."
unfoldable pub events_made : State → (seed count : ℕ) → List ℕ → List ℕ
events_made s seed count buffer = if load_refusal s count buffer == 0 then at_front (load s.counts count seed) buffer else buffer

-- what the code gives: the number of its answer, and the seed that the call left. "A refusal gives back the seed handed in."
abbrev pub made_of : ℕ → Result (Unit {0}) Refusal → Made
made_of seed answer = record { refusal = refusal_number answer; seed = seed }
