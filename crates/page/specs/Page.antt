-- The state page: its lines, its refusals, what the page writer answers and leaves in the lent buffer (02, CR 2 and CR 8: the sentences in quotes).
-- Assumes nothing.
use Rattle.std.specs.Prelude.{ℕ, Bool, not, List, [], ◌∷◌, eqb, ltb, length, if◌then◌else◌}
use Rattle.basics.specs.Choice.{◌if◌else◌}
use Rattle.basics.specs.Loops.{joined}
use Rattle.basics.specs.Replies.{Reply, refused, told}
use Rattle.state.specs.declared.State.{State}
use Rattle.state.specs.State.{processor_of_job, is_active, is_waiting, is_sleeping}
use Rattle.state.specs.WellFormed.{well_formed}
use Rattle.rule.specs.Granting.{named_holder_of, named_object_of}
use Rattle.inheritance.specs.Running.{inherited_rank, running_rank}
use Rattle.decimals.specs.Decimal.{decimal}
use Rattle.decimals.specs.Fields.{line, right_aligned}
use Rattle.decimals.specs.Laid.{at_front}

-- ---- fields

-- "state letter in 1 (R runs, W waits, I is ready)"; "R goes to the rank its question gives"; CR 8: "On the page of CR 2 a sleeper has the letter Z.":
-- of rank r, whose processor runs the rank `runs`
abbrev pub letter_of : (runs : ℕ) (waits sleeps : Bool) (r : ℕ) → ℕ
letter_of runs waits sleeps r = if eqb runs r then 82 else if waits then 87 else if sleeps then 90 else 73

abbrev pub state_letter : State → ℕ → ℕ
state_letter s r = letter_of (running_rank s (processor_of_job s r)) (is_waiting s r) (is_sleeping s r) r

-- "The last two are blank for a job that names nobody.": the holder or the object of the named lock, blank where the holder is 0
abbrev pub named_field : (holder number : ℕ) → List ℕ
named_field holder number = if eqb holder 0 then [] else decimal number

-- ---- lines

-- "Each line is 20 characters and a line feed: rank in 3, processor in 2, state letter in 1 .., inherited rank in 3, named rank in 3, named object in 3,
-- right-aligned, one space between fields."
unfoldable pub line_of : (rank processor letter inherited holder object : ℕ) → List ℕ
line_of rank processor letter inherited holder object =
    line (right_aligned 3 (decimal rank))
    (right_aligned 2 (decimal processor) ∷ (letter ∷ []) ∷ right_aligned 3 (decimal inherited)
    ∷ right_aligned 3 (named_field holder holder) ∷ right_aligned 3 (named_field holder object) ∷ [])

-- "The processor is the table's, R goes to the rank its question gives, and the last three fields equal what the single questions answer."
abbrev pub page_line : State → ℕ → List ℕ
page_line s r = line_of r (processor_of_job s r) (state_letter s r) (inherited_rank s r) (named_holder_of s r) (named_object_of s r)

-- ---- the page

-- "one line for each active job by ascending rank"
unfoldable pub page : State → List ℕ
page s = joined s.counts.jobs (λ r. if is_active s r then page_line s r else [])

-- "Refused: 22, buffer too short for the page, after 8."
unfoldable pub page_refusal : State → List ℕ → ℕ
page_refusal s buffer = 8 if not (well_formed s) else 22 if ltb (length buffer) (length (page s)) else 0

-- "the answer is the page's length", or the refusal's number
unfoldable pub write_page : State → List ℕ → Reply
write_page s buffer = if eqb (page_refusal s buffer) 0 then told (length (page s) ∷ []) else refused (page_refusal s buffer)

-- the buffer afterwards: "bytes behind the last line stay"
unfoldable pub page_written : State → List ℕ → List ℕ
page_written s buffer = if eqb (page_refusal s buffer) 0 then at_front (page s) buffer else buffer
