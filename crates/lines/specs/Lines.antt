-- The lines of the bench record (01, "The bench record"), as bytes. The sentences in quotes are document 01's.
-- Assumes nothing.
use Rattle.std.specs.Prelude.{ℕ, ◌≤◌, ◌≡◌, List, [], ◌∷◌, map, length, if◌then◌else◌}
use Rattle.basics.specs.Arrays.{at}
use Rattle.state.specs.declared.Counts.{Counts}
use Rattle.decimals.specs.Decimal.{decimal}
use Rattle.decimals.specs.Fields.{line}
use Rattle.decimals.specs.Laid.{at_front}
use Rattle.refusals.specs.Refusals.{is_kind}
use Rattle.events.specs.declared.Answer.{Answer}
use Rattle.events.specs.Answers.{Paper, paper}

-- ---- letters

-- "kind letter (S R W U F A, `?` for others)"; 02, CR 6: of event 7 "the bench letter is C, on version 1 still `?`";
-- CR 8: of events 8 and 9 "with bench letters Z and V"
abbrev pub kind_letter : (version kind : ℕ) → ℕ
kind_letter version k = if is_kind version k then at (83 ∷ 82 ∷ 87 ∷ 85 ∷ 70 ∷ 65 ∷ 67 ∷ 90 ∷ 86 ∷ []) k else 63

-- "then G, W holder object reason, D woken, or X refusal": G W D X by the answer's number among the four
abbrev pub answer_letter : ℕ → ℕ
answer_letter n = at (71 ∷ 87 ∷ 68 ∷ 88 ∷ []) n

abbrev pub answer_fields : Paper → List (List ℕ)
answer_fields p = (answer_letter p.number ∷ []) ∷ map decimal p.values

-- ---- the lines

-- "Line 1 gives mark, version, jobs, processors, objects.": `JOB`, the version and the three counts
unfoldable pub header_line : Counts → List ℕ
header_line c = line (74 ∷ 79 ∷ 66 ∷ []) (decimal c.version ∷ decimal c.jobs ∷ decimal c.processors ∷ decimal c.objects ∷ [])

-- "Each event's line has its number, kind letter .., rank, object, then" the answer
unfoldable pub event_line : (version number kind rank object : ℕ) → Answer → List ℕ
event_line version number kind rank object answer =
    line (decimal number) ((kind_letter version kind ∷ []) ∷ decimal rank ∷ decimal object ∷ answer_fields (paper answer))

-- "The last line is `end` and the event count"
unfoldable pub end_line : (events : ℕ) → List ℕ
end_line events = line (101 ∷ 110 ∷ 100 ∷ []) (decimal events ∷ [])

-- "or `short` if one or two bytes are left over"
unfoldable pub short_line : List ℕ
short_line = line (115 ∷ 104 ∷ 111 ∷ 114 ∷ 116 ∷ []) []

-- "A refused table gives the single line `X` and its number."
unfoldable pub refused_line : (number : ℕ) → List ℕ
refused_line number = line (88 ∷ []) (decimal number ∷ [])

-- ---- a line in a buffer

-- what a line's function does: it answers the line's length, and the buffer of 64 bytes has the line at its front
pub record LineLaid (text before after : List ℕ) (answer : ℕ) : Type 0 where
  pub counted : answer ≡ length text
  pub front : after ≡ at_front text before
  pub room : 64 ≡ length after
  pub within : answer ≤ 64
