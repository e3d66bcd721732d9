-- The record of an input (01, "The bench record": "The bench program reads standard input: a table, then events.").
-- Assumes nothing.
use Rattle.std.specs.Prelude.{ℕ, suc, ◌/◌, ◌%◌, List, [], ◌∷◌, ◌++◌, eqb, length, drop, if◌then◌else◌}
use Rattle.state.specs.declared.State.{State}
use Rattle.table.specs.Reading.{TableRead}
use Rattle.table.specs.Reading.{read_table}
use Rattle.manager.specs.Step.{step}
use Rattle.lines.specs.Lines.{header_line, event_line, end_line, short_line, refused_line}

-- the lines of the events in some bytes, from a state in which so many events came before; "An event is three bytes: kind, rank, object"
unfoldable pub event_lines : State → ℕ → List ℕ → List ℕ
event_lines s n [] = []
event_lines s n (a ∷ []) = []
event_lines s n (a ∷ b ∷ []) = []
event_lines s n (kind ∷ rank ∷ object ∷ bytes) =
    event_line s.counts.version (suc n) kind rank object (step s kind rank object).answer ++ event_lines (step s kind rank object).state (suc n) bytes

-- "The last line is `end` and the event count, or `short` if one or two bytes are left over", behind so many bytes of events
abbrev pub last_line : ℕ → List ℕ
last_line n = if eqb (n % 3) 0 then end_line (n / 3) else short_line

-- the record of a table that was read and the bytes behind it: "A refused table gives the single line `X` and its number."
abbrev pub record_behind : TableRead → List ℕ → List ℕ
record_behind t bytes =
    if eqb t.refusal 0
    then header_line t.state.counts ++ event_lines t.state 0 bytes ++ last_line (length bytes)
    else refused_line t.refusal

-- the record of an input
unfoldable pub record_of : List ℕ → List ℕ
record_of input = record_behind (read_table input) (drop (read_table input).used input)
