-- The record of an input that comes in parts (01, "The bench record"). The bench is handed the bytes that have come and that it has not
-- used yet. It lays the lines that they decide, as far as there is room, and leaves the other bytes for later: a table that is still cut,
-- an event of which one or two bytes have come. That all lines together are the record of the whole input, however it was cut, is
-- `record_of_parts` (AnyParts) and `record_of_moves` (AnySteps).
-- Assumes nothing.
use Rattle.std.specs.Prelude.{ℕ, suc, ◌+◌, ◌*◌, ◌/◌, ◌-◌, ◌^◌, min, ◌≡◌, List, [], ◌∷◌, ◌++◌, eqb, length, take, drop, if◌then◌else◌}
use Rattle.state.specs.declared.Counts.{Counts}
use Rattle.table.specs.Reading.{TableRead}
use Rattle.table.specs.Reading.{refused_read, read_table}
use Rattle.lines.specs.Lines.{header_line, end_line, short_line, refused_line}
use Rattle.decimals.specs.Laid.{Laid}
use Rattle.manager.specs.EventList.{state_after}
use Rattle.record.specs.Record.{event_lines}
use Rattle.stream.specs.declared.Bench.{Bench}
use Rattle.stream.specs.declared.Advanced.{Advanced}

-- ---- a step over the bytes at hand

-- what a step does: the lines that it lays, how many of the bytes at hand it uses, and the bench behind it
pub record Advance : Type 0 where
  pub lines : List ℕ
  pub used : ℕ
  pub bench : Bench

-- the bench behind a table that was read, refused or not
abbrev pub opened : TableRead → Bench
opened t = record { refusal = t.refusal; events = 0; state = t.state }

-- before the first byte: no bytes are a table that is cut
abbrev pub unread : Bench
unread = opened (refused_read 1)

-- the line that the table decides: "Line 1 gives mark, version, jobs, processors, objects"; "A refused table gives the single line `X` and
-- its number"; none as long as the bytes end early (1), since more may come
abbrev pub opening_line : ℕ → Counts → List ℕ
opening_line refusal counts =
    if eqb refusal 0 then header_line counts else
    if eqb refusal 1 then [] else
    refused_line refusal

-- a step at the table
abbrev pub opening : TableRead → Advance
opening t = record {
  lines = opening_line t.refusal t.state.counts;
  used = t.used;
  bench = opened t;
}

-- a step behind an accepted table: the first n events at hand
abbrev pub answering : ℕ → Bench → List ℕ → Advance
answering n r bytes = record {
  lines = event_lines r.state r.events (take (3 * n) bytes);
  used = 3 * n;
  bench = record { refusal = 0; events = r.events + n; state = state_after r.state (take (3 * n) bytes) };
}

-- a step that does nothing
abbrev pub unchanged : Bench → Advance
unchanged r = record { lines = []; used = 0; bench = r }

-- a step that lays at most so many lines
unfoldable pub advance : ℕ → Bench → List ℕ → Advance
advance most r bytes =
    if eqb most 0 then unchanged r else
    if eqb r.refusal 1 then opening (read_table bytes) else
    if eqb r.refusal 0 then answering (min most (length bytes / 3)) r bytes else
    unchanged r

-- how many lines there is room for: the longest has 45 bytes, and an event's number has 64 bits
abbrev pub most_lines : (room : ℕ) → Bench → ℕ
most_lines room r = min (room / 45) (2 ^ 64 - 1 - r.events)

-- the last line, where the input has ended and so many bytes were not used: "The last line is `end` and the event count, or `short` if one
-- or two bytes are left over"; a table that is still cut is refused by 1; behind one that was refused there is no line more
unfoldable pub last_line_of : Bench → ℕ → List ℕ
last_line_of r left =
    if eqb r.refusal 1 then refused_line 1 else
    if eqb r.refusal 0 then (if eqb left 0 then end_line r.events else short_line) else
    []

-- ---- a part that comes

-- one step and then another
abbrev pub followed : Advance → Advance → Advance
followed a b = record { lines = a.lines ++ b.lines; used = a.used + b.used; bench = b.bench }

-- all that the bytes at hand decide, with room for all lines: a step for the table, and one for the events behind it
unfoldable pub feed : Bench → List ℕ → Advance
feed r bytes =
    let first : Advance = advance (suc (length bytes)) r bytes in
    followed first (advance (suc (length bytes)) first.bench (drop first.used bytes))

-- the lines laid so far, the bench, and the bytes that have come and were not used yet
pub record Progress : Type 0 where
  pub laid : List ℕ
  pub bench : Bench
  pub held : List ℕ

abbrev pub begun : Progress
begun = record { laid = []; bench = unread; held = [] }

-- a part comes
abbrev pub fed : List ℕ → Progress → Progress
fed part p =
    let t : Advance = feed p.bench (p.held ++ part) in
    record { laid = p.laid ++ t.lines; bench = t.bench; held = drop t.used (p.held ++ part) }

-- part after part
unfoldable pub fed_all : List (List ℕ) → Progress → Progress
fed_all [] p = p
fed_all (part ∷ parts) p = fed_all parts (fed part p)

-- the input has ended: all that was laid, and the last line
abbrev pub closed : Progress → List ℕ
closed p = p.laid ++ last_line_of p.bench (length p.held)

-- the whole input
unfoldable pub joined_parts : List (List ℕ) → List ℕ
joined_parts [] = []
joined_parts (part ∷ parts) = part ++ joined_parts parts

-- ---- what the code does

-- a step of the code: its lines stand at the front of their buffer, which is otherwise as it was; they take no more than `room` bytes, and
-- 15 for each byte that was used
pub record Advances (r : Advanced) (t : Advance) (room : ℕ) (before after : List ℕ) : Type 0 where
  pub bench : r.bench ≡ t.bench
  pub used : r.used ≡ t.used
  pub laid : Laid before after 0 r.laid (room + 15 * t.used) t.lines
