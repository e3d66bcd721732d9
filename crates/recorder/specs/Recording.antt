-- What the program that writes the record keeps between two parts of its input. What `read` and `write` moved no contract can say; what
-- stands in memory, before and after them, is said here.
-- Assumes nothing.
use Rattle.std.specs.Prelude.{ℕ, ◌+◌, ◌*◌, ◌-◌, ◌^◌, ◌≤◌, ◌<◌, ◌≡◌, ◌⊎◌, List, [], ◌∷◌, ◌++◌, length, take, drop, zero, suc, codes, Result, Ok, Err}
use Rattle.std.proofs.lemmas.List.Edits.{sets}
use Rattle.decimals.specs.Laid.{Laid}
use Rattle.stream.specs.declared.Bench.{Bench}
use Rattle.stream.specs.Parts.{Advance, feed, Progress, begun, fed, fed_all, joined_parts}
use Rattle.recorder.specs.declared.RecordError.{RecordError}
use Rattle.recorder.specs.declared.Recorded.{Recorded}

-- what a part did: the bench behind it, how many bytes are held for the next, and the length of the lines that were laid
pub record Fed : Type 0 where
  pub bench : Bench
  pub held : ℕ
  pub laid : ℕ

-- a part that was fed: its lines stand at the front of their buffer, and the bytes that were not used at the front of the input's; both
-- buffers are otherwise as they were
pub record Feeds (r : Fed) (bytes : List ℕ) (t : Advance) (input input' lines lines' : List ℕ) : Type 0 where
  pub bench : r.bench ≡ t.bench
  pub held : Laid input input' 0 r.held (length bytes) (drop t.used bytes)
  pub laid : Laid lines lines' 0 r.laid (90 + 15 * length bytes) t.lines

-- the record buffer behind some parts: the lines of each were laid at its front, over those of the part before
unfoldable pub overlaid : List (List ℕ) → Progress → List ℕ → List ℕ
overlaid [] p lines = lines
overlaid (part ∷ parts) p lines = overlaid parts (fed part p) (sets lines 0 (feed p.bench (p.held ++ part)).lines)

-- the bench, the bytes that it has not used and the record buffer, as some parts leave them that came one after the other, so many bytes
-- in all. By `record_of_parts` all lines laid for these parts, and then the last line of this bench and these bytes, are the record of the
-- parts joined.
pub record AfterParts (bench : Bench) (held : List ℕ) (received : ℕ) (lines lines' : List ℕ) : Type 0 where
  pub parts : List (List ℕ)
  pub bench_is : bench ≡ (fed_all parts begun).bench
  pub held_is : held ≡ (fed_all parts begun).held
  pub received_is : received ≡ length (joined_parts parts)
  pub lines_are : lines' ≡ overlaid parts begun lines

-- the bench and the bytes that it has not used, as some parts leave them
pub record AfterSomeParts (bench : Bench) (held : List ℕ) : Type 0 where
  pub received : ℕ
  pub lines : List ℕ
  pub lines' : List ℕ
  pub after_parts : AfterParts bench held received lines lines'

-- a proved loop has to end: no part is read behind so many bytes, whose events 64 bits count
abbrev pub most_bytes : ℕ
most_bytes = 2 ^ 64 - 2 ^ 16

-- how it may end behind so many bytes: the record is whole at the input's end or behind a refused table; which of read and write failed
-- only a run shows
abbrev pub MayEnd : Result (Unit {0}) RecordError → ℕ → Bench → Type 0
MayEnd (Ok whole) received r = (received < most_bytes) ⊎ (2 ≤ r.refusal)
MayEnd (Err RecordError.NotRead) received r = received < most_bytes
MayEnd (Err RecordError.NotWritten) received r = Unit {0}
MayEnd (Err RecordError.TooLong) received r = most_bytes ≤ received

-- what is said of it: 0 nothing, 1 that the input cannot be read, which is so too of one that is too long, 2 that the record cannot be written
abbrev pub failure_of : Result (Unit {0}) RecordError → ℕ
failure_of (Ok whole) = 0
failure_of (Err RecordError.NotRead) = 1
failure_of (Err RecordError.TooLong) = 1
failure_of (Err RecordError.NotWritten) = 2

-- the line that says it
abbrev pub failure_line : ℕ → List ℕ
failure_line zero = []
failure_line (suc zero) = codes "bench: the input cannot be read\n"
failure_line (suc (suc n)) = codes "bench: the record cannot be written\n"

-- how it may end where no part came
abbrev pub MayEndWithoutPart : Result (Unit {0}) RecordError → Bench → Type 0
MayEndWithoutPart e r = (received : ℕ) → received < most_bytes → MayEnd e received r

-- what is handed back, the input buffer, whose front has the bytes held, and the record buffer
pub record Records (r : Recorded) (input lines lines' : List ℕ) : Type 0 where
  pub after_parts : AfterParts r.bench (take r.held input) r.received lines lines'
  pub inside : r.held ≤ length input
  pub ends : MayEnd r.ended r.received r.bench
