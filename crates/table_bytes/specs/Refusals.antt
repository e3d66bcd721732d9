-- The refusals of table bytes (01, "Refusals by who can cause them"), one definition for each step of its order:
-- "fewer than 8 bytes is 1; then 2, 3, 4 on the header; 1 if processor bytes or entry count are cut; 4 on the entry count;
-- 1 if the entries are cut; 5; then the first faulty entry, 6 before 7".
-- 02, CR 6: "3 now means neither 1 nor 2".
-- Assumes nothing.
use Rattle.std.specs.Prelude.{ℕ, zero, suc, Bool, not, ◌&&◌, List, length, eqb, ltb}
use Rattle.basics.specs.Choice.{◌if◌else◌, ◌or_else◌, between}
use Rattle.basics.specs.Loops.{first_nonzero}
use Rattle.state.specs.State.{is_version}
use Rattle.state.specs.WellFormed.{counts_within}
use Rattle.table_bytes.specs.Bytes.{byte, version_in, processors_in, jobs_in, objects_in, counts_in, processor_in, entry_count, entries_start, table_length}
use Rattle.table_bytes.specs.Bytes.{entry_rank, entry_object, entry_mode, order, order_before}

-- the mark `JOB`
abbrev pub has_mark : List ℕ → Bool
has_mark b = eqb (byte b 0) 74 && eqb (byte b 1) 79 && eqb (byte b 2) 66

-- 1 bytes end early; 2 wrong mark; 3 version neither 1 nor 2; 4 a count outside its limits
unfoldable pub header_refusal : List ℕ → ℕ
header_refusal b =
    1 if ltb (length b) 8 else
    2 if not (has_mark b) else
    3 if not (is_version (version_in b)) else
    4 if not (counts_within (counts_in b)) else
    0

-- "the entry count (.., at most 8,192, zero allowed)"
abbrev pub most_entries : ℕ
most_entries = 8192

-- 1 if processor bytes or entry count are cut; 4 on the entry count; 1 if the entries are cut
unfoldable pub length_refusal : List ℕ → ℕ
length_refusal b =
    1 if ltb (length b) (entries_start b) else
    4 if ltb most_entries (entry_count b) else
    1 if ltb (length b) (table_length b) else
    0

-- 5 processor byte too large: that of rank r
abbrev pub processor_byte_refusal_of : List ℕ → ℕ → ℕ
processor_byte_refusal_of b zero = 0
processor_byte_refusal_of b (suc k) = 5 if not (ltb (processor_in b k) (processors_in b)) else 0

unfoldable pub processor_byte_refusal : List ℕ → ℕ
processor_byte_refusal b = first_nonzero (jobs_in b) (processor_byte_refusal_of b)

-- 6 entry field out of range; 7 entry not after the one before, whose order is given: in a table of so many jobs and objects
unfoldable pub entry_refusal : ℕ → ℕ → ℕ → ℕ → ℕ → ℕ → ℕ
entry_refusal jobs objects before rank object mode =
    6 if not (between 1 jobs rank && between 1 objects object && between 1 3 mode) else
    7 if not (ltb before (order rank object)) else
    0

-- of entry i, counted from 1
abbrev pub entry_refusal_of : List ℕ → ℕ → ℕ
entry_refusal_of b zero = 0
entry_refusal_of b (suc k) = entry_refusal (jobs_in b) (objects_in b) (order_before b k) (entry_rank b k) (entry_object b k) (entry_mode b k)

-- the first faulty entry decides
unfoldable pub entries_refusal : List ℕ → ℕ
entries_refusal b = first_nonzero (entry_count b) (entry_refusal_of b)

-- the number of the refusal of table bytes, 0 if they are accepted
unfoldable pub table_refusal : List ℕ → ℕ
table_refusal b = header_refusal b or_else length_refusal b or_else processor_byte_refusal b or_else entries_refusal b
