-- The parts of table bytes (01, "Table bytes"): "`JOB`, version 1 (16 bits, high byte first), processors, jobs, objects (a byte each);
-- one processor byte per rank; the entry count (16 bits, high byte first, ..); entries of three bytes: rank, object, mode". Tables of version 2
-- (02, CR 6) have the same parts.
-- Assumes nothing.
use Rattle.std.specs.Prelude.{ℕ, zero, suc, ◌+◌, ◌*◌, List, get_or}
use Rattle.state.specs.declared.Counts.{Counts}
use Rattle.state.specs.State.{counts_of}

-- the byte at index i, counted from 0; 0 behind the last
abbrev pub byte : List ℕ → ℕ → ℕ
byte b i = get_or b i 0

-- 16 bits, high byte first
abbrev pub word : List ℕ → ℕ → ℕ
word b i = byte b i * 256 + byte b (i + 1)

abbrev pub version_in : List ℕ → ℕ
version_in b = word b 3

abbrev pub processors_in : List ℕ → ℕ
processors_in b = byte b 5

abbrev pub jobs_in : List ℕ → ℕ
jobs_in b = byte b 6

abbrev pub objects_in : List ℕ → ℕ
objects_in b = byte b 7

-- the version and the counts in the header
abbrev pub counts_in : List ℕ → Counts
counts_in b = counts_of (version_in b) (processors_in b) (jobs_in b) (objects_in b)

-- the processor byte of rank k + 1
abbrev pub processor_in : List ℕ → ℕ → ℕ
processor_in b k = byte b (8 + k)

-- the entry count stands behind the processor bytes, the entries behind the count
abbrev pub entry_count : List ℕ → ℕ
entry_count b = word b (8 + jobs_in b)

abbrev pub entries_start : List ℕ → ℕ
entries_start b = 10 + jobs_in b

abbrev pub table_length : List ℕ → ℕ
table_length b = entries_start b + 3 * entry_count b

-- where entry k stands, counted from 0; its rank, object and mode
abbrev pub entry_start : List ℕ → ℕ → ℕ
entry_start b k = entries_start b + 3 * k

abbrev pub entry_rank : List ℕ → ℕ → ℕ
entry_rank b k = byte b (entry_start b k)

abbrev pub entry_object : List ℕ → ℕ → ℕ
entry_object b k = byte b (entry_start b k + 1)

abbrev pub entry_mode : List ℕ → ℕ → ℕ
entry_mode b k = byte b (entry_start b k + 2)

-- entries ascend "by rank, then object": by this number
abbrev pub order : ℕ → ℕ → ℕ
order rank object = rank * 256 + object

-- the order of the entry before entry k; 0, which is before every entry, for the first
abbrev pub order_before : List ℕ → ℕ → ℕ
order_before b zero = 0
order_before b (suc k) = order (entry_rank b k) (entry_object b k)
