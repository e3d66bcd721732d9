-- One job's entries (01, "Table bytes"): "One reading call hands back the part of the table bytes that holds one job's entries, empty if it has none."
-- Assumes nothing.
use Rattle.std.specs.Borrow.{Bor}
use Rattle.std.specs.Prelude.{ℕ, zero, suc, not, List, [], take, drop, eqb, if◌then◌else◌, Result, Ok, Err}
use Rattle.basics.specs.Choice.{◌if◌else◌, ◌or_else◌, between}
use Rattle.basics.specs.Loops.{joined}
use Rattle.state.specs.declared.refusal.Refusal.{Refusal}
use Rattle.table_bytes.specs.Bytes.{jobs_in, entry_rank, entry_start, entry_count}
use Rattle.table_bytes.specs.Refusals.{table_refusal}

-- the three bytes of entry i, counted from 1, if it is the rank's
abbrev pub entry_of : List ℕ → ℕ → ℕ → List ℕ
entry_of b rank zero = []
entry_of b rank (suc k) = if eqb (entry_rank b k) rank then take 3 (drop (entry_start b k) b) else []

-- the bytes of the rank's entries
unfoldable pub entries_of : List ℕ → ℕ → List ℕ
entries_of b rank = joined (entry_count b) (entry_of b rank)

-- "one job's entries 1 to 7, then 10": the number that is set in the lent cell, 0 if none is
unfoldable pub job_entries_refusal : List ℕ → ℕ → ℕ
job_entries_refusal b rank = table_refusal b or_else (10 if not (between 1 (jobs_in b) rank) else 0)

-- the part that is handed back: "with an empty part" on a refusal
unfoldable pub job_entries : List ℕ → ℕ → List ℕ
job_entries b rank = if eqb (job_entries_refusal b rank) 0 then entries_of b rank else []

-- the part of the code's answer
abbrev pub part_of : Result (Bor (List ℕ)) Refusal → List ℕ
part_of (Ok part) = part.now
part_of (Err refusal) = []
