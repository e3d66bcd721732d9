-- The table of the bench record's example (01), as bytes: accepted, read, cut short and refused, by computing.
-- Assumes nothing.
use Rattle.std.specs.Prelude.{ℕ, ◌≡◌, refl, List, [], ◌∷◌, ◌++◌, take}
use Rattle.basics.specs.Loops.{first_nonzero, joined}
use Rattle.ranks.specs.Ranks.{with}
use Rattle.table_bytes.specs.Refusals.{header_refusal, length_refusal, processor_byte_refusal, entry_refusal, entries_refusal, table_refusal}
use Rattle.table.specs.Reading.{with_right, declared_in, table_state, read_table}
use Rattle.table.specs.JobEntries.{entries_of, job_entries_refusal, job_entries}

-- "2 processors; jobs 1 and 3 on 0, 2 and 4 on 1; job 1 writes object 1, 3 and 4 read it, 2 reads 2 and 3"
abbrev pub example : List ℕ
example =
    74 ∷ 79 ∷ 66 ∷ 0 ∷ 1 ∷ 2 ∷ 4 ∷ 3 ∷ 0 ∷ 1 ∷ 0 ∷ 1 ∷ 0 ∷ 5 ∷ 1 ∷ 1 ∷ 2 ∷ 2 ∷ 2 ∷ 1 ∷ 2 ∷ 3 ∷ 1 ∷ 3 ∷ 1 ∷ 1 ∷ 4 ∷ 1 ∷ 1 ∷ []

pub example_accepted : table_refusal example ≡ 0
unfolding table_refusal header_refusal length_refusal processor_byte_refusal entry_refusal entries_refusal first_nonzero
example_accepted = refl

-- three bytes behind the table are not read
pub example_used : (read_table (example ++ (1 ∷ 2 ∷ 3 ∷ []))).used ≡ 29
unfolding read_table table_refusal header_refusal length_refusal processor_byte_refusal entry_refusal entries_refusal first_nonzero
example_used = refl

pub example_read : take 3 (table_state example).may_read ≡ 12 ∷ 2 ∷ 2 ∷ []
unfolding table_state declared_in with_right with
example_read = refl

pub example_job : job_entries example 2 ≡ 2 ∷ 2 ∷ 1 ∷ 2 ∷ 3 ∷ 1 ∷ []
unfolding job_entries job_entries_refusal entries_of joined table_refusal header_refusal length_refusal processor_byte_refusal entry_refusal entries_refusal first_nonzero
example_job = refl

-- "7 bytes": they end early
pub example_short : table_refusal (take 7 example) ≡ 1
unfolding table_refusal header_refusal
example_short = refl

-- its last byte cut off
pub example_cut : table_refusal (take 28 example) ≡ 1
unfolding table_refusal header_refusal length_refusal
example_cut = refl
