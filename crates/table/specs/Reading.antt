-- What the table reader returns: refusal, bytes used, state (01, "Table bytes" and "Refusals").
-- Assumes nothing.
use Rattle.std.specs.Prelude.{ℕ, zero, suc, ◌-◌, Bool, ◌||◌, List, ◌++◌, take, drop, eqb, if◌then◌else◌}
use Rattle.basics.specs.Arrays.{at, put}
use Rattle.ranks.specs.Ranks.{with}
use Rattle.state.specs.declared.State.{State}
use Rattle.state.specs.State.{most_jobs, read, write, most_objects, zeros, fresh_state, zero_state}
use Rattle.state.specs.RefusalNumbers.{refusal_number}
use Rattle.table.specs.declared.TableRead as Code
use Rattle.table_bytes.specs.Bytes.{jobs_in, counts_in, entry_count, table_length, entry_rank, entry_object, entry_mode}
use Rattle.table_bytes.specs.Refusals.{table_refusal}

-- the processor of each rank, 0 above the job count
unfoldable pub processors_of : List ℕ → List ℕ
processors_of b = take (jobs_in b) (drop 8 b) ++ zeros (most_jobs - jobs_in b)

-- "mode (1 read, 2 write, 3 both)": an entry's mode gives the right to lock in mode m
abbrev pub gives_right : ℕ → ℕ → Bool
gives_right mode m = eqb mode m || eqb mode 3

-- the sets of ranks by object, with the rank of an entry put in at its object if its mode gives the right
unfoldable pub with_right : ℕ → ℕ → ℕ → ℕ → List ℕ → List ℕ
with_right m rank object mode sets = if gives_right mode m then put sets object (with (at sets object) rank) else sets

-- the ranks that the first n entries declare to lock in mode m, by object
unfoldable pub declared_in : ℕ → List ℕ → ℕ → List ℕ
declared_in m b zero = zeros most_objects
declared_in m b (suc k) = with_right m (entry_rank b k) (entry_object b k) (entry_mode b k) (declared_in m b k)

-- the fresh state of accepted table bytes
unfoldable pub table_state : List ℕ → State
table_state b =
    fresh_state (counts_in b) (processors_of b)
    (declared_in read b (entry_count b)) (declared_in write b (entry_count b))

-- what the table reader tells: the refusal's number or 0, how many bytes the table has, its fresh state
pub record TableRead : Type 0 where
  pub refusal : ℕ
  pub used : ℕ
  pub state : State

-- "The table reader, handed no state, returns one whose numbers are all 0 and says 0 bytes used."
abbrev pub refused_read : ℕ → TableRead
refused_read n = record { refusal = n; used = 0; state = zero_state }

unfoldable pub read_table : List ℕ → TableRead
read_table b =
    if eqb (table_refusal b) 0 then record { refusal = 0; used = table_length b; state = table_state b } else refused_read (table_refusal b)

-- what the code's answer tells, on a refusal too: "The table reader, handed no state, returns one whose numbers are all 0 and says 0 bytes used."
abbrev pub read_of : Code.TableRead → TableRead
read_of t = record { refusal = refusal_number t.ended; used = t.used; state = t.state }
