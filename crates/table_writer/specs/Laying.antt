-- The table's parts as they are laid: over any mode for each rank and object, over the arrays of a state, and over a buffer.
-- Assumes nothing.
use Rattle.std.specs.Prelude.{ℕ, ◌+◌, List, [], ◌++◌, length, take, drop, if◌then◌else◌}
use Rattle.basics.specs.Loops.{joined, sum}
use Rattle.basics.specs.Arrays.{at}
use Rattle.ranks.specs.Ranks.{member, union, size}
use Rattle.state.specs.declared.Counts.{Counts}
use Rattle.state.specs.State.{fresh_state}
use Rattle.table_writer.specs.Writing.{header_bytes, entry_bytes, table_bytes}

-- the mode of an entry of rank r for an object with these sets of declared ranks
abbrev pub declared_mode_of : ℕ → ℕ → ℕ → ℕ
declared_mode_of reading writing r = (if member reading r then 1 else 0) + (if member writing r then 2 else 0)

-- the mode by rank and object, where the sets are by object
abbrev pub declared_modes : List ℕ → List ℕ → ℕ → ℕ → ℕ
declared_modes reads writes r o = declared_mode_of (at reads o) (at writes o) r

-- the entries of rank r for the objects 1, .., n
unfoldable pub entries_of_rank : (ℕ → ℕ → ℕ) → ℕ → ℕ → List ℕ
entries_of_rank mode r n = joined n (λ o. entry_bytes r o (mode r o))

-- the entries of the ranks 1, .., n for so many objects
unfoldable pub entries_of_ranks : (ℕ → ℕ → ℕ) → ℕ → ℕ → List ℕ
entries_of_ranks mode objects n = joined n (λ r. entries_of_rank mode r objects)

-- the header of a table with these counts
abbrev pub header_of : Counts → List ℕ
header_of c = header_bytes (fresh_state c [] [] [])

-- the table of a state with these parts
unfoldable pub table_of : Counts → List ℕ → List ℕ → List ℕ → List ℕ
table_of c ps reads writes = table_bytes (fresh_state c ps reads writes)

-- how many entries object o has
abbrev pub entries_on : List ℕ → List ℕ → ℕ → ℕ
entries_on reads writes o = size (union (at reads o) (at writes o))

-- how many entries the objects 1, .., n have
unfoldable pub entry_total : List ℕ → List ℕ → ℕ → ℕ
entry_total reads writes n = sum n (entries_on reads writes)

-- the buffer with xs laid over it from index i on
unfoldable pub laid : List ℕ → ℕ → List ℕ → List ℕ
laid buffer i xs = take i buffer ++ (xs ++ drop (i + length xs) buffer)
