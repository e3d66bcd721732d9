-- The bytes of a state's table, and what the table writer answers and leaves in the lent buffer (01, "Table bytes"):
-- "The writer lays a state's table into a lent buffer, answers its length, and leaves the rest of that buffer untouched."
-- Assumes nothing.
use Rattle.std.specs.Prelude.{ℕ, zero, suc, ◌+◌, ◌/◌, ◌%◌, not, List, [], ◌∷◌, ◌++◌, length, take, drop, eqb, ltb, if◌then◌else◌}
use Rattle.basics.specs.Choice.{◌if◌else◌}
use Rattle.basics.specs.Loops.{joined}
use Rattle.basics.specs.Replies.{Reply, refused, told}
use Rattle.state.specs.declared.State.{State}
use Rattle.state.specs.State.{read, write, may_lock}
use Rattle.state.specs.WellFormed.{well_formed}

-- 16 bits, high byte first
abbrev pub word_bytes : ℕ → List ℕ
word_bytes n = n / 256 % 256 ∷ n % 256 ∷ []

-- the mode of rank r's entry for object o: 1 read, 2 write, 3 both; 0 where nothing is declared
abbrev pub declared_mode : State → ℕ → ℕ → ℕ
declared_mode s r o = (if may_lock s read r o then 1 else 0) + (if may_lock s write r o then 2 else 0)

-- an entry's three bytes, none where its mode is 0
abbrev pub entry_bytes : ℕ → ℕ → ℕ → List ℕ
entry_bytes rank object zero = []
entry_bytes rank object (suc m) = rank ∷ object ∷ suc m ∷ []

-- the entries of rank r, by object
unfoldable pub rank_bytes : State → ℕ → List ℕ
rank_bytes s r = joined s.counts.objects (λ o. entry_bytes r o (declared_mode s r o))

-- the entries of all ranks, "strictly ascending by rank, then object"
unfoldable pub entries_bytes : State → List ℕ
entries_bytes s = joined s.counts.jobs (rank_bytes s)

-- the mark, the version in 16 bits, of which the high byte is 0, and the counts
abbrev pub header_bytes : State → List ℕ
header_bytes s = 74 ∷ 79 ∷ 66 ∷ 0 ∷ s.counts.version ∷ s.counts.processors ∷ s.counts.jobs ∷ s.counts.objects ∷ []

-- the bytes of a state's table
unfoldable pub table_bytes : State → List ℕ
table_bytes s =
    header_bytes s ++ take s.counts.jobs s.processor_of ++ word_bytes (length (entries_bytes s) / 3) ++ entries_bytes s

-- "the writer's 8, 20": 20 "lent buffer shorter than the table to write"
unfoldable pub write_refusal : State → List ℕ → ℕ
write_refusal s buffer = 8 if not (well_formed s) else 20 if ltb (length buffer) (length (table_bytes s)) else 0

-- the answer: "answers its length", or the refusal's number
unfoldable pub write_table : State → List ℕ → Reply
write_table s buffer = if eqb (write_refusal s buffer) 0 then told (length (table_bytes s) ∷ []) else refused (write_refusal s buffer)

-- the buffer afterwards
unfoldable pub written : State → List ℕ → List ℕ
written s buffer = if eqb (write_refusal s buffer) 0 then table_bytes s ++ drop (length (table_bytes s)) buffer else buffer
