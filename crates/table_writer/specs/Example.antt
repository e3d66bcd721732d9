-- The bytes of the table of 01's example: "2 processors; jobs 1 and 3 on 0, 2 and 4 on 1; job 1 writes object 1, 3 and 4 read it, 2 reads 2 and 3".
-- Assumes nothing.
use Rattle.std.specs.Prelude.{◌≡◌, refl, [], ◌∷◌, ◌++◌}
use Rattle.basics.specs.Loops.{joined}
use Rattle.ranks.specs.Ranks.{member}
use Rattle.state.specs.declared.State.{State}
use Rattle.state.specs.State.{counts_of, zeros, fresh_state}
use Rattle.table.specs.Example.{example}
use Rattle.table_writer.specs.Writing.{rank_bytes, entries_bytes, table_bytes}

abbrev pub example_state : State
example_state = fresh_state (counts_of 1 2 4 3) ((0 ∷ 1 ∷ 0 ∷ 1 ∷ []) ++ zeros 60) ((12 ∷ 2 ∷ 2 ∷ []) ++ zeros 125) ((1 ∷ []) ++ zeros 127)

pub example_bytes : table_bytes example_state ≡ example
unfolding table_bytes entries_bytes rank_bytes joined member
example_bytes = refl
