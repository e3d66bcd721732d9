-- What the table writer answers and leaves, case by case: refused by 8, refused by 20, written.
-- Assumes nothing.
use Rattle.std.specs.Prelude.{◌≡◌, true, false, List, [], ◌∷◌, ◌++◌, ℕ, ◌≤◌, ◌<◌, length, drop}
use borrow.Author.Tests.{lt-ltb, le-ltb}
use Rattle.basics.specs.Replies.{refused, told}
use Rattle.state.specs.declared.State.{State}
use Rattle.state.specs.WellFormed.{well_formed}
use Rattle.table_writer.specs.Writing.{table_bytes, write_refusal, write_table, written}

module _ (s : State) (buffer : List ℕ) where
  pub refused_by_8 : well_formed s ≡ false → (write_table s buffer ≡ refused 8) × (written s buffer ≡ buffer)
  unfolding write_table written write_refusal
  refused_by_8 e = (simp e, simp e)

  pub refused_by_20 : well_formed s ≡ true → length buffer < length (table_bytes s) → (write_table s buffer ≡ refused 20) × (written s buffer ≡ buffer)
  unfolding write_table written write_refusal
  refused_by_20 e h =
      let short = lt-ltb (length buffer) (length (table_bytes s)) h in
      (simp (e, short), simp (e, short))

  pub table_written : well_formed s ≡ true → length (table_bytes s) ≤ length buffer
      → (write_table s buffer ≡ told (length (table_bytes s) ∷ [])) × (written s buffer ≡ table_bytes s ++ drop (length (table_bytes s)) buffer)
  unfolding write_table written write_refusal
  table_written e h =
      let long = le-ltb (length buffer) (length (table_bytes s)) h in
      (simp (e, long), simp (e, long))
