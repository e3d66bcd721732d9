-- The two round trips between table bytes and states: writing what was read, and reading what was written.
-- Assumes nothing.
use Rattle.std.specs.Prelude.{◌≡◌, true, List, ◌++◌, ℕ, ◌-◌, ◌≤◌, ◌<◌, length, take, drop}
use Rattle.std.proofs.Common.{sym, ap, ◌∙◌}
use Rattle.state.specs.declared.State.{State}
use Rattle.state.specs.State.{most_jobs, most_objects, zeros, fresh_state}
use Rattle.state.specs.WellFormed.{well_formed}
use Rattle.table_bytes.specs.Bytes.{byte}
use Rattle.table_bytes.specs.Refusals.{table_refusal}
use Rattle.table_bytes.specs.AcceptedTable.{accepted_table, accepted_refusal}
use Rattle.table.specs.Reading.{TableRead, read_table}
use Rattle.table.specs.Fresh.{read_refusal, read_accepted}
use Rattle.table_writer.specs.Writing.{table_bytes, written}
use Rattle.table_writer.specs.Outcomes.{table_written}
use Rattle.table_writer.specs.TableFits.{table_fits}
use Rattle.table_writer.specs.ReadThenWrite.{table_back}
use Rattle.table_writer.specs.WriteThenRead.{used_is, table_accepted, state_back}

-- of table bytes that are accepted, the state that is read has a table of the bytes that were used
pub read_then_write : (b : List ℕ) → ((i : ℕ) → byte b i < 256) → (read_table b).refusal ≡ 0 → table_bytes (read_table b).state ≡ take (read_table b).used b
read_then_write b bytes e =
    let ok : table_refusal b ≡ 0 = sym (read_refusal b) ∙ e in
    let r = read_accepted b ok in
    ap (λ (x : TableRead). table_bytes x.state) r ∙ table_back b (accepted_table b ok) bytes ∙ ap (λ (x : TableRead). take x.used b) (sym r)

-- what a state's table is read as: the fresh state of the same table, and its length as used;
-- a rank above the job count, whose processor the table does not have, gets processor 0
abbrev pub read_again : State → TableRead
read_again s = record {
  refusal = 0;
  used = length (table_bytes s);
  state = fresh_state s.counts (take s.counts.jobs s.processor_of ++ zeros (most_jobs - s.counts.jobs)) s.may_read s.may_write;
}

-- of a well-formed state, the table's bytes, with anything behind them, are read so
module _ (s : State) (processors_long : length s.processor_of ≡ most_jobs)
    (reads_long : length s.may_read ≡ most_objects) (writes_long : length s.may_write ≡ most_objects) (good : well_formed s ≡ true) where
  pub write_then_read : (rest : List ℕ) → read_table (table_bytes s ++ rest) ≡ read_again s
  write_then_read rest =
      let fits = table_fits s good in
      let ok = table_accepted s fits rest processors_long reads_long writes_long in
      let used = used_is s fits rest processors_long reads_long writes_long in
      let state = state_back s fits rest processors_long reads_long writes_long in
      read_accepted (table_bytes s ++ rest) (accepted_refusal (table_bytes s ++ rest) ok) ∙ (λ i. record { refusal = 0; used = used i; state = state i })

  -- and so is the buffer that the writer leaves
  pub written_then_read : (buffer : List ℕ) → length (table_bytes s) ≤ length buffer → read_table (written s buffer) ≡ read_again s
  written_then_read buffer h =
      ap read_table (table_written s buffer good h).1 ∙ write_then_read (drop (length (table_bytes s)) buffer)
