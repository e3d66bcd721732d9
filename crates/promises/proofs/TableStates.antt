-- The states that the table reader returns for accepted bytes have arrays of their lengths, and the version that the bytes say.
-- That these states are fresh is shown in table/specs/Fresh.antt.
-- Assumes nothing.
use Rattle.std.specs.Prelude.{◌≡◌, List, ℕ, ◌-◌, length, drop}
use Rattle.std.proofs.Common.{sym, subst, ap, ◌∙◌}
use native.Mathlib.Omega.{arith}
use Rattle.std.proofs.Math.ListN.{take, length-append, length-take, length-drop, length-replicate}
use Rattle.state.specs.State.{most_jobs, read, write, most_objects, mark_words, zeros}
use Rattle.state.specs.Facts.{Sized}
use Rattle.table_bytes.specs.Bytes.{version_in, jobs_in, entry_count}
use Rattle.table_bytes.specs.Refusals.{table_refusal}
use Rattle.table.specs.Reading.{TableRead, processors_of, table_state, read_table}
use Rattle.table_bytes.specs.AcceptedTable.{AcceptedTable, accepted_table}
use Rattle.table.specs.Declarations.{declared_fits}
use Rattle.table.specs.Fresh.{read_refusal, read_accepted}

module _ (b : List ℕ) (a : AcceptedTable b) where
  processors_long : length (processors_of b) ≡ most_jobs
  unfolding processors_of
  processors_long =
      let own = take (jobs_in b) (drop 8 b) in
      omega (
        arith,
        length-append own (zeros (most_jobs - jobs_in b)),
        length-take (jobs_in b) (drop 8 b),
        length-drop 8 b,
        length-replicate {A = ℕ} (most_jobs - jobs_in b) 0,
        a.start_within,
        a.jobs_high,
      )

  table_sized : Sized (table_state b)
  unfolding table_state
  table_sized = record {
    processor_of = processors_long;
    may_read = (declared_fits b a read (entry_count b) (omega arith)).long;
    may_write = (declared_fits b a write (entry_count b) (omega arith)).long;
    readers = length-replicate {A = ℕ} most_objects 0;
    writers = length-replicate {A = ℕ} most_objects 0;
    certified = length-replicate {A = ℕ} mark_words 0;
    request = length-replicate {A = ℕ} most_jobs 0;
  }

pub read_sized : (b : List ℕ) → (read_table b).refusal ≡ 0 → Sized (read_table b).state
read_sized b e =
    let ok : table_refusal b ≡ 0 = sym (read_refusal b) ∙ e in
    subst (λ (r : TableRead). Sized r.state) (sym (read_accepted b ok)) (table_sized b (accepted_table b ok))

pub read_version : (b : List ℕ) → (read_table b).refusal ≡ 0 → (read_table b).state.counts.version ≡ version_in b
unfolding table_state
read_version b e = ap (λ (r : TableRead). r.state.counts.version) (read_accepted b (sym (read_refusal b) ∙ e))
