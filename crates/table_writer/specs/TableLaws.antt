-- The table's bytes: how long they are, and that they are those of the table's parts.
-- Assumes nothing.
use Rattle.std.specs.Prelude.{◌≡◌, refl, ◌++◌, ℕ, ◌+◌, ◌*◌, ◌/◌, ◌≤◌, length, take}
use Rattle.std.proofs.Common.{sym, ap, ◌∙◌, arith, length-take-le}
use Rattle.std.proofs.Math.ListN.{length-append}
use Rattle.state.specs.declared.State.{State}
use Rattle.state.specs.State.{most_jobs}
use Rattle.table_writer.specs.Writing.{header_bytes, rank_bytes, entries_bytes, table_bytes}
use Rattle.table_writer.specs.Laying.{table_of, entry_total}
use Rattle.table_writer.specs.EntryLaws.{state_entries, entries_counted}
use Rattle.table_writer.specs.TableFits.{TableFits}

pub state_table : (s : State) → table_of s.counts s.processor_of s.may_read s.may_write ≡ table_bytes s
unfolding table_of table_bytes entries_bytes rank_bytes
state_table s = refl

module _ (s : State) (n : ℕ) (processors : s.counts.jobs ≤ length s.processor_of) (count : 3 * n ≡ length (entries_bytes s)) where
  -- the count that is written is that of the entries
  pub entry_third : length (entries_bytes s) / 3 ≡ n
  entry_third = omega arith

  pub front_length : length (header_bytes s ++ take s.counts.jobs s.processor_of) ≡ 8 + s.counts.jobs
  front_length =
      length-append (header_bytes s) (take s.counts.jobs s.processor_of) ∙ ap (λ (k : ℕ). 8 + k) (length-take-le s.counts.jobs s.processor_of processors)

  pub table_length_lem : length (table_bytes s) ≡ 10 + s.counts.jobs + 3 * n
  unfolding table_bytes
  table_length_lem = simp length-append (omega (arith, simp length-append at front_length))

-- ---- of a well-formed state

module _ (s : State) (fits : TableFits s) where
  -- the sizes of the objects' declared sets count the entries
  pub entries_total : 3 * entry_total s.may_read s.may_write s.counts.objects ≡ length (entries_bytes s)
  entries_total =
      entries_counted s.may_read s.may_write s.counts.objects s.counts.jobs (λ o a b. fits.declared_small o a (omega (arith, fits.objects_high)))
      ∙ ap length (sym (state_entries s))

  pub whole_length : length s.processor_of ≡ most_jobs → length (table_bytes s) ≡ 10 + s.counts.jobs + 3 * entry_total s.may_read s.may_write s.counts.objects
  whole_length long = table_length_lem s (entry_total s.may_read s.may_write s.counts.objects) (omega (arith, fits.jobs_high)) entries_total
