-- What the table reader returns is decided by the table's own bytes, unless they are refused by 1, as cut: whatever bytes come behind,
-- it returns the same.
-- Assumes nothing.
use Prim.Native.Nat.{ℕ, zero, suc, ◌-◌, ◌≤◌}
use Rattle.std.specs.Prelude.{◌≡◌, length, drop}
use Rattle.std.proofs.Math.Path.{refl, ap, ap₂}
use Rattle.std.proofs.Common.{sym, ◌∙◌, arith}
use mathlib.Core.List.{List, ◌++◌}
use Rattle.std.proofs.Math.Decide.{ℕ_discrete}
use Rattle.std.proofs.Math.ListN.{take, length-drop}
use Rattle.std.proofs.Math.Seq.{take-append-le}
use Rattle.std.proofs.lemmas.List.{drop-append-le}
use Rattle.state.specs.declared.Counts.{Counts}
use Rattle.state.specs.declared.State.{State}
use Rattle.state.specs.State.{most_jobs, read, write, zeros, fresh_state}
use Rattle.table_bytes.specs.Bytes.{jobs_in, counts_in, entry_rank, entry_object, entry_mode, entry_count, entries_start, table_length}
use Rattle.table_bytes.specs.Refusals.{table_refusal}
use Rattle.table_bytes.specs.AcceptedTable.{accepted_table}
use Rattle.table_bytes.specs.Decided.{same_jobs, same_counts, same_count, same_length, same_rank, same_object, same_mode, refusal_decided}
use Rattle.table.specs.Reading.{processors_of, with_right, declared_in, table_state, refused_read, read_table}
use Rattle.table.specs.Fresh.{read_refusal, read_accepted, read_refused}

module _ (b more : List ℕ) where
  module _ (h : 8 ≤ length b) (s : entries_start b ≤ length b) (t : table_length b ≤ length b) where
    same_declared : (m n : ℕ) → n ≤ entry_count b → declared_in m (b ++ more) n ≡ declared_in m b n
    unfolding declared_in
    same_declared m zero l = refl
    same_declared m (suc k) l =
        ap₂ (λ (x y : ℕ). with_right m x y (entry_mode (b ++ more) k) (declared_in m (b ++ more) k)) (same_rank b more h s t k l) (same_object b more h s t k l)
        ∙ ap₂ (λ (x : ℕ) (y : List ℕ). with_right m (entry_rank b k) (entry_object b k) x y) (same_mode b more h s t k l) (same_declared m k (omega arith))

    same_processors_of : processors_of (b ++ more) ≡ processors_of b
    unfolding processors_of
    same_processors_of =
        ap (λ (j : ℕ). take j (drop 8 (b ++ more)) ++ zeros (most_jobs - j)) (same_jobs b more h)
        ∙ ap (λ (l : List ℕ). l ++ zeros (most_jobs - jobs_in b))
        (ap (take (jobs_in b)) (drop-append-le 8 b more h) ∙ take-append-le (jobs_in b) (drop 8 b) more (omega (arith, length-drop 8 b)))

    same_state : table_state (b ++ more) ≡ table_state b
    unfolding table_state
    same_state =
        ap₂ (λ (x : Counts) (y : List ℕ). fresh_state x y (declared_in read (b ++ more) (entry_count (b ++ more))) (declared_in write (b ++ more) (entry_count (b ++ more)))) (same_counts b more h) same_processors_of
        ∙ ap (λ (n : ℕ). fresh_state (counts_in b) (processors_of b) (declared_in read (b ++ more) n) (declared_in write (b ++ more) n)) (same_count b more h s)
        ∙ ap₂ (λ (x y : List ℕ). fresh_state (counts_in b) (processors_of b) x y) (same_declared read (entry_count b) (omega arith)) (same_declared write (entry_count b) (omega arith))

  -- bytes that are not cut
  pub table_decided : ((read_table b).refusal ≡ 1 → ⊥) → read_table (b ++ more) ≡ read_table b
  table_decided d = go (ℕ_discrete (table_refusal b) 0)
    where
      kept : table_refusal (b ++ more) ≡ table_refusal b
      kept = refusal_decided b more (λ e. d (read_refusal b ∙ e))

      go : Dec (table_refusal b ≡ 0) → read_table (b ++ more) ≡ read_table b
      go (yes e) =
          let a = accepted_table b e in
          read_accepted (b ++ more) (kept ∙ e)
          ∙ ap₂ (λ (n : ℕ) (s : State). record { refusal = 0; used = n; state = s }) (same_length b more a.long a.start_within)
          (same_state a.long a.start_within a.table_within)
          ∙ sym (read_accepted b e)
      go (no n) = read_refused (b ++ more) (λ e. n (sym kept ∙ e)) ∙ ap refused_read kept ∙ sym (read_refused b n)
