-- The fresh states (01, "The words of demand 3"): "The list starts from a fresh state: a well-formed one with every job idle and
-- every object unlocked, as the reader returns for each table it accepts." That the reader does is `read_fresh`; the state of
-- zeros that it returns on a refusal is never well formed.
-- Assumes nothing.
use Prim.Native.Nat.{ℕ, zero, suc, ◌^◌, ◌≤◌}
use Rattle.std.specs.Prelude.{◌≡◌, Bool, ◌||◌, List, ltb, if◌then◌else◌}
use Rattle.std.proofs.Math.Path.{refl, ap}
use Rattle.std.proofs.Common.{sym, subst, ◌∙◌, arith, pow_pos}
use Rattle.std.proofs.Math.Bool.{true, false}
use Rattle.std.proofs.Math.Decide.{dec_le}
use Rattle.std.proofs.Math.Dec.{eqb}
use borrow.Author.Tests.{lt-ltb, eqb-true, eq-eqb, ne_eqb}
use Rattle.basics.specs.Choice.{and_true, or_right, inside_between}
use Rattle.basics.specs.Loops.{every, every_true}
use Rattle.basics.specs.Arrays.{at, at-zeros}
use Rattle.ranks.specs.Ranks.{member, union, unions}
use Rattle.ranks.specs.RankLaws.{member_empty}
use Rattle.ranks.specs.UnionLaws.{union-lt, unions_empty, empty_at_most_one}
use Rattle.ranks.specs.FirstLaws.{most_urgent_none}
use Rattle.state.specs.declared.State.{State}
use Rattle.state.specs.State.{most_jobs, read, write, most_objects, mark_words, word_of, place_of, zeros, zero_state, is_object, declared_any, holds, all_holders, is_active}
use Rattle.state.specs.WellFormed.{counts_fit, processor_fits, processors_fit, declaration_fits, declarations_fit, declared_of_jobs, above_idle}
use Rattle.state.specs.WellFormed.{held_by_active, held_by_right, locks_fit, locked_once, one_lock_each, written_alone, writers_alone, wait_fits, waits_fit, marks_fit, version_fits}
use Rattle.state.specs.WellFormed.{certify_fits, certifies_fit, waits_awake, sleepers_fit, holder_fits, in_order, holders_in_order, well_formed}
use Rattle.table_bytes.specs.Bytes.{processors_in, jobs_in, objects_in, entry_count, table_length}
use Rattle.table_bytes.specs.Refusals.{table_refusal}
use Rattle.table.specs.Reading.{TableRead, declared_in, table_state, refused_read, read_table}
use Rattle.table_bytes.specs.AcceptedTable.{AcceptedTable, accepted_table, accepted_version, accepted_counts}
use Rattle.table.specs.Declarations.{SetsFit, declared_fits, processor_read}

pub record Fresh (s : State) : Type 0 where
  pub well_formed_lem : well_formed s ≡ true
  pub jobs_idle : (r : ℕ) → is_active s r ≡ false
  pub objects_unlocked : (m r o : ℕ) → holds s m r o ≡ false

-- ---- the state of accepted bytes

module _ (b : List ℕ) (a : AcceptedTable b) where
  reads : SetsFit (jobs_in b) (objects_in b) (declared_in read b (entry_count b))
  reads = declared_fits b a read (entry_count b) (omega arith)

  writes : SetsFit (jobs_in b) (objects_in b) (declared_in write b (entry_count b))
  writes = declared_fits b a write (entry_count b) (omega arith)

  counts_fit_lem : counts_fit (table_state b) ≡ true
  unfolding table_state
  counts_fit_lem = accepted_counts b a

  processors_fit_lem : processors_fit (table_state b) ≡ true
  unfolding processors_fit table_state
  processors_fit_lem = every_true (jobs_in b) (processor_fits (table_state b)) each
    where
      each : (r : ℕ) → 1 ≤ r → r ≤ jobs_in b → processor_fits (table_state b) r ≡ true
      each zero l h = absurd (omega arith)
      each (suc k) l h = lt-ltb _ (processors_in b) (omega (arith, processor_read b a k h, a.processor k h))

  declarations_fit_lem : declarations_fit (table_state b) ≡ true
  unfolding declarations_fit table_state
  declarations_fit_lem = every_true most_objects (declaration_fits (table_state b)) each
    where
      none : (x y : ℕ) → x ≡ 0 → y ≡ 0 → eqb (union x y) 0 ≡ true
      none x y p q = rw (p, q)

      each : (o : ℕ) → 1 ≤ o → o ≤ most_objects → declaration_fits (table_state b) o ≡ true
      each o l h = elim (dec_le o (objects_in b)) [
        | yes p ↦ ap (λ (t : Bool). t || eqb (declared_any (table_state b) o) 0) (inside_between 1 (objects_in b) o l p)
        | no n ↦ or_right (is_object (table_state b) o) (eqb (declared_any (table_state b) o) 0)
            (none (at (declared_in read b (entry_count b)) o) (at (declared_in write b (entry_count b)) o) (reads.of_objects o (omega arith)) (writes.of_objects o (omega arith)))
      ]

  above_idle_lem : above_idle (table_state b) ≡ true
  unfolding above_idle table_state
  above_idle_lem =
      and_true (ltb 0 (2 ^ jobs_in b)) (every most_objects (declared_of_jobs (table_state b))) (lt-ltb 0 (2 ^ jobs_in b) (pow_pos (jobs_in b)))
      (every_true most_objects (declared_of_jobs (table_state b))
      (λ o l h. lt-ltb _ (2 ^ jobs_in b) (union-lt (jobs_in b) _ _ (reads.of_jobs_lem o) (writes.of_jobs_lem o))))

  -- what is said of locks is said of none
  locks_fit_lem : locks_fit (table_state b) ≡ true
  unfolding locks_fit table_state
  locks_fit_lem =
      and_true (every most_objects (held_by_active (table_state b))) (every most_objects (held_by_right (table_state b)))
      (every_true most_objects (held_by_active (table_state b)) (λ o l h. simp (at-zeros most_objects o)))
      (every_true most_objects (held_by_right (table_state b)) (λ o l h. simp (at-zeros most_objects o)))

  one_lock_each_lem : one_lock_each (table_state b) ≡ true
  unfolding one_lock_each table_state
  one_lock_each_lem = every_true most_objects (locked_once (table_state b)) (λ o l h. simp (at-zeros most_objects o))

  writers_alone_lem : writers_alone (table_state b) ≡ true
  unfolding writers_alone table_state
  writers_alone_lem = every_true most_objects (written_alone (table_state b)) (λ o l h. simp (at-zeros most_objects o, empty_at_most_one))

  waits_fit_lem : waits_fit (table_state b) ≡ true
  unfolding waits_fit table_state
  waits_fit_lem = every_true most_jobs (wait_fits (table_state b)) (λ r l h. simp (at-zeros most_jobs r))

  marks_fit_lem : marks_fit (table_state b) ≡ true
  unfolding marks_fit table_state
  marks_fit_lem = refl

  version_fits_lem : version_fits (table_state b) ≡ true
  unfolding table_state
  version_fits_lem = accepted_version b a

  -- no object is certified
  certifies_fit_lem : certifies_fit (table_state b) ≡ true
  unfolding certifies_fit table_state
  certifies_fit_lem = every_true most_objects (certify_fits (table_state b)) (λ o l h. simp (at-zeros mark_words (word_of o), member_empty (place_of o)))

  -- nobody sleeps
  sleepers_fit_lem : sleepers_fit (table_state b) ≡ true
  unfolding sleepers_fit table_state
  sleepers_fit_lem = every_true most_jobs (waits_awake (table_state b)) (λ r l h. simp (at-zeros most_jobs r))

  -- nobody holds a lock
  no_holders : all_holders (table_state b).readers (table_state b).writers ≡ 0
  unfolding all_holders table_state
  no_holders =
      eqb-true (unions most_objects (λ o. union (at (zeros most_objects) o) (at (zeros most_objects) o))) 0
      (unions_empty most_objects (λ o. union (at (zeros most_objects) o) (at (zeros most_objects) o))
      ∙ every_true most_objects (λ o. eqb (union (at (zeros most_objects) o) (at (zeros most_objects) o)) 0) (λ o l h. simp (at-zeros most_objects o)))

  holder_fits_lem : holder_fits (table_state b) ≡ true
  unfolding holder_fits table_state
  holder_fits_lem = simp (no_holders, most_urgent_none)

  holders_in_order_lem : holders_in_order (table_state b) ≡ true
  unfolding holders_in_order
  holders_in_order_lem =
      every_true (table_state b).counts.jobs _ (λ r l h. every_true (table_state b).counts.jobs (λ q. in_order (table_state b) q r) (λ q a b. none q r))
    where
      none : (q r : ℕ) → in_order (table_state b) q r ≡ true
      none q r = simp (no_holders, member_empty q)

  pub table_well_formed : well_formed (table_state b) ≡ true
  unfolding well_formed
  table_well_formed =
      simp (counts_fit_lem, processors_fit_lem, declarations_fit_lem, above_idle_lem, locks_fit_lem, one_lock_each_lem, writers_alone_lem, waits_fit_lem, marks_fit_lem, version_fits_lem, certifies_fit_lem, sleepers_fit_lem, holder_fits_lem, holders_in_order_lem)

  pub table_fresh : Fresh (table_state b)
  unfolding table_state
  table_fresh = record {
    well_formed_lem = table_well_formed;
    jobs_idle = member_empty;
    objects_unlocked = λ m r o. ap (λ (set : ℕ). member set r) (either (eqb m read) (at-zeros most_objects o)) ∙ member_empty r;
  }
    where
      either : {x : ℕ} (t : Bool) → x ≡ 0 → (if t then x else x) ≡ 0
      either true e = e
      either false e = e

-- ---- what the reader returns

pub read_refusal : (b : List ℕ) → (read_table b).refusal ≡ table_refusal b
unfolding read_table
read_refusal b = go (table_refusal b)
  where
    go : (n : ℕ) → (if eqb n 0 then record { refusal = 0; used = table_length b; state = table_state b } else refused_read n).refusal ≡ n
    go zero = refl
    go (suc n) = simp (ne_eqb (suc n) 0 (λ e. omega arith))

pub read_accepted : (b : List ℕ) → table_refusal b ≡ 0 → read_table b ≡ record { refusal = 0; used = table_length b; state = table_state b }
unfolding read_table
read_accepted b e = simp (eq-eqb (table_refusal b) 0 e)

pub read_refused : (b : List ℕ) → (table_refusal b ≡ 0 → ⊥) → read_table b ≡ refused_read (table_refusal b)
unfolding read_table
read_refused b d = simp (ne_eqb (table_refusal b) 0 d)

-- "as the reader returns for each table it accepts"
pub read_fresh : (b : List ℕ) → (read_table b).refusal ≡ 0 → Fresh (read_table b).state
read_fresh b e =
    let ok : table_refusal b ≡ 0 = sym (read_refusal b) ∙ e in
    subst (λ (r : TableRead). Fresh r.state) (sym (read_accepted b ok)) (table_fresh b (accepted_table b ok))

pub read_well_formed : (b : List ℕ) → (read_table b).refusal ≡ 0 → well_formed (read_table b).state ≡ true
read_well_formed b e = (read_fresh b e).well_formed_lem

pub zero_not_well_formed : well_formed zero_state ≡ false
unfolding well_formed
zero_not_well_formed = refl

pub refused_not_well_formed : (b : List ℕ) → ((read_table b).refusal ≡ 0 → ⊥) → well_formed (read_table b).state ≡ false
refused_not_well_formed b d =
    ap (λ (r : TableRead). well_formed r.state) (read_refused b (λ e. d (read_refusal b ∙ e))) ∙ zero_not_well_formed
