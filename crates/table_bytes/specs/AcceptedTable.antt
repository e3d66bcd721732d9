-- What is known of accepted table bytes, those of refusal 0: each condition of `Refusals` fails. `accepted_table` gives all of it
-- as one record, and `accepted_refusal` goes back: bytes of which it holds are accepted.
-- Assumes nothing.
use Prim.Native.Nat.{ℕ, zero, suc, ◌≤◌, ◌<◌}
use Rattle.std.specs.Prelude.{◌≡◌, Bool, false, not, ◌&&◌, List, length, ltb}
use Rattle.std.proofs.Math.Path.{refl}
use Rattle.std.proofs.Math.Bool.{true}
use Rattle.std.proofs.Common.{arith}
use borrow.Author.Tests.{ltb-true, ltb-false, lt-ltb, le-ltb, eqb-true, eq-eqb, not-false}
use Rattle.basics.specs.Choice.{between, and_true, and_left, and_right, between_true, inside_between, if_zero, or_else_zero}
use Rattle.basics.specs.Loops.{first_nonzero_none, all_zero_first}
use Rattle.state.specs.State.{most_jobs, most_objects, most_processors, is_version}
use Rattle.state.specs.WellFormed.{counts_within}
use Rattle.state.specs.Clauses.{counts_within_lem, within_counts}
use Rattle.table_bytes.specs.Bytes.{byte, version_in, processors_in, jobs_in, objects_in, counts_in, processor_in, entry_count, entries_start, table_length}
use Rattle.table_bytes.specs.Bytes.{entry_rank, entry_object, entry_mode, order, order_before}
use Rattle.table_bytes.specs.Refusals.{has_mark, header_refusal, most_entries, length_refusal, processor_byte_refusal_of, processor_byte_refusal}
use Rattle.table_bytes.specs.Refusals.{entry_refusal, entry_refusal_of, entries_refusal, table_refusal}

-- entry k, counted from 0, is within range and after the one before
pub record EntryFits (b : List ℕ) (k : ℕ) : Type 0 where
  pub rank_low : 1 ≤ entry_rank b k
  pub rank_high : entry_rank b k ≤ jobs_in b
  pub object_low : 1 ≤ entry_object b k
  pub object_high : entry_object b k ≤ objects_in b
  pub mode_low : 1 ≤ entry_mode b k
  pub mode_high : entry_mode b k ≤ 3
  pub after : order_before b k < order (entry_rank b k) (entry_object b k)

pub record AcceptedTable (b : List ℕ) : Type 0 where
  pub long : 8 ≤ length b
  pub mark_first : byte b 0 ≡ 74
  pub mark_second : byte b 1 ≡ 79
  pub mark_third : byte b 2 ≡ 66
  pub version : (1 ≤ version_in b) × (version_in b ≤ 2)
  pub processors_low : 1 ≤ processors_in b
  pub processors_high : processors_in b ≤ most_processors
  pub jobs_low : 1 ≤ jobs_in b
  pub jobs_high : jobs_in b ≤ most_jobs
  pub objects_low : 1 ≤ objects_in b
  pub objects_high : objects_in b ≤ most_objects
  pub start_within : entries_start b ≤ length b
  pub count_high : entry_count b ≤ most_entries
  pub table_within : table_length b ≤ length b
  pub processor : (k : ℕ) → k < jobs_in b → processor_in b k < processors_in b
  pub entry : (k : ℕ) → k < entry_count b → EntryFits b k

-- three tests that hold together hold each
three : (p q r : Bool) → p && q && r ≡ true → (p ≡ true) × (q ≡ true) × (r ≡ true)
three p q r e = let l = and_left (p && q) r e in (and_left p q l, and_right p q l, and_right (p && q) r e)

three_true : (p q r : Bool) → p ≡ true → q ≡ true → r ≡ true → p && q && r ≡ true
three_true p q r x y z = and_true (p && q) r (and_true p q x y) z

-- ---- the steps one by one, for the code that takes them one by one

module _ (b : List ℕ) (ok : header_refusal b ≡ 0) where
  header : (ltb (length b) 8 ≡ false) × (has_mark b ≡ true) × (is_version (version_in b) ≡ true) × (counts_within (counts_in b) ≡ true)
  unfolding header_refusal
  header =
      let short = if_zero 0 (ltb (length b) 8) _ ok in
      let mark = if_zero 1 (not (has_mark b)) _ short.1 in
      let version = if_zero 2 (not (is_version (version_in b))) _ mark.1 in
      let counts = if_zero 3 (not (counts_within (counts_in b))) _ version.1 in
      (short.0, not-false _ mark.0, not-false _ version.0, not-false _ counts.0)

  pub header_long : 8 ≤ length b
  header_long = ltb-false (length b) 8 header.0

  pub header_jobs : jobs_in b ≤ most_jobs
  header_jobs = (counts_within_lem (counts_in b) header.3).jobs.1

module _ (b : List ℕ) (ok : length_refusal b ≡ 0) where
  lengths : (ltb (length b) (entries_start b) ≡ false) × (ltb most_entries (entry_count b) ≡ false) × (ltb (length b) (table_length b) ≡ false)
  unfolding length_refusal
  lengths =
      let start = if_zero 0 (ltb (length b) (entries_start b)) _ ok in
      let count = if_zero 3 (ltb most_entries (entry_count b)) _ start.1 in
      let end = if_zero 0 (ltb (length b) (table_length b)) _ count.1 in
      (start.0, count.0, end.0)

  pub start_in : entries_start b ≤ length b
  start_in = ltb-false (length b) (entries_start b) lengths.0

  pub count_in : entry_count b ≤ most_entries
  count_in = ltb-false most_entries (entry_count b) lengths.1

  pub table_in : table_length b ≤ length b
  table_in = ltb-false (length b) (table_length b) lengths.2

processor_fits_lem : (b : List ℕ) → processor_byte_refusal b ≡ 0 → (k : ℕ) → k < jobs_in b → processor_in b k < processors_in b
unfolding processor_byte_refusal
processor_fits_lem b ok k l =
    let e = if_zero 4 (not (ltb (processor_in b k) (processors_in b))) 0 (first_nonzero_none (jobs_in b) (processor_byte_refusal_of b) (suc k) ok (omega arith) (omega arith)) in
    ltb-true (processor_in b k) (processors_in b) (not-false _ e.0)

module _ (b : List ℕ) (k : ℕ) (ok : entry_refusal_of b (suc k) ≡ 0) where
  entry_tests : (between 1 (jobs_in b) (entry_rank b k) && between 1 (objects_in b) (entry_object b k) && between 1 3 (entry_mode b k) ≡ true)
      × (ltb (order_before b k) (order (entry_rank b k) (entry_object b k)) ≡ true)
  unfolding entry_refusal
  entry_tests =
      let fields = if_zero 5 (not (between 1 (jobs_in b) (entry_rank b k) && between 1 (objects_in b) (entry_object b k) && between 1 3 (entry_mode b k))) _ ok in
      let after = if_zero 6 (not (ltb (order_before b k) (order (entry_rank b k) (entry_object b k)))) _ fields.1 in
      (not-false _ fields.0, not-false _ after.0)

  entry_fits : EntryFits b k
  entry_fits =
      let t = three _ _ _ entry_tests.0 in
      let r = between_true 1 (jobs_in b) (entry_rank b k) t.0 in
      let o = between_true 1 (objects_in b) (entry_object b k) t.1 in
      let m = between_true 1 3 (entry_mode b k) t.2 in
      record {
        rank_low = r.0;
        rank_high = r.1;
        object_low = o.0;
        object_high = o.1;
        mode_low = m.0;
        mode_high = m.1;
        after = ltb-true (order_before b k) (order (entry_rank b k) (entry_object b k)) entry_tests.1;
      }

-- ---- all of them

module _ (b : List ℕ) (ok : table_refusal b ≡ 0) where
  steps : (header_refusal b ≡ 0) × (length_refusal b ≡ 0) × (processor_byte_refusal b ≡ 0) × (entries_refusal b ≡ 0)
  unfolding table_refusal
  steps =
      let h = or_else_zero (header_refusal b) _ ok in
      let l = or_else_zero (length_refusal b) _ h.1 in
      let p = or_else_zero (processor_byte_refusal b) _ l.1 in
      (h.0, l.0, p.0, p.1)

  pub accepted_table : AcceptedTable b
  unfolding entries_refusal
  accepted_table =
      let h = header b steps.0 in
      let m = three _ _ _ h.1 in
      let n = counts_within_lem (counts_in b) h.3 in
      record {
        long = header_long b steps.0;
        mark_first = eqb-true (byte b 0) 74 m.0;
        mark_second = eqb-true (byte b 1) 79 m.1;
        mark_third = eqb-true (byte b 2) 66 m.2;
        version = between_true 1 2 (version_in b) h.2;
        processors_low = n.processors.0;
        processors_high = n.processors.1;
        jobs_low = n.jobs.0;
        jobs_high = n.jobs.1;
        objects_low = n.objects.0;
        objects_high = n.objects.1;
        start_within = start_in b steps.1;
        count_high = count_in b steps.1;
        table_within = table_in b steps.1;
        processor = processor_fits_lem b steps.2;
        entry = λ k l. entry_fits b k (first_nonzero_none (entry_count b) (entry_refusal_of b) (suc k) steps.3 (omega arith) (omega arith));
      }

-- ---- and back

module _ (b : List ℕ) (a : AcceptedTable b) where
  pub accepted_version : is_version (version_in b) ≡ true
  accepted_version = inside_between 1 2 (version_in b) a.version.0 a.version.1

  pub accepted_counts : counts_within (counts_in b) ≡ true
  accepted_counts =
      within_counts (counts_in b) (record {
        processors = (a.processors_low, a.processors_high);
        jobs = (a.jobs_low, a.jobs_high);
        objects = (a.objects_low, a.objects_high);
      })

  header_none : header_refusal b ≡ 0
  unfolding header_refusal
  header_none =
      let mark : has_mark b ≡ true =
      three_true _ _ _ (eq-eqb (byte b 0) 74 a.mark_first) (eq-eqb (byte b 1) 79 a.mark_second) (eq-eqb (byte b 2) 66 a.mark_third) in
      simp (le-ltb (length b) 8 a.long, mark, accepted_version, accepted_counts)

  length_none : length_refusal b ≡ 0
  unfolding length_refusal
  length_none =
      simp (le-ltb (length b) (entries_start b) a.start_within, le-ltb most_entries (entry_count b) a.count_high, le-ltb (length b) (table_length b) a.table_within)

  processor_none : processor_byte_refusal b ≡ 0
  unfolding processor_byte_refusal
  processor_none = all_zero_first (jobs_in b) (processor_byte_refusal_of b) each
    where
      each : (i : ℕ) → 1 ≤ i → i ≤ jobs_in b → processor_byte_refusal_of b i ≡ 0
      each zero l h = refl
      each (suc k) l h = simp (lt-ltb (processor_in b k) (processors_in b) (a.processor k (omega arith)))

  entries_none : entries_refusal b ≡ 0
  unfolding entries_refusal entry_refusal
  entries_none = all_zero_first (entry_count b) (entry_refusal_of b) each
    where
      each : (i : ℕ) → 1 ≤ i → i ≤ entry_count b → entry_refusal_of b i ≡ 0
      each zero l h = refl
      each (suc k) l h =
          let e = a.entry k (omega arith) in
          let fields : between 1 (jobs_in b) (entry_rank b k) && between 1 (objects_in b) (entry_object b k) && between 1 3 (entry_mode b k) ≡ true =
          three_true _ _ _ (inside_between 1 (jobs_in b) (entry_rank b k) e.rank_low e.rank_high)
          (inside_between 1 (objects_in b) (entry_object b k) e.object_low e.object_high) (inside_between 1 3 (entry_mode b k) e.mode_low e.mode_high) in
          simp (fields, lt-ltb (order_before b k) (order (entry_rank b k) (entry_object b k)) e.after)

  pub accepted_refusal : table_refusal b ≡ 0
  unfolding table_refusal
  accepted_refusal = simp (header_none, length_none, processor_none, entries_none)
