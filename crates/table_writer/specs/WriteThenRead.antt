-- The bytes of a well-formed state's table, with any bytes behind them, are accepted and read as the fresh state of the same table.
-- Assumes nothing.
use Rattle.std.specs.Prelude.{◌≡◌, refl, ℕ, suc, ◌+◌, ◌-◌, ◌*◌, ◌/◌, ◌%◌, ◌^◌, ◌≤◌, ◌<◌, get_or, drop}
use Rattle.std.proofs.Common.{sym, ap₂, subst₂, ◌∙◌, add-zero, le_refl, arith, get_or-append-add, get_or-drop, get_or-take, length-take-le}
use Rattle.std.proofs.Math.Path.{ap}
use mathlib.Core.List.{List, ◌++◌, append_assoc}
use Rattle.std.proofs.Math.Nat.{zero-add, le_trans}
use Rattle.std.proofs.Math.ListN.{length, take, length-append, get_or-append}
use Rattle.std.proofs.Math.Seq.{drop_at, take_at}
use Rattle.std.proofs.lemmas.Nat.{ones-le}
use Rattle.basics.specs.Loops.{sum-at_most}
use Rattle.basics.specs.Arrays.{at}
use Rattle.ranks.specs.UnionLaws.{le-union}
use Rattle.state.specs.declared.Counts.{Counts}
use Rattle.state.specs.declared.State.{State}
use Rattle.state.specs.State.{most_jobs, read, write, most_objects, counts_of, zeros, fresh_state, declared_any}
use Rattle.table_bytes.specs.Refusals.{most_entries}
use Rattle.table_bytes.specs.Bytes.{byte, version_in, jobs_in, objects_in, counts_in, entry_count, entries_start, table_length}
use Rattle.table_bytes.specs.AcceptedTable.{AcceptedTable}
use Rattle.table.specs.Declarations.{declared_fits}
use Rattle.table.specs.Reading.{processors_of, declared_in, table_state}
use Rattle.table_writer.specs.Writing.{header_bytes, word_bytes, entries_bytes, table_bytes}
use Rattle.table_writer.specs.Laying.{declared_modes, entries_of_ranks, entries_on, entry_total}
use Rattle.table_writer.specs.EntryLaws.{state_entries}
use Rattle.table_writer.specs.TableFits.{TableFits}
use Rattle.table_writer.specs.TableLaws.{entry_third, front_length, entries_total, whole_length}
use Rattle.table_writer.specs.WrittenEntries.{entries_fit, reads_again, writes_again}

module _ (s : State) (fits : TableFits s) (rest : List ℕ)
    (processors_long : length s.processor_of ≡ most_jobs) (reads_long : length s.may_read ≡ most_objects) (writes_long : length s.may_write ≡ most_objects) where
  abbrev b : List ℕ
  b = table_bytes s ++ rest

  abbrev header : List ℕ
  header = header_bytes s

  abbrev homes : List ℕ
  homes = take s.counts.jobs s.processor_of

  -- ---- the entry count

  n : ℕ
  n = entry_total s.may_read s.may_write s.counts.objects

  n_third : 3 * n ≡ length (entries_bytes s)
  unfolding n
  n_third = entries_total s fits

  n_most : n ≤ most_entries
  unfolding n entry_total
  n_most =
      let each = sum-at_most s.counts.objects most_jobs (entries_on s.may_read s.may_write) small in
      omega (arith, each, fits.objects_high)
    where
      small : (o : ℕ) → 1 ≤ o → o ≤ s.counts.objects → entries_on s.may_read s.may_write o ≤ most_jobs
      small o a h =
          le_trans (ones-le s.counts.jobs (declared_any s o) (fits.declared_small o a (omega (arith, fits.objects_high)))) fits.jobs_high

  -- ---- the parts

  room : s.counts.jobs ≤ length s.processor_of
  room = omega (arith, fits.jobs_high)

  homes_length : length homes ≡ s.counts.jobs
  homes_length = length-take-le s.counts.jobs s.processor_of room

  behind : List ℕ
  behind = word_bytes n ++ (entries_bytes s ++ rest)

  whole : b ≡ header ++ (homes ++ behind)
  unfolding table_bytes behind
  whole =
      ap (λ (k : ℕ). (header ++ homes ++ word_bytes k ++ entries_bytes s) ++ rest) (entry_third s n room n_third) ∙ simp append_assoc

  front : length (header ++ homes) ≡ 8 + s.counts.jobs
  front = front_length s n room n_third

  long : length b ≡ 10 + s.counts.jobs + 3 * n + length rest
  unfolding n
  long = length-append (table_bytes s) rest ∙ ap (λ (k : ℕ). k + length rest) (whole_length s fits processors_long)

  -- ---- the header, the processor bytes and the count are read as they were written

  version_is : version_in b ≡ s.counts.version
  unfolding table_bytes
  version_is = zero-add s.counts.version

  counts_are : counts_in b ≡ s.counts
  unfolding table_bytes
  counts_are = λ i. counts_of (version_is i) s.counts.processors s.counts.jobs s.counts.objects

  jobs_are : jobs_in b ≡ s.counts.jobs
  jobs_are = ap (λ (c : Counts). c.jobs) counts_are

  objects_are : objects_in b ≡ s.counts.objects
  objects_are = ap (λ (c : Counts). c.objects) counts_are

  after_header : drop 8 b ≡ homes ++ behind
  after_header = ap (drop 8) whole

  home_is : (k : ℕ) → k < s.counts.jobs → byte b (8 + k) ≡ get_or s.processor_of k 0
  home_is k l =
      sym (get_or-drop 8 b k 0) ∙ ap (λ (x : List ℕ). get_or x k 0) after_header
      ∙ get_or-append homes behind 0 k (omega (arith, homes_length)) ∙ get_or-take s.counts.jobs s.processor_of k 0 l

  after_front : (i : ℕ) → byte b (8 + s.counts.jobs + i) ≡ get_or behind i 0
  after_front i =
      ap₂ (λ (l : List ℕ) (k : ℕ). get_or l (k + i) 0) (whole ∙ sym (append_assoc header homes behind)) (sym front)
      ∙ get_or-append-add (header ++ homes) behind i 0

  high : byte b (8 + s.counts.jobs) ≡ n / 256 % 256
  unfolding behind
  high = ap (byte b) (sym (add-zero (8 + s.counts.jobs))) ∙ after_front 0

  low : byte b (8 + s.counts.jobs + 1) ≡ n % 256
  unfolding behind
  low = after_front 1

  count_is : entry_count b ≡ n
  unfolding table_bytes
  count_is = omega (arith, high, low, n_most)

  tail : drop (entries_start b) b ≡ entries_of_ranks (declared_modes s.may_read s.may_write) s.counts.objects s.counts.jobs ++ rest
  unfolding behind
  tail =
      let parts : b ≡ (header ++ homes ++ word_bytes n) ++ (entries_bytes s ++ rest) = whole ∙ simp append_assoc in
      ap (drop (entries_start b)) parts
      ∙ drop_at (header ++ homes ++ word_bytes n) (entries_bytes s ++ rest) (entries_start b)
      (length-append (header ++ homes) (word_bytes n) ∙ ap (λ (k : ℕ). k + 2) front ∙ omega (arith, jobs_are))
      ∙ ap (λ (l : List ℕ). l ++ rest) (state_entries s)

  -- ---- the entries

  is_third : 3 * n ≡ length (entries_of_ranks (declared_modes s.may_read s.may_write) s.counts.objects s.counts.jobs)
  is_third = n_third ∙ ap length (state_entries s)

  reads_out : (o : ℕ) → s.counts.objects < o → o ≤ most_objects → at s.may_read o ≡ 0
  reads_out o a h = omega (arith, fits.declared_none o a h, (le-union (at s.may_read o) (at s.may_write o)).0)

  writes_out : (o : ℕ) → s.counts.objects < o → o ≤ most_objects → at s.may_write o ≡ 0
  writes_out o a h = omega (arith, fits.declared_none o a h, (le-union (at s.may_read o) (at s.may_write o)).1)

  reads_small : (o : ℕ) → 1 ≤ o → o ≤ most_objects → at s.may_read o < 2 ^ s.counts.jobs
  reads_small o a h = omega (arith, fits.declared_small o a h, (le-union (at s.may_read o) (at s.may_write o)).0)

  writes_small : (o : ℕ) → 1 ≤ o → o ≤ most_objects → at s.may_write o < 2 ^ s.counts.jobs
  writes_small o a h = omega (arith, fits.declared_small o a h, (le-union (at s.may_read o) (at s.may_write o)).1)

  pub table_accepted : AcceptedTable b
  unfolding table_bytes
  table_accepted =
      let j = jobs_are in
      let c = count_is in
      record {
        long = omega (arith, long);
        mark_first = refl;
        mark_second = refl;
        mark_third = refl;
        version = (omega (arith, version_is, fits.version), omega (arith, version_is, fits.version));
        processors_low = fits.processors_low;
        processors_high = fits.processors_high;
        jobs_low = fits.jobs_low;
        jobs_high = fits.jobs_high;
        objects_low = fits.objects_low;
        objects_high = fits.objects_high;
        start_within = omega (arith, long);
        count_high = omega (arith, n_most);
        table_within = omega (arith, long);
        processor = λ k l. omega (arith, home_is k l, fits.processor (suc k) (omega arith) l);
        entry = λ k l. entries_fit s.may_read s.may_write s.counts.objects s.counts.jobs b rest fits.objects_high jobs_are objects_are tail reads_out writes_out n is_third
            k (omega (arith, c));
      }

  -- ---- the declared sets

  read_small : (m o : ℕ) → at (declared_in m b n) o < 2 ^ s.counts.jobs
  read_small m o =
      subst₂ (λ (k j : ℕ). at (declared_in m b k) o < 2 ^ j) count_is jobs_are ((declared_fits b table_accepted m (entry_count b) (le_refl (entry_count b))).of_jobs_lem o)

  reads_back : declared_in read b (entry_count b) ≡ s.may_read
  reads_back =
      ap (declared_in read b) count_is
      ∙ reads_again s.may_read s.may_write s.counts.objects s.counts.jobs b rest fits.objects_high jobs_are objects_are tail reads_out writes_out n is_third
      reads_long reads_small (read_small read)

  writes_back : declared_in write b (entry_count b) ≡ s.may_write
  writes_back =
      ap (declared_in write b) count_is
      ∙ writes_again s.may_read s.may_write s.counts.objects s.counts.jobs b rest fits.objects_high jobs_are objects_are tail reads_out writes_out n is_third
      writes_long writes_small (read_small write)

  -- ---- the whole

  processors_back : processors_of b ≡ homes ++ zeros (most_jobs - s.counts.jobs)
  unfolding processors_of
  processors_back =
      ap (λ (k : ℕ). take k (drop 8 b) ++ zeros (most_jobs - k)) jobs_are
      ∙ ap (λ (l : List ℕ). l ++ zeros (most_jobs - s.counts.jobs)) (ap (take s.counts.jobs) after_header ∙ take_at homes behind s.counts.jobs homes_length)

  pub used_is : table_length b ≡ length (table_bytes s)
  unfolding n
  used_is = omega (arith, jobs_are, count_is, whole_length s fits processors_long)

  pub state_back : table_state b ≡ fresh_state s.counts (homes ++ zeros (most_jobs - s.counts.jobs)) s.may_read s.may_write
  unfolding table_state
  state_back = λ i. fresh_state (counts_are i) (processors_back i) (reads_back i) (writes_back i)
