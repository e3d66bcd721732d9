-- The fourteen clauses of a well-formed state, taken apart and put together.
-- Assumes nothing.
use Rattle.std.specs.Prelude.{◌≡◌, true, ◌&&◌, ◌≤◌}
use Rattle.basics.specs.Choice.{between, and_left, and_right, between_true, inside_between}
use Rattle.state.specs.declared.Counts.{Counts}
use Rattle.state.specs.declared.State.{State}
use Rattle.state.specs.State.{most_jobs, most_objects, most_processors}
use Rattle.state.specs.WellFormed.{counts_within, counts_fit, processors_fit, declarations_fit, above_idle, locks_fit, one_lock_each, writers_alone, waits_fit, marks_fit, version_fits, certifies_fit, sleepers_fit, holder_fits, holders_in_order, well_formed}

pub record Clauses (s : State) : Type 0 where
  pub counts : counts_fit s ≡ true
  pub processors : processors_fit s ≡ true
  pub declarations : declarations_fit s ≡ true
  pub above : above_idle s ≡ true
  pub locks : locks_fit s ≡ true
  pub once : one_lock_each s ≡ true
  pub alone : writers_alone s ≡ true
  pub waits : waits_fit s ≡ true
  pub marks : marks_fit s ≡ true
  pub version : version_fits s ≡ true
  pub certifies : certifies_fit s ≡ true
  pub sleepers : sleepers_fit s ≡ true
  pub holder : holder_fits s ≡ true
  pub order : holders_in_order s ≡ true

pub clauses : (s : State) → well_formed s ≡ true → Clauses s
unfolding well_formed
clauses s w =
    let c1 = counts_fit s in
    let c2 = c1 && processors_fit s in
    let c3 = c2 && declarations_fit s in
    let c4 = c3 && above_idle s in
    let c5 = c4 && locks_fit s in
    let c6 = c5 && one_lock_each s in
    let c7 = c6 && writers_alone s in
    let c8 = c7 && waits_fit s in
    let c9 = c8 && marks_fit s in
    let c10 = c9 && version_fits s in
    let c11 = c10 && certifies_fit s in
    let c12 = c11 && sleepers_fit s in
    let c13 = c12 && holder_fits s in
    let w13 = and_left c13 (holders_in_order s) w in
    let w12 = and_left c12 (holder_fits s) w13 in
    let w11 = and_left c11 (sleepers_fit s) w12 in
    let w10 = and_left c10 (certifies_fit s) w11 in
    let w9 = and_left c9 (version_fits s) w10 in
    let w8 = and_left c8 (marks_fit s) w9 in
    let w7 = and_left c7 (waits_fit s) w8 in
    let w6 = and_left c6 (writers_alone s) w7 in
    let w5 = and_left c5 (one_lock_each s) w6 in
    let w4 = and_left c4 (locks_fit s) w5 in
    let w3 = and_left c3 (above_idle s) w4 in
    let w2 = and_left c2 (declarations_fit s) w3 in
    record {
      counts = and_left c1 (processors_fit s) w2;
      processors = and_right c1 (processors_fit s) w2;
      declarations = and_right c2 (declarations_fit s) w3;
      above = and_right c3 (above_idle s) w4;
      locks = and_right c4 (locks_fit s) w5;
      once = and_right c5 (one_lock_each s) w6;
      alone = and_right c6 (writers_alone s) w7;
      waits = and_right c7 (waits_fit s) w8;
      marks = and_right c8 (marks_fit s) w9;
      version = and_right c9 (version_fits s) w10;
      certifies = and_right c10 (certifies_fit s) w11;
      sleepers = and_right c11 (sleepers_fit s) w12;
      holder = and_right c12 (holder_fits s) w13;
      order = and_right c13 (holders_in_order s) w;
    }

pub well_formed_lem : (s : State) → Clauses s → well_formed s ≡ true
unfolding well_formed
well_formed_lem s c = simp (c.counts, c.processors, c.declarations, c.above, c.locks, c.once, c.alone, c.waits, c.marks, c.version, c.certifies, c.sleepers, c.holder, c.order)

-- ---- counts within their limits

pub record Within (c : Counts) : Type 0 where
  pub processors : (1 ≤ c.processors) × (c.processors ≤ most_processors)
  pub jobs : (1 ≤ c.jobs) × (c.jobs ≤ most_jobs)
  pub objects : (1 ≤ c.objects) × (c.objects ≤ most_objects)

pub counts_within_lem : (c : Counts) → counts_within c ≡ true → Within c
counts_within_lem c e =
    let processors = between 1 most_processors c.processors in
    let jobs = between 1 most_jobs c.jobs in
    let objects = between 1 most_objects c.objects in
    let first_two = and_left (processors && jobs) objects e in
    record {
      processors = between_true 1 most_processors c.processors (and_left processors jobs first_two);
      jobs = between_true 1 most_jobs c.jobs (and_right processors jobs first_two);
      objects = between_true 1 most_objects c.objects (and_right (processors && jobs) objects e);
    }

pub within_counts : (c : Counts) → Within c → counts_within c ≡ true
within_counts c w =
    simp (
      inside_between 1 most_processors c.processors w.processors.0 w.processors.1,
      inside_between 1 most_jobs c.jobs w.jobs.0 w.jobs.1,
      inside_between 1 most_objects c.objects w.objects.0 w.objects.1,
    )
