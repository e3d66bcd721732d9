-- The example of 01 ("The bench record"), in one table under one theorem: its twelve answers, and the three questions asked on the way. Then the ceilings
-- of an object there that nobody writes. Then an example of version 2 (02, CR 6), in the same way: twelve answers, and one question. Last one of jobs that
-- sleep (02, CR 8), and that a request of the running job can be answered otherwise by the old rule where a more urgent holder sleeps.
-- Assumes nothing.
use Rattle.std.specs.Prelude.{◌≡◌, refl}
use Rattle.std.specs.Int.Count.{count_trailing_zeros, ones}
use Rattle.basics.specs.Loops.{every, least, first_nonzero}
use Rattle.basics.specs.Arrays.{mapped}
use Rattle.ranks.specs.Ranks.{member, with, without, first, most_urgent, unions}
use Rattle.state.specs.State.{read, all_holders, mark, kept_in, drop_marks, activate, await, grant, release, fall_asleep, awaken, end_run}
use Rattle.state.specs.WellFormed.{processors_fit, declarations_fit, above_idle, locks_fit, one_lock_each}
use Rattle.state.specs.WellFormed.{writers_alone, waits_fit, marks_fit, certifies_fit, sleepers_fit, holder_fits, holders_in_order, well_formed}
use Rattle.table_bytes.specs.Refusals.{header_refusal, length_refusal, processor_byte_refusal, entry_refusal, entries_refusal, table_refusal}
use Rattle.table.specs.Example.{example}
use Rattle.table.specs.Reading.{processors_of, with_right, declared_in, table_state, read_table}
use Rattle.state.specs.Weights.{weight, old_weight}
use Rattle.weights.specs.Keys.{others_key, object_key, lowest_key_by}
use Rattle.rule.specs.Granting.{named_key, reason, wakeable}
use Rattle.inheritance.specs.Running as R
use Rattle.inheritance.specs.Running.{running_rank}
use Rattle.questions.specs.Answers.{Rank, Ceilings}
use Rattle.events.specs.Answers.{paper}
use Rattle.refusals.specs.Refusals.{all_certified, event_refusal, refusal, job_refusal, object_refusal, processor_refusal}
use Rattle.events.specs.Events.{request_meeting, woken, wake, accepted}
use Rattle.manager.specs.Step.{step}
use Rattle.questions.specs.Questions.{ask_inherited_rank, ask_ceilings, ask_running}
use Rattle.promises.specs.Terms.{old_request}
use Rattle.promises.specs.Example.{granted, waits, replay, example_lines, versions_table, versions_lines, sleep_table, sleep_lines, slept}

-- the reader accepts the bytes of the table, `example` in table/specs/Example.antt, and the manager answers the lines as they stand
pub example_answers : ((read_table example).refusal ≡ 0) × (replay (read_table example).state example_lines ≡ example_lines)
unfolding example_lines replay
    every least first_nonzero mapped unions most_urgent all_holders member with without first count_trailing_zeros ones
    mark kept_in drop_marks activate await grant release end_run
    processors_fit declarations_fit above_idle locks_fit one_lock_each writers_alone waits_fit marks_fit certifies_fit sleepers_fit holder_fits holders_in_order well_formed
    header_refusal length_refusal processor_byte_refusal entry_refusal entries_refusal table_refusal
    processors_of with_right declared_in table_state read_table
    weight others_key object_key lowest_key_by named_key reason wakeable R.inherited_rank running_rank
    all_certified event_refusal refusal job_refusal processor_refusal request_meeting woken wake accepted step ask_inherited_rank ask_running
example_answers = (refl, refl)

-- "where four jobs give 5 for an object that nobody writes" (02, CR 4): object 2 of the same table
pub example_ceilings : ask_ceilings (read_table example).state 2 ≡ Ceilings 5 2
unfolding every first_nonzero unions most_urgent all_holders member with first count_trailing_zeros ones
    processors_fit declarations_fit above_idle locks_fit one_lock_each writers_alone waits_fit marks_fit certifies_fit sleepers_fit holder_fits holders_in_order well_formed
    header_refusal length_refusal processor_byte_refusal entry_refusal entries_refusal table_refusal
    processors_of with_right declared_in table_state read_table
    object_refusal ask_ceilings
example_ceilings = refl

-- ---- version 2

pub versions_answers : ((read_table versions_table).refusal ≡ 0) × (replay (read_table versions_table).state versions_lines ≡ versions_lines)
unfolding versions_lines replay
    every least first_nonzero mapped unions most_urgent all_holders member with without first count_trailing_zeros ones
    mark kept_in drop_marks activate await grant release end_run
    processors_fit declarations_fit above_idle locks_fit one_lock_each writers_alone waits_fit marks_fit certifies_fit sleepers_fit holder_fits holders_in_order well_formed
    header_refusal length_refusal processor_byte_refusal entry_refusal entries_refusal table_refusal
    processors_of with_right declared_in table_state read_table
    weight others_key object_key lowest_key_by named_key reason wakeable R.inherited_rank
    all_certified event_refusal refusal job_refusal request_meeting woken wake accepted step ask_inherited_rank
versions_answers = (refl, refl)

-- ---- jobs that sleep

pub sleep_answers : ((read_table sleep_table).refusal ≡ 0) × (replay (read_table sleep_table).state sleep_lines ≡ sleep_lines)
unfolding sleep_lines replay
    every least first_nonzero mapped unions most_urgent all_holders member with without first count_trailing_zeros ones
    mark kept_in drop_marks activate await grant release fall_asleep awaken end_run
    processors_fit declarations_fit above_idle locks_fit one_lock_each writers_alone waits_fit marks_fit certifies_fit sleepers_fit holder_fits holders_in_order well_formed
    header_refusal length_refusal processor_byte_refusal entry_refusal entries_refusal table_refusal
    processors_of with_right declared_in table_state read_table
    weight others_key object_key lowest_key_by named_key reason wakeable R.inherited_rank running_rank
    all_certified event_refusal refusal job_refusal processor_refusal request_meeting woken wake accepted step ask_inherited_rank ask_running
sleep_answers = (refl, refl)

-- After these events of a fresh state of version 1 the only processor runs job 2. Its request for a read lock on object 2 waits for the sleeper's lock there,
-- but by the old rule it is granted: nobody writes the object. So the equality needs its condition (`one_processor`).
pub asleep_differs : (slept.counts.version ≡ 1) × (slept.counts.processors ≡ 1) × (ask_running slept 0 ≡ Rank 2)
    × (paper (step slept 2 2 2).answer ≡ waits 1 2 3) × (paper (old_request slept read 2 2).answer ≡ granted)
unfolding every least first_nonzero mapped unions most_urgent all_holders member with without first count_trailing_zeros ones
    mark kept_in drop_marks activate await grant release fall_asleep awaken end_run
    processors_fit declarations_fit above_idle locks_fit one_lock_each writers_alone waits_fit marks_fit certifies_fit sleepers_fit holder_fits holders_in_order well_formed
    header_refusal length_refusal processor_byte_refusal entry_refusal entries_refusal table_refusal
    processors_of with_right declared_in table_state read_table
    weight old_weight others_key object_key lowest_key_by named_key reason wakeable R.inherited_rank running_rank
    all_certified event_refusal refusal processor_refusal request_meeting woken wake accepted step ask_running
asleep_differs = (refl, refl, refl, refl, refl)
