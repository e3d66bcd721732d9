-- The record of 01's example ("Output whole"), byte for byte, by computing.
-- Assumes nothing.
use Rattle.std.specs.Prelude.{ℕ, ◌≡◌, refl, List, [], ◌∷◌, ◌++◌}
use Rattle.std.specs.Int.Count.{count_trailing_zeros, ones}
use Rattle.basics.specs.Loops.{every, least, first_nonzero}
use Rattle.basics.specs.Arrays.{mapped}
use Rattle.ranks.specs.Ranks.{member, with, without, first, most_urgent, unions}
use Rattle.state.specs.State.{all_holders, activate, await, grant, release, kept_in, drop_marks, end_run}
use Rattle.state.specs.WellFormed.{processors_fit, declarations_fit, above_idle, locks_fit, one_lock_each}
use Rattle.state.specs.WellFormed.{writers_alone, waits_fit, marks_fit, certifies_fit, sleepers_fit, holder_fits, holders_in_order, well_formed}
use Rattle.table_bytes.specs.Refusals.{header_refusal, length_refusal, processor_byte_refusal, entry_refusal, entries_refusal, table_refusal}
use Rattle.table.specs.Example.{example}
use Rattle.table.specs.Reading.{processors_of, with_right, declared_in, table_state, read_table}
use Rattle.state.specs.Weights.{weight}
use Rattle.weights.specs.Keys.{others_key, object_key, lowest_key_by}
use Rattle.rule.specs.Granting.{named_key, reason, wakeable}
use Rattle.refusals.specs.Refusals.{all_certified, event_refusal, refusal}
use Rattle.events.specs.Events.{request_meeting, woken, wake, accepted}
use Rattle.manager.specs.Step.{step}
use Rattle.decimals.specs.Decimal.{decimal_within, decimal}
use Rattle.lines.specs.Lines.{header_line, event_line, end_line, short_line, refused_line}
use Rattle.record.specs.Record.{event_lines, record_of}

-- the twelve events, three bytes each
abbrev pub example_events : List ℕ
example_events =
    1 ∷ 4 ∷ 0
    ∷ 2 ∷ 4 ∷ 1
    ∷ 1 ∷ 2 ∷ 0
    ∷ 2 ∷ 2 ∷ 2
    ∷ 4 ∷ 4 ∷ 1
    ∷ 1 ∷ 3 ∷ 0
    ∷ 2 ∷ 3 ∷ 1
    ∷ 2 ∷ 2 ∷ 3
    ∷ 5 ∷ 2 ∷ 0
    ∷ 1 ∷ 1 ∷ 0
    ∷ 3 ∷ 1 ∷ 1
    ∷ 5 ∷ 3 ∷ 0
    ∷ []

-- the fourteen lines
abbrev pub example_record : List ℕ
example_record =
    74 ∷ 79 ∷ 66 ∷ 32 ∷ 49 ∷ 32 ∷ 52 ∷ 32 ∷ 50 ∷ 32 ∷ 51 ∷ 10
    ∷ 49 ∷ 32 ∷ 83 ∷ 32 ∷ 52 ∷ 32 ∷ 48 ∷ 32 ∷ 68 ∷ 32 ∷ 48 ∷ 10
    ∷ 50 ∷ 32 ∷ 82 ∷ 32 ∷ 52 ∷ 32 ∷ 49 ∷ 32 ∷ 71 ∷ 10
    ∷ 51 ∷ 32 ∷ 83 ∷ 32 ∷ 50 ∷ 32 ∷ 48 ∷ 32 ∷ 68 ∷ 32 ∷ 48 ∷ 10
    ∷ 52 ∷ 32 ∷ 82 ∷ 32 ∷ 50 ∷ 32 ∷ 50 ∷ 32 ∷ 87 ∷ 32 ∷ 52 ∷ 32 ∷ 49 ∷ 32 ∷ 50 ∷ 10
    ∷ 53 ∷ 32 ∷ 85 ∷ 32 ∷ 52 ∷ 32 ∷ 49 ∷ 32 ∷ 68 ∷ 32 ∷ 50 ∷ 10
    ∷ 54 ∷ 32 ∷ 83 ∷ 32 ∷ 51 ∷ 32 ∷ 48 ∷ 32 ∷ 68 ∷ 32 ∷ 48 ∷ 10
    ∷ 55 ∷ 32 ∷ 82 ∷ 32 ∷ 51 ∷ 32 ∷ 49 ∷ 32 ∷ 87 ∷ 32 ∷ 50 ∷ 32 ∷ 50 ∷ 32 ∷ 51 ∷ 10
    ∷ 56 ∷ 32 ∷ 82 ∷ 32 ∷ 50 ∷ 32 ∷ 51 ∷ 32 ∷ 71 ∷ 10
    ∷ 57 ∷ 32 ∷ 70 ∷ 32 ∷ 50 ∷ 32 ∷ 48 ∷ 32 ∷ 68 ∷ 32 ∷ 51 ∷ 10
    ∷ 49 ∷ 48 ∷ 32 ∷ 83 ∷ 32 ∷ 49 ∷ 32 ∷ 48 ∷ 32 ∷ 68 ∷ 32 ∷ 48 ∷ 10
    ∷ 49 ∷ 49 ∷ 32 ∷ 87 ∷ 32 ∷ 49 ∷ 32 ∷ 49 ∷ 32 ∷ 87 ∷ 32 ∷ 51 ∷ 32 ∷ 49 ∷ 32 ∷ 49 ∷ 10
    ∷ 49 ∷ 50 ∷ 32 ∷ 70 ∷ 32 ∷ 51 ∷ 32 ∷ 48 ∷ 32 ∷ 68 ∷ 32 ∷ 49 ∷ 10
    ∷ 101 ∷ 110 ∷ 100 ∷ 32 ∷ 49 ∷ 50 ∷ 10
    ∷ []

pub example_record_lem : record_of (example ++ example_events) ≡ example_record
unfolding record_of event_lines decimal_within decimal header_line event_line end_line short_line refused_line
    every least first_nonzero mapped unions most_urgent all_holders member with without first count_trailing_zeros ones
    activate await grant release end_run
    processors_fit declarations_fit above_idle locks_fit one_lock_each writers_alone waits_fit marks_fit certifies_fit sleepers_fit holder_fits holders_in_order well_formed kept_in drop_marks all_certified
    header_refusal length_refusal processor_byte_refusal entry_refusal entries_refusal table_refusal
    processors_of with_right declared_in table_state read_table
    weight others_key object_key lowest_key_by named_key reason wakeable
    event_refusal refusal request_meeting woken wake accepted step
example_record_lem = refl
