-- A turn of the loop over parts: a part came behind the bytes held, and was fed.
-- Assumes nothing.
use Rattle.std.proofs.Common.{refl, ℕ, ◌+◌, ◌≤◌, ◌<◌, List, length, take, Some, Ok, arith}
use Rattle.table_bytes.specs.Decided.{longest_table}
use Rattle.decimals.specs.Laid.{laid_length}
use Rattle.stream.specs.declared.Bench.{Bench}
use Rattle.stream.specs.Parts.{feed}
use Rattle.descriptors.specs.Reading.{Came}
use Rattle.recorder.specs.Recording.{Fed, Feeds, AfterParts}
use Rattle.recorder.specs.RecordingLaws.{after_fed, fed_short, fed_count, held_within}

-- what holds behind it, where `received` bytes came before and `count` with it
pub record Turned (f : Fed) (bench : Bench) (held count received : ℕ) (after first lines : List ℕ) : Type 0 where
  pub parts : AfterParts f.bench (take f.held after) (received + count) first lines
  pub short : f.bench.refusal ≤ 1 → f.held < longest_table
  pub counted : f.bench.events + f.held ≤ bench.events + (held + count)
  pub inside : f.held ≤ length after

pub turned : {E : Type 0} {f : Fed} {bench : Bench} {held count received : ℕ} {before input after first lines lines' : List ℕ}
    → AfterParts bench (take held before) received first lines → Came {E = E} (Ok (Some count)) held before input
    → Feeds f (take (held + count) input) (feed bench (take (held + count) input)) input after lines lines'
    → Turned f bench held count received after first lines'
turned {f = f} {bench} {held} {count} {received} {before} {input} {after} {first} {lines} {lines'} parts came fed =
    let within : held + count ≤ length input = omega (arith, came.fits, came.inside, came.size) in
    let few = held_within bench (held + count) input after lines lines' f within fed in
    record {
      parts = after_fed bench (held + count) input after lines lines' f within fed held count received before first parts came.kept refl;
      short = fed_short bench (held + count) input after lines lines' f within fed;
      counted = fed_count bench (held + count) input after lines lines' f within fed;
      inside = omega (arith, few, laid_length fed.held);
    }
