-- `table_bytes::table_refusals::processor_byte_refusal` meets its contract. The loop's invariant: none of the first `i` processor bytes is too large.
-- A turn adds the byte that its test passed; where the test fails, that byte is the first.
-- Assumes nothing.
use mathlib.Core.Path.{◌≡◌}
use Prim.Native.Nat.{◌≤◌}
use Rattle.table_bytes.specs.Bytes.{jobs_in}
use Rattle.table_bytes.specs.Refusals.{processor_byte_refusal_of}
use Rattle.basics.specs.Loops.{first_nonzero}
use Rattle.table_bytes.proofs.table_refusals.processor_byte_refusal.Given as goal

abbrev pub invariant-loop-i : goal.invariant-loop-i
invariant-loop-i l = (l.i ≤ jobs_in l.bytes) × (first_nonzero l.i (processor_byte_refusal_of l.bytes) ≡ 0)
