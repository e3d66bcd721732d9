-- `table_bytes::table_refusals::entries_refusal` meets its contract. The loop's invariant: none of the first `k` entries is faulty, and `before`
-- is the order of the last of them. A turn adds the entry that it looked at; where that is faulty, it is the first.
-- Assumes nothing.
use mathlib.Core.Path.{◌≡◌}
use Prim.Native.Nat.{◌≤◌}
use Rattle.table_bytes.specs.Bytes.{entry_count, order_before}
use Rattle.table_bytes.specs.Refusals.{entry_refusal_of}
use Rattle.basics.specs.Loops.{first_nonzero}
use Rattle.table_bytes.proofs.table_refusals.entries_refusal.Given as goal

abbrev pub invariant-loop-k : goal.invariant-loop-k
invariant-loop-k l = (l.k ≤ entry_count l.bytes) × (l.before ≡ order_before l.bytes l.k) × (first_nonzero l.k (entry_refusal_of l.bytes) ≡ 0)
