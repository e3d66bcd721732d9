-- `table::accepted::Accepted::first_entry_from` meets its contract. The loop's invariant: the entries from `start` up to `k` are of smaller ranks.
-- A turn adds the entry that its test passed.
-- Assumes nothing.
use Prim.Native.Nat.{ℕ, ◌≤◌, ◌<◌}
use Rattle.table_bytes.specs.Bytes.{entry_rank}
use Rattle.table.proofs.accepted.Accepted.first_entry_from.Given as goal

abbrev pub invariant-loop-k : goal.invariant-loop-k
invariant-loop-k l = (l.k ≤ l.count) × ((k : ℕ) → k < l.k → l.start ≤ k → entry_rank l.self.bytes.now k < l.rank)
