-- `table::accepted::Accepted::rights` meets its contract. The loop's invariant: the two arrays are what the first `k` entries declare.
-- A turn adds the rights of one entry more, which is within range since the bytes are accepted.
-- Assumes nothing.
use mathlib.Core.Path.{◌≡◌}
use Prim.Native.Nat.{◌≤◌}
use Rattle.state.specs.State.{read, write}
use Rattle.table_bytes.specs.Bytes.{entry_count}
use Rattle.table.specs.Reading.{declared_in}
use Rattle.table.proofs.accepted.Accepted.rights.Given as goal

abbrev pub invariant-loop-k : goal.invariant-loop-k
invariant-loop-k l =
    (l.k ≤ entry_count l.self.bytes.now) × (l.may_read ≡ declared_in read l.self.bytes.now l.k) × (l.may_write ≡ declared_in write l.self.bytes.now l.k)
