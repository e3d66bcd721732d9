-- `inheritance::named_locks` meets its contract. The loop's invariant: the element of each rank passed is the lock that it names, and the others are 0. A turn
-- stores one more.
-- Assumes nothing.
use mathlib.Core.Path.{◌≡◌}
use Prim.Native.Nat.{◌≤◌, ◌%◌}
use lib.ListN.{length}
use Rattle.basics.specs.Arrays.{at, FilledTo}
use Rattle.state.specs.State.{most_jobs}
use Rattle.one_holder.specs.OneHolder.{key_against}
use Rattle.rule.specs.Granting.{named_key_of}
use Rattle.inheritance.proofs.named_locks.Given as goal

abbrev pub invariant-loop-before : goal.invariant-loop-before
invariant-loop-before l =
    (l.before ≤ l.parts.counts.jobs) × (length l.named ≡ most_jobs)
    × FilledTo l.named l.before (λ j. named_key_of (at l.parts.request.now j) (key_against l.parts.holder l.key j) j % 65536)
