-- `rule::search` meets its contract. The outer loop's invariant: no rank counted so far waits with a request that passes. The inner loop's: the
-- rank is the holder, or more urgent than every lock of the holder that is passed (LetBy). A lock that stops the rank stops whoever is less urgent, but for the
-- holder, which is tried next; where no lock is left the rank is the first that wakes. The numbers of ranks and of locks left fall.
-- Assumes nothing.
use mathlib.Core.Path.{◌≡◌}
use Prim.Native.Nat.{◌-◌, ◌≤◌}
use Rattle.basics.specs.Loops.{first_nonzero}
use Rattle.one_holder.specs.OneHolder.{holder_key_at}
use Rattle.rule.specs.Granting.{wakes}
use Rattle.state.specs.Lent.{state_in}
use Rattle.rule.proofs.Searching.{LetBy}
use Rattle.rule.proofs.search.Given as goal

abbrev pub invariant-loop-done : goal.invariant-loop-done
invariant-loop-done l =
    (l.rank ≡ l.initial.rank) × LetBy (holder_key_at (state_in l.parts) l.holder) l.locked.objects l.holder l.locked.count l.initial.rank l.done

abbrev pub invariant-search : goal.invariant-search
invariant-search l =
    (l.rank ≤ l.parts.counts.jobs) × (first_nonzero l.rank (wakes (state_in l.parts)) ≡ 0)

abbrev pub decreases-search : goal.decreases-search
decreases-search l = l.parts.counts.jobs - l.rank
