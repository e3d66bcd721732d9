-- `changes::release_sets` meets its contract. The loop's invariant: the sets up to the index are without the rank, the others as they were, and `left` has the ranks
-- of those up to the index.
-- Assumes nothing.
use Rattle.std.proofs.Common.{◌≡◌, ◌≤◌}
use Rattle.basics.specs.Arrays.{at, mapped}
use Rattle.ranks.specs.Ranks.{without, unions}
use Rattle.state.specs.State.{most_objects}
use Rattle.changes.proofs.release_sets.Given as goal

abbrev pub invariant-loop-set : goal.invariant-loop-set
invariant-loop-set l =
    (l.set-index ≤ most_objects) × (l.sets ≡ mapped (λ v. without v l.rank) l.set-index l.initial.sets)
    × (l.left ≡ unions l.set-index (λ o. without (at l.initial.sets o) l.rank))
