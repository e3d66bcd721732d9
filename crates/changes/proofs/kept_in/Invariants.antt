-- `changes::kept_in` meets its contract. The loop's invariant: what is left is a part of the word, and of the objects that are not left those are kept that the rank
-- does not write. A turn takes the first of the rest, so that the first of what is left comes later: the loop ends.
-- Assumes nothing.
use Prim.Native.Nat.{◌-◌}
use Rattle.ranks.specs.Ranks.{first}
use Rattle.changes.proofs.Dropping.{Kept}
use Rattle.changes.proofs.kept_in.Given as goal

abbrev pub invariant-loop-place : goal.invariant-loop-place
invariant-loop-place l = Kept l.rank l.writers l.from l.word l.rest l.kept

abbrev pub decreases-loop-place : goal.decreases-loop-place
decreases-loop-place l = 65 - first 64 l.rest
