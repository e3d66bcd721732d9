-- `well_formed::word_fits` meets its contract. The loop's invariant: what is left is a part of the word, and each object of the word that is not left is written and not
-- read. A turn takes the first of the rest, so that the first of what is left comes later: the loop ends.
-- Assumes nothing.
use Prim.Native.Nat.{◌-◌}
use Rattle.ranks.specs.Ranks.{first}
use Rattle.state.specs.Lent.{state_in}
use Rattle.well_formed.proofs.MarkLaws.{Seen}
use Rattle.well_formed.proofs.marks.word_fits.Given as goal

abbrev pub invariant-loop-place : goal.invariant-loop-place
invariant-loop-place l = Seen (state_in l.parts) l.word l.from l.rest

abbrev pub decreases-loop-place : goal.decreases-loop-place
decreases-loop-place l = 65 - first 64 l.rest
