-- `refusals::all_certified` meets its contract. The loop's invariant: the objects of the table up to the index, so many whole eights, are certified if the rank
-- writes them; a turn looks at eight more.
-- Assumes nothing.
use Rattle.std.proofs.Common.{◌≡◌, ℕ, ◌%◌, ◌≤◌, true}
use Rattle.refusals.specs.Parts.{written_well}
use Rattle.refusals.proofs.all_certified.Given as goal

abbrev pub invariant-loop-from : goal.invariant-loop-from
invariant-loop-from l =
    (l.from % 8 ≡ 0)
    × ((o : ℕ) → 1 ≤ o → o ≤ l.from → o ≤ l.parts.counts.objects → written_well l.parts.writers.now l.parts.certified.now l.rank o ≡ true)
