-- `well_formed::without_right` meets its contract, by those of its calls.
-- Assumes nothing.
use Rattle.ranks.specs.Ranks.{minus}
use Rattle.ranks.specs.UnionLaws.{empty_union, empty_minus}
use Rattle.well_formed.proofs.locks.without_right.Goals as goal

pub returns : goal.returns
returns c =
    let a = c.args in
    cc (empty_union (minus a.readers a.may_read) (minus a.writers a.may_write), empty_minus a.readers a.may_read, empty_minus a.writers a.may_write)
