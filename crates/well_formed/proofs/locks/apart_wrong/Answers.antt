-- `well_formed::apart_wrong` meets its contract for both rules, by those of its calls, `alone_apart` and `shared_apart`.
-- Assumes nothing.
use native.Mathlib.Omega.{arith}
use borrow.Author.Tests.{eq-eqb, ne_eqb}
use Rattle.well_formed.proofs.SurveyLaws.{alone_apart, shared_apart}
use Rattle.well_formed.proofs.locks.apart_wrong.Goals as goal

pub returns-then-this-ne0 : goal.returns-then-this-ne0
returns-then-this-ne0 g c =
    let apart = alone_apart c.args.readers c.args.writers (omega arith) in
    rw (ne_eqb g.row.ALONE 0 c.if-this-ne0.true) (cc)

pub returns-else-this-ne0 : goal.returns-else-this-ne0
returns-else-this-ne0 g c =
    let apart = shared_apart c.args.readers c.args.writers in
    rw (eq-eqb g.row.ALONE 0 c.if-this-ne0.false) (cc)
