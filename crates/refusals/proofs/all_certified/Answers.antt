-- `refusals::all_certified` meets its contract. The loop's invariant: the objects of the table up to the index, so many whole eights, are certified if the rank
-- writes them; a turn looks at eight more.
-- Assumes nothing.
use Rattle.std.proofs.Common.{◌≡◌, true, ℕ, ◌+◌, ◌≤◌, sym, ◌∙◌, arith}
use Rattle.basics.specs.Loops.{every_true}
use Rattle.refusals.specs.Parts.{written_well, one_uncertified, eight_more}
use Rattle.refusals.proofs.all_certified.Goals as goal
use Rattle.refusals.proofs.all_certified.Goals.{Else-not-eight_certified}

-- the objects of the table up to the end of a turn's eight
turned : (c : Else-not-eight_certified) → let a = c.args.parts.now in
    (o : ℕ) → 1 ≤ o → o ≤ c.loop-from.from + 8 → o ≤ a.counts.objects → written_well a.writers.now a.certified.now c.args.rank o ≡ true
turned c =
    let a = c.args.parts.now in
    eight_more a.writers.now a.certified.now c.args.rank c.loop-from.from a.counts.objects c.loop-from.invariant.1
    (sym c.eight_certified.ensures ∙ c.if-not-eight_certified.false)

pub returns-then-not-eight_certified : goal.returns-then-not-eight_certified
returns-then-not-eight_certified c =
    let a = c.args.parts.now in
    let found = sym c.eight_certified.ensures ∙ c.if-not-eight_certified.true in
    sym (one_uncertified a.writers.now a.certified.now c.args.rank c.loop-from.from _ a.counts.objects (omega arith) found)

pub loop-from-preserved : goal.loop-from-preserved
loop-from-preserved c = (omega (arith, c.loop-from.invariant.0), turned c.before)

-- the table ends within a turn's eight
pub returns-else-not-eight_certified : goal.returns-else-not-eight_certified
returns-else-not-eight_certified c =
    let a = c.args.parts.now in
    sym (every_true a.counts.objects (written_well a.writers.now a.certified.now c.args.rank) (λ o p q. turned c.before o p (omega arith) q))

pub returns : goal.returns
returns c =
    let a = c.args.parts.now in
    sym (every_true a.counts.objects (written_well a.writers.now a.certified.now c.args.rank)
    (λ o p q. c.loop-from.invariant.1 o p (omega (arith, c.loop-from-test.false)) q))
