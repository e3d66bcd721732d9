-- `well_formed::word_fits` meets its contract. The loop's invariant: what is left is a part of the word, and each object of the word that is not left is written and not
-- read. A turn takes the first of the rest, so that the first of what is left comes later: the loop ends.
-- Assumes nothing.
use mathlib.Core.Path.{◌≡◌, sym, subst, ap, ◌∙◌}
use native.Mathlib.Omega.{arith}
use borrow.Author.Tests.{eqb-true}
use Rattle.ranks.specs.Ranks.{without, first}
use Rattle.ranks.specs.RankLaws.{first-le, first_there, first-without}
use Rattle.state.specs.Lent.{state_in}
use Rattle.well_formed.proofs.MarkLaws.{Seen, first_left, one_seen, not_well, all_seen}
use Rattle.well_formed.proofs.marks.word_fits.Goals as goal

pub certifiable-requires : goal.certifiable-requires
certifiable-requires c =
    let f = first_left (state_in c.args.parts.now) c.args.word c.args.from c.loop-place.rest c.first-place.result c.loop-place.invariant
    (sym c.is_empty.ensures ∙ c.loop-place-test.true) c.first-place.ensures in
    (omega (arith, f.0), omega (arith, f.1, c.requires))

pub returns-then-not-certifiable : goal.returns-then-not-certifiable
returns-then-not-certifiable c =
    let a = c.args in
    let s = state_in a.parts.now in
    let f = first_left s a.word a.from c.loop-place.rest c.first-place.result c.loop-place.invariant (sym c.is_empty.ensures ∙ c.loop-place-test.true) c.first-place.ensures in
    not_well s a.word a.from c.loop-place.rest c.first-place.result c.loop-place.invariant f.0 f.1 f.2 (sym c.certifiable.ensures ∙ c.if-not-certifiable.true)

pub without-rest-requires : goal.without-rest-requires
without-rest-requires c =
    let a = c.args in
    let s = state_in a.parts.now in
    let f = first_left s a.word a.from c.loop-place.rest c.first-place.result c.loop-place.invariant (sym c.is_empty.ensures ∙ c.loop-place-test.true) c.first-place.ensures in
    (f.0, f.1)

pub loop-place-smaller : goal.loop-place-smaller
loop-place-smaller c =
    let rest = c.loop-place.rest in
    let f = first_there 64 rest (sym c.is_empty.ensures ∙ c.loop-place-test.true) c.loop-place.invariant.small in
    let after : c.without-rest.result ≡ without rest (first 64 rest) = c.without-rest.ensures ∙ ap (without rest) c.first-place.ensures in
    omega (arith, f.1, first-without 64 rest f.1, ap (first 64) after, first-le 64 (without rest (first 64 rest)))

pub loop-place-preserved : goal.loop-place-preserved
loop-place-preserved c =
    let a = c.args in
    let s = state_in a.parts.now in
    subst (Seen s a.word a.from) (sym c.without-rest.ensures)
    (one_seen s a.word a.from c.loop-place.rest c.first-place.result c.loop-place.invariant (sym c.certifiable.ensures ∙ c.if-not-certifiable.false))

pub returns : goal.returns
returns c =
    all_seen (state_in c.args.parts.now) c.args.word c.args.from c.loop-place.rest c.loop-place.invariant
    (eqb-true c.loop-place.rest 0 (sym c.is_empty.ensures ∙ c.loop-place-test.false))
