-- `well_formed::survey_by` meets its contract. The loop's invariant: what is held, and whether something is wrong, is that of the first objects,
-- in whole blocks; a turn adds a block, which is in order where it has no lock.
-- Assumes nothing.
use Prim.Native.Nat.{◌+◌, ◌*◌}
use mathlib.Core.Bool.{not}
use mathlib.Core.Path.{◌≡◌, sym, ap₂, ◌∙◌}
use native.Mathlib.Nat.{zero-add}
use native.Mathlib.Omega.{arith}
use lib.Bits.{or_zero_r}
use lib.Dec.{eqb}
use borrow.Author.Tests.{eqb-true}
use Rattle.basics.specs.Arrays.{at}
use Rattle.ranks.specs.Ranks.{union, unions}
use Rattle.ranks.specs.UnionLaws.{unions_both}
use Rattle.state.specs.Lent.{state_in}
use Rattle.well_formed.specs.Survey.{block_size, blocks, object_in_order}
use Rattle.well_formed.proofs.LoopLaws.{block_more}
use Rattle.well_formed.proofs.SurveyLaws.{held_more, unlocked_more}
use Rattle.well_formed.proofs.locks.survey_by.Goals as goal
use Rattle.well_formed.proofs.locks.survey_by.Goals.{then-not-is_empty, else-not-is_empty}

pub loop-block-preserved : goal.loop-block-preserved
loop-block-preserved g c =
    let s = state_in c.args.parts.now in
    let none = not (eqb g.row.ALONE 0) in
    let i = c.loop-block.block * block_size in
    let m = (c.loop-block.block + 1) * block_size in
    let end : i + block_size ≡ m = omega arith in
    let held = held_more s none i m end in
    elim c.if-not-is_empty.branch [
      | then-not-is_empty w ↦ (
        cc,
        cc (block_more i block_size m c.loop-block.wrong w.block_wrong.result (object_in_order s none) end c.loop-block.invariant.1 w.block_wrong.ensures),
      )
      | else-not-is_empty w ↦ (let free = eqb-true c.union-locks.result 0 (sym c.is_empty.ensures ∙ w.if-not-is_empty.false) in (
        cc (or_zero_r c.loop-block.held),
        cc (unlocked_more s none i m end c.loop-block.wrong c.loop-block.invariant.1 (cc)),
      ))
    ]

pub returns : goal.returns
returns g c =
    let s = state_in c.args.parts.now in
    let none = not (eqb g.row.ALONE 0) in
    let objects = s.counts.objects in
    let e : c.loop-block.block ≡ blocks objects = omega arith in
    record {
      declared = c.union-declared.ensures ∙ ap₂ union c.union_of.ensures c.union_of-2.ensures ∙ unions_both objects (λ k. at s.may_read (0 + k)) (λ k. at s.may_write (0 + k))
          ∙ (λ p. unions objects (λ k. union (at s.may_read (zero-add k p)) (at s.may_write (zero-add k p))));
      held = cc;
      wrong = cc;
    }
