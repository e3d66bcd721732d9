-- `well_formed::locks_wrong` meets its contract. Where no holder of the block's locks comes after the most urgent holder, each object is in order. Else the loop's
-- invariant: the set is empty if and only if the holders on the first k objects of the block are in order; a turn joins those of one more that are not.
-- Assumes nothing.
use Prim.Native.Nat.{ℕ, suc, ◌+◌}
use mathlib.Core.Path.{◌≡◌, sym, ap, ap₂, ◌∙◌}
use mathlib.Core.Bool.{Bool, not}
use native.Mathlib.Omega.{arith}
use lib.Dec.{eqb}
use Rattle.basics.specs.Arrays.{at}
use Rattle.ranks.specs.Ranks.{is_empty, common}
use Rattle.state.specs.Lent.{state_in}
use Rattle.well_formed.specs.Survey.{block_size, only_first, weighs_by}
use Rattle.well_formed.proofs.LoopLaws.{one_more}
use Rattle.well_formed.proofs.OrderLaws.{first_alone_all}
use Rattle.well_formed.proofs.order.locks_wrong.Goals as goal

pub returns-then-is_empty : goal.returns-then-is_empty
returns-then-is_empty g c =
    let a = c.args in
    let none = ap is_empty (sym (c.common.ensures ∙ ap₂ common c.union_of.ensures c.but_first-later.ensures)) ∙ sym c.is_empty.ensures ∙ c.if-is_empty.true in
    let weighs = weighs_by (not (eqb g.row.WRITING 0)) (state_in a.parts.now) in
    sym (first_alone_all block_size a.held (λ k. weighs (a.from + k)) (λ k. at a.locks.now (a.from + k)) none)

pub loop-k-preserved : goal.loop-k-preserved
loop-k-preserved g c =
    let a = c.args in
    let weighs = weighs_by (not (eqb g.row.WRITING 0)) (state_in a.parts.now) in
    let i = c.loop-k.k in
    let here : a.from + i + 1 ≡ a.from + (i + 1) = omega arith in
    let next : suc (a.from + i) ≡ a.from + (i + 1) = omega arith in
    let ordered : ℕ → Bool = λ j. only_first a.held (weighs (a.from + j)) (at a.locks.now (a.from + j)) in
    let object : is_empty c.common-in-loop-k.result ≡ ordered (i + 1) = cc (ap (at a.locks.now) next) in
    cc (one_more i c.loop-k.wrong c.common-in-loop-k.result ordered c.loop-k.invariant object)
