-- `changes::holder_of` meets its contract: all readers and all writers joined are the holders of each object joined.
-- Assumes nothing.
use mathlib.Core.Path.{ap, ap₂, ◌∙◌}
use Prim.Native.Nat.{◌+◌}
use native.Mathlib.Nat.{zero-add}
use Rattle.basics.specs.Arrays.{at}
use Rattle.ranks.specs.Ranks.{union, unions, most_urgent}
use Rattle.ranks.specs.UnionLaws.{unions_both}
use Rattle.state.specs.State.{most_objects, all_holders}
use Rattle.changes.proofs.holder_of.Goals as goal

pub returns : goal.returns
unfolding all_holders
returns c =
    let rd = c.args.readers.now in
    let wr = c.args.writers.now in
    c.most_urgent.ensures
    ∙ ap most_urgent (c.union.ensures ∙ ap₂ union c.union_of.ensures c.union_of-2.ensures ∙ unions_both most_objects (λ k. at rd (0 + k)) (λ k. at wr (0 + k))
    ∙ (λ p. unions most_objects (λ k. union (at rd (zero-add k p)) (at wr (zero-add k p)))))
