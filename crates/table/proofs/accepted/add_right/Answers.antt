-- `table::accepted::add_right` meets its contract: the object's set stands one place before its number.
-- Assumes nothing.
use mathlib.Core.Path.{◌≡◌, sym, ap, ◌∙◌}
use Prim.Native.Nat.{ℕ, ◌-◌}
use lib.ListN.{get_or, set}
use Rattle.basics.specs.Arrays.{at, at_index, put_index}
use Rattle.ranks.specs.Ranks.{with}
use Rattle.table.specs.Reading.{with_right}
use Rattle.table.proofs.accepted.add_right.Goals as goal

pub returns-then-gives_right : goal.returns-then-gives_right
unfolding with_right
returns-then-gives_right c =
    let xs = c.args.sets.now in
    let o = c.args.entry.object in
    let r = c.args.entry.rank in
    let place = c.from-place.ensures in
    let new : c.with.result ≡ with (at xs o) r =
    c.with.ensures ∙ ap (λ (w : ℕ). with (get_or xs (w - 1) 0) r) place ∙ ap (λ (v : ℕ). with v r) (sym (at_index xs o c.requires.1.0)) in
    simp (sym c.gives_right.ensures ∙ c.if-gives_right.true)
    ((λ i. set xs (place i - 1) (new i)) ∙ sym (put_index xs o (with (at xs o) r) c.requires.1.0))

pub returns-else-gives_right : goal.returns-else-gives_right
unfolding with_right
returns-else-gives_right c = simp (sym c.gives_right.ensures ∙ c.if-gives_right.false)
