-- `one_holder::own_key_at` meets its contract: the object's sets stand before its number.
-- Assumes nothing.
use Rattle.std.specs.Prelude.{if◌then◌else◌}
use mathlib.Core.Path.{sym, ap, ap₂, ◌∙◌}
use Prim.Native.Nat.{ℕ, min}
use native.Mathlib.Omega.{arith}
use Rattle.state.specs.Weights.{more_urgent}
use Rattle.state.specs.Lent.{state_in}
use Rattle.weights.specs.Keys.{lock_key, no_key}
use Rattle.one_holder.specs.OneHolder.{own_key_there}
use Rattle.one_holder.proofs.own_key_at.Goals as goal

pub returns : goal.returns
returns c =
    let a = c.args in
    let capped = c.more_urgent-read_weight.ensures ∙ ap (λ (ceiling : ℕ). more_urgent ceiling a.holder) c.ceiling.ensures in
    let reads = c.key_if-read_key.ensures ∙ (λ i. if c.contains-reads.ensures i then lock_key (capped i) a.holder a.object else no_key) in
    let writes = c.key_if.ensures ∙ (λ i. if c.contains-writes.ensures i then lock_key (c.write_weight-written.ensures i) a.holder a.object else no_key) in
    c.min.ensures ∙ ap₂ min reads writes ∙ sym (own_key_there (state_in a.parts.now) a.holder a.object (omega arith))
