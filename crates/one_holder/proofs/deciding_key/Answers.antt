-- `one_holder::deciding_key` meets its contract, in each of the two cases.
-- Assumes nothing.
use mathlib.Core.Path.{sym, ◌∙◌}
use Rattle.state.specs.Lent.{state_in}
use Rattle.one_holder.specs.OneHolder.{holder_key, against_other}
use Rattle.one_holder.proofs.deciding_key.Goals as goal

pub returns : goal.returns
returns c =
    let p = c.args.parts.now in
    c.holder_key.ensures ∙ sym (against_other p.holder (holder_key (state_in p) p.holder) c.args.rank c.if-parts-rank.false)
