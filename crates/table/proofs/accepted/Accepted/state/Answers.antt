-- `table::accepted::Accepted::state` meets its contract: the fresh state of the counts, the processors and the declared rights.
-- Assumes nothing.
use mathlib.Core.Path.{◌∙◌}
use Rattle.state.specs.State.{fresh_state}
use Rattle.table.specs.Reading.{table_state}
use Rattle.table.proofs.accepted.Accepted.state.Goals as goal

pub returns : goal.returns
unfolding table_state
returns c =
    let rights = c.rights-rights.ensures in
    c.fresh_state.ensures ∙ (λ i. fresh_state (c.counts_in.ensures i) (c.processors.ensures i) (rights.0 i) (rights.1 i))
