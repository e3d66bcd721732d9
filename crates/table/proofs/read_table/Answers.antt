-- `table::read_table` meets its contract: on a refusal the state of zeros, otherwise the fresh state of the accepted bytes.
-- Assumes nothing.
use Rattle.std.proofs.Common.{sym, ◌∙◌}
use Rattle.state.specs.RefusalNumbers.{number_positive}
use Rattle.table.specs.Fresh.{read_accepted, read_refused}
use Rattle.table.proofs.read_table.Goals as goal

pub returns-in-Err : goal.returns-in-Err
returns-in-Err c =
    let h = c.in-Err.ensures in
    (λ i. record { refusal = h i; used = 0; state = c.zero_state.ensures i }) ∙ sym (read_refused _ (λ z. number_positive _ (h ∙ z)))

pub returns : goal.returns
returns c =
    (λ i. record { refusal = 0; used = c.table_length.ensures i; state = c.state.ensures i }) ∙ sym (read_accepted _ (sym c.in_default.ensures))
