-- `manager::act_each` meets its contract: as many events as both lists hold are answered from one test of the state.
-- Assumes nothing.
use mathlib.Core.Path.{◌∙◌}
use Rattle.state.specs.Lent.{state_in_mut}
use Rattle.manager.proofs.AnsweringLaws.{front_stored}
use Rattle.manager.proofs.act_each.Goals as goal

pub returns-clause-answers : goal.returns-clause-answers
returns-clause-answers c =
    let a = c.args in
    c.answer_each.ensures.answers ∙ front_stored (state_in_mut a.state.now) a.events.now a.answers.now c.min-count.result c.min-count.ensures
