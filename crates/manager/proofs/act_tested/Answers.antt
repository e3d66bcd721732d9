-- `manager::act_tested` meets its contract: in a well-formed state the event is that of its kind.
-- Assumes nothing.
use mathlib.Core.Path.{sym, ◌∙◌}
use Rattle.state.specs.Lent.{state_in_mut}
use Rattle.refusals.specs.Accepting.{in_range}
use Rattle.manager.specs.Keeping.{tested_facts}
use Rattle.manager.specs.Step.{step_performs}
use Rattle.manager.proofs.act_tested.Goals as goal

pub perform-requires : goal.perform-requires
perform-requires c = (let s = state_in_mut c.args.state.now in (in_range s (sym c.requires.found), tested_facts s c.requires))

pub returns-clause-next : goal.returns-clause-next
returns-clause-next c =
    let a = c.args in
    c.perform.ensures.next ∙ sym (step_performs (state_in_mut a.state.now) a.kind a.rank a.object (sym c.requires.found))
