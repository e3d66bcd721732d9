-- `manager::event` meets its contract: the parts of the state handed in, changed in place, are those of the next one.
-- Assumes nothing.
use mathlib.Core.Path.{sym, ◌∙◌}
use Rattle.state.specs.State.{state_of}
use Rattle.state.specs.Facts.{Sized}
use Rattle.events.specs.Events.{outcome}
use Rattle.manager.proofs.event.Goals as goal

pub returns : goal.returns
returns c =
    let n = c.act-answer.new.state in
    let same = c.act-answer.ensures.same in (
      (λ i. outcome c.act-answer.result (state_of (sym same.counts i) (sym same.processor_of i).now (sym same.may_read i).now (sym same.may_write i).now n.active.now n.unlocked.now n.sleeping.now n.holder.now n.readers.now n.writers.now n.certified.now n.request.now))
          ∙ c.act-answer.ensures.next,
      c.act-answer.ensures.sized,
    )
