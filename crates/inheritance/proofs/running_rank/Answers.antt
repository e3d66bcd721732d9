-- `inheritance::running_rank` meets its contract: by the lock that each rank names, as `running_by_lem` says.
-- Assumes nothing.
use mathlib.Core.Path.{ap, ◌∙◌}
use Prim.Native.Nat.{ℕ}
use Rattle.state.specs.Lent.{state_in}
use Rattle.inheritance.specs.Inheriting.{running_by, running_by_lem}
use Rattle.inheritance.proofs.running_rank.Goals as goal

pub returns : goal.returns
returns c =
    let a = c.args in
    let s = state_in a.parts.now in
    c.running_by.ensures
    ∙ ap (λ (awake : ℕ). running_by s.counts.jobs c.named_locks.result s.processor_of awake s.request a.processor) c.minus-awake.ensures
    ∙ running_by_lem c.named_locks.result s c.named_locks.ensures a.processor
