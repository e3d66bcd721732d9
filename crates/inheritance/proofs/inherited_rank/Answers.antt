-- `inheritance::inherited_rank` meets its contract: by the lock that each rank names, as `inherited_by_lem` says.
-- Assumes nothing.
use mathlib.Core.Path.{◌∙◌}
use native.Mathlib.Omega.{arith}
use Rattle.state.specs.Lent.{state_in}
use Rattle.inheritance.specs.Inheriting.{inherited_by_lem}
use Rattle.inheritance.proofs.inherited_rank.Goals as goal

pub returns : goal.returns
returns c = c.inherited_by.ensures ∙ inherited_by_lem c.named_locks.result (state_in c.args.parts.now) c.named_locks.ensures c.args.rank (omega arith)
