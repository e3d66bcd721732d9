-- `weights::nobody` meets its contract, by `nobody_in` and `nobody_past`.
-- Assumes nothing.
use native.Mathlib.Omega.{arith}
use Rattle.weights.proofs.PutIn.{nobody_in, nobody_past}
use Rattle.weights.proofs.nobody.Goals as goal

pub returns-then-counts-lt64 : goal.returns-then-counts-lt64
returns-then-counts-lt64 c =
    let counts = c.args.counts in
    λ set. nobody_in counts set _ (omega arith) (omega (arith, c.with.ensures))

pub returns-else-counts-lt64 : goal.returns-else-counts-lt64
returns-else-counts-lt64 c = λ set. nobody_past c.args.counts set _ (omega arith) (omega arith)
