-- `page::lines::running_ranks` meets its contract. The loop's invariant: the element of each processor passed is the rank that it runs, and the others are 0. A
-- turn stores one more.
-- Assumes nothing.
use mathlib.Core.Path.{◌≡◌}
use Prim.Native.Nat.{◌≤◌, ◌-◌}
use lib.ListN.{length}
use Rattle.basics.specs.Arrays.{FilledTo}
use Rattle.state.specs.State.{most_processors}
use Rattle.inheritance.specs.Inheriting.{running_by}
use Rattle.page.proofs.lines.running_ranks.Given as goal

abbrev pub invariant-loop-processor : goal.invariant-loop-processor
invariant-loop-processor l =
    (l.processor ≤ l.parts.counts.processors) × (length l.running ≡ most_processors)
    × FilledTo l.running l.processor (λ k. running_by l.parts.counts.jobs l.named l.parts.processor_of.now l.awake l.parts.request.now (k - 1))
