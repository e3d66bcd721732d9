-- `generator::lay_load` meets its contract. The loop's invariant: the events made so far stand at the front, and the seed is the one behind them. A turn lays
-- one event more behind them. Assumes nothing.
use Rattle.std.proofs.Common.{◌≡◌, ◌*◌, ◌≤◌}
use Rattle.decimals.specs.Laid.{Laid}
use Rattle.generator.specs.Load.{seed_after, load}
use Rattle.generator.proofs.lay_load.Given as goal

abbrev pub invariant-loop-made : goal.invariant-loop-made
invariant-loop-made l =
    (l.made ≤ l.count) × (l.next ≡ seed_after l.made l.seed) × Laid l.initial.buf l.buf 0 (3 * l.made) (3 * l.made) (load l.counts l.made l.seed)
