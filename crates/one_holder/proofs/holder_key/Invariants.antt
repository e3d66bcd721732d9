-- `one_holder::holder_key` meets its contract. The loop's invariant: `lowest` is the lowest key on the gathered objects passed. The
-- lowest over all gathered objects is the lowest of the holder's keys.
-- Assumes nothing.
use mathlib.Core.Path.{◌≡◌}
use Prim.Native.Nat.{◌≤◌}
use Rattle.basics.specs.Arrays.{at}
use Rattle.basics.specs.Loops.{least}
use Rattle.weights.specs.Keys.{no_key}
use Rattle.state.specs.Lent.{state_in}
use Rattle.one_holder.specs.OneHolder.{holder_key_at}
use Rattle.one_holder.proofs.holder_key.Given as goal

abbrev pub invariant-loop-i : goal.invariant-loop-i
invariant-loop-i l =
    (l.i ≤ l.locked.count) × (l.lowest ≡ least l.i no_key (λ k. holder_key_at (state_in l.parts) l.holder (at l.locked.objects k)))
