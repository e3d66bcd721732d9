-- All that holds of finished runs, over any list of events from a fresh state, with the conflicting locks of the table's version.
-- Assumes nothing.
use Rattle.std.specs.Prelude.{refl, List, ℕ}
use Rattle.state.specs.declared.State.{State}
use Rattle.state.specs.Facts.{Sized}
use Rattle.table.specs.Fresh.{Fresh}
use Rattle.theory.specs.Lists.{label_at}
use Rattle.theory.proofs.Lists.{in_order_of}
use Rattle.theory.specs.RunOrder.{InOrder}
use Rattle.promises.specs.Terms.{Event, next, label}
use Rattle.promises.specs.View.{view}
use Rattle.promises.specs.LockModes.{modes}
use Rattle.promises.proofs.ReachedStates.{fresh_facts, fresh_view}
use Rattle.promises.proofs.LocksApart.{manages_version, moves_version, apart_version}

module _ (s : State) (sized : Sized s) (start : Fresh s) (es : List Event) where
  pub in_order : InOrder (label_at next label s es) s.counts.version
  in_order =
      let v : ℕ = s.counts.version in
      in_order_of next label view (manages_version v) modes (moves_version v) (apart_version v) s (fresh_facts sized start, refl) (fresh_view sized start) es
