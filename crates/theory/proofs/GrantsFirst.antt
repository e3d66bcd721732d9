-- No run is granted a lock once it has released one (Arrows), of any events from a fresh state, where each event is a Step.
use Rattle.std.specs.Prelude.{ℕ}
use Rattle.theory.specs.Words.{Label}
use Rattle.theory.specs.Arrows.{GrantsFirst}
use Rattle.theory.specs.Machine.{View}
use Rattle.theory.specs.Links.{Trace}
use Rattle.theory.proofs.Links.{granted_earlier}

module _ {N : ℕ} {view : ℕ → View} {label : ℕ → Label} (T : Trace N view label) where
  pub trace_grants_first : GrantsFirst label
  trace_grants_first m j k o i p g r v = granted_earlier T j k o i p g r.held.holds.run r.unlock_or_end v
