-- The label of an event, and the search for a waiting job; proofs/Build has one law for each kind of event.
use Rattle.std.specs.Prelude.{◌≡◌, ◌≢◌, ◌⊎◌, ℕ, ◌<◌}
use Rattle.theory.specs.Words.{Label}
use Rattle.theory.specs.Machine.{View, Took, Searched}

abbrev pub labelled : (what job object mode woken : ℕ) → Label
labelled what job object mode woken = record { what = what; job = job; object = object; mode = mode; woken = woken }

-- the search for a waiting job: m is the state once the locks are released, w the woken rank or 0
pub record Woke (m : View) (w : ℕ) (s' : View) : Type 0 where
  pub waited : 0 < w → m.requested w ≢ 0
  pub search : Searched s'.requested m.weight w
  pub took : 0 < w → Took m.weight s'.weight w (m.requested w)
  pub nobody : w ≡ 0 → (r p : ℕ) → s'.weight r p ≡ m.weight r p
  pub served : 0 < w → s'.requested w ≡ 0
  pub requested_same : (x : ℕ) → (s'.requested x ≡ m.requested x) ⊎ ((0 < x) × (w ≡ x))
  pub active_same : (x : ℕ) → s'.active x ≡ m.active x
  pub unlocked_same : (x : ℕ) → s'.unlocked x ≡ m.unlocked x
