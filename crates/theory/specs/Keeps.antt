-- Who takes a lock in an event, and who is the most urgent lock holder of a state; proofs/Keeps shows that one event keeps the invariant.
use Rattle.std.specs.Prelude.{◌≡◌, ◌⊎◌, ℕ, ◌≤◌, ◌<◌}
use Rattle.theory.specs.Words.{Label, Grants, Wakens}
use Rattle.theory.specs.Machine.{View}

-- event l gives x a lock on o
abbrev pub Takes : View → Label → ℕ → ℕ → Type 0
Takes s l x o = Grants l x o ⊎ (Wakens l x × (s.requested x ≡ o))

-- m is the most urgent lock holder
abbrev pub TopHolder : ℕ → View → ℕ → Type 0
TopHolder N s m = ((o : ℕ) × (s.weight m o < N)) × ((h p : ℕ) → s.weight h p < N → m ≤ h)
