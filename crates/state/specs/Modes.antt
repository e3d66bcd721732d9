-- The modes that locks are held in. What holds of what is read and of what is written holds of either mode: every law with the mode as
-- an argument is made of its two cases.
-- Assumes nothing.
use Rattle.std.specs.Prelude.{◌≡◌, ◌⊎◌, Bool, true, false, ℕ, eqb, if◌then◌else◌}
use Rattle.state.specs.State.{read, write, of_mode}

abbrev pub Mode : ℕ → Type 0
Mode m = (m ≡ read) ⊎ (m ≡ write)

pub either_mode : (P : (ℕ → ℕ → ℕ) → Type 0) → P (λ reading writing. reading) → P (λ reading writing. writing)
    → (m : ℕ) → P (λ reading writing. of_mode m reading writing)
either_mode P reading writing m = go (eqb m read)
  where
    go : (b : Bool) → P (λ x y. if b then x else y)
    go true = reading
    go false = writing
