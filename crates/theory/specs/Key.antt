-- The named lock by one minimum of numbers: the lowest key; proofs/KeyLaws shows from Lowest alone what it tells of a request.
-- A key orders locks as document 01 does: "the most urgent weight, ties going to the lowest rank number
-- and then the lowest object number".
use Rattle.std.specs.Prelude.{◌≡◌, ◌≢◌, ◌⊎◌, ℕ, ◌+◌, ◌*◌, ◌/◌, ◌%◌, ◌≤◌, ◌<◌}

-- the key of r's lock on object p
abbrev pub key_of : (weight : ℕ → ℕ → ℕ) (r p : ℕ) → ℕ
key_of weight r p = weight r p * 65536 + r * 256 + p

abbrev pub weight_in_key : (key : ℕ) → ℕ
weight_in_key key = key / 65536

abbrev pub holder_in_key : (key : ℕ) → ℕ
holder_in_key key = key / 256 % 256

abbrev pub object_in_key : (key : ℕ) → ℕ
object_in_key key = key % 256

-- k is the lowest key of the locks that others than j hold, or past every key if there is none
pub record Lowest (N : ℕ) (weight : ℕ → ℕ → ℕ) (j k : ℕ) : Type 0 where
  pub below : (r p : ℕ) → r ≢ j → weight r p < N → k ≤ key_of weight r p
  pub found : (N ≤ weight_in_key k) ⊎ ((r : ℕ) × (p : ℕ) × (r ≢ j) × (r < 256) × (p < 256) × (k ≡ key_of weight r p))
