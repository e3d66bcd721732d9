-- The named lock by one minimum of numbers: what the lowest key tells of a request, shown from Lowest alone.
use Rattle.std.specs.Prelude.{◌≡◌, ◌≢◌, ℕ, ◌≤◌, ◌<◌}
use Rattle.std.proofs.Common.{inl, inr, arith}
use Rattle.std.proofs.Math.Decide.{dec_lt}
use Rattle.theory.specs.Machine.{Passes, Blocked, NamedLock}
use Rattle.theory.specs.Key.{key_of, weight_in_key, holder_in_key, object_in_key, Lowest}

-- small: who holds a lock, and on what, fit a byte
module _ {N : ℕ} {weight : ℕ → ℕ → ℕ} {j k : ℕ} (K : Lowest N weight j k) (rank : j < N)
    (small : (r p : ℕ) → weight r p < N → (r < 256) × (p < 256)) where
  pub key_passes : j < weight_in_key k → Passes weight j
  key_passes h r p d = elim (dec_lt (weight r p) N) [
    | yes l ↦ (let b = K.below r p d l in let c = small r p l in omega arith)
    | no l ↦ omega arith
  ]

  pub key_named : weight_in_key k ≤ j → NamedLock weight j (holder_in_key k) (object_in_key k)
  key_named h = elim K.found [ inl n ↦ absurd (omega arith) | inr x ↦ at x.0 x.1 x.2 x.3 x.4 x.5 ]
    where
      at : (r p : ℕ) → r ≢ j → r < 256 → p < 256 → k ≡ key_of weight r p → NamedLock weight j (holder_in_key k) (object_in_key k)
      at r p d a b e =
          let er : holder_in_key k ≡ r = omega arith in
          let ep : object_in_key k ≡ p = omega arith in
          let w : weight r p ≤ j = omega arith in
          rw (er, ep) (
            d,
            w,
            λ r' p' d'. elim (dec_lt (weight r' p') N) [
              | yes l ↦ (let c = K.below r' p' d' l in let z = small r' p' l in omega arith)
              | no l ↦ omega arith
            ],
          )

  pub key_blocked : weight_in_key k ≤ j → Blocked weight j
  key_blocked h = let x = key_named h in (holder_in_key k, object_in_key k, x.0, x.1)
