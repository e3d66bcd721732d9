-- What the manager's locks weigh, as the theory sees them (specs/Weights): first laws of that weight, then what the lowest key says of it.
-- Assumes nothing.
use Rattle.std.specs.Prelude.{◌≡◌, refl, ◌≢◌, ◌⊎◌, Bool, true, false, ℕ, ◌≤◌, ◌<◌}
use Rattle.std.proofs.Common.{subst, ap, inl, inr, arith, ltb-true, ltb-false}
use Rattle.std.proofs.Math.Decide.{dec_le}
use Rattle.state.specs.declared.State.{State}
use Rattle.state.specs.State.{read, write, holds}
use Rattle.state.specs.Facts.{Facts}
use Rattle.state.specs.Modes.{Mode}
use Rattle.state.specs.WellFormedFacts.{held_rank, held_object}
use Rattle.state.specs.Weights.{weight}
use Rattle.state.specs.WeightLaws.{weight_small}
use Rattle.weights.specs.Keys.{lock_key, no_weight, no_key, key_weight, lowest_key}
use Rattle.weights.specs.KeyLaws.{KeyOfOther, key_below, key_at}
use Rattle.rule.specs.Granting.{passes}
use Rattle.rule.proofs.GrantingTheorems.{others_lock}
use Rattle.theory.specs.Machine.{Blocked, Passes}
use Rattle.theory.specs.Key.{Lowest}
use Rattle.theory.proofs.KeyLaws.{key_passes, key_blocked}
use Rattle.promises.specs.Weights.{weight_if, held_weight, lock_weight}

-- ---- the weight of r's lock on o

module _ (s : State) where
  -- it is at most the weight of each of its locks, and that of one of them
  pub lock_below : (m r o : ℕ) → Mode m → holds s m r o ≡ true → lock_weight s r o ≤ weight s m r o
  lock_below m r o (inl e) h =
      let q : held_weight s read r o ≡ weight s read r o = ap (λ b. weight_if b (weight s read r o)) (subst (λ n. holds s n r o ≡ true) e h) in
      omega (arith, ap (λ n. weight s n r o) e)
  lock_below m r o (inr e) h =
      let q : held_weight s write r o ≡ weight s write r o = ap (λ b. weight_if b (weight s write r o)) (subst (λ n. holds s n r o ≡ true) e h) in
      omega (arith, ap (λ n. weight s n r o) e)

  held_weight_lem : (m r o : ℕ) → held_weight s m r o < no_weight → (holds s m r o ≡ true) × (held_weight s m r o ≡ weight s m r o)
  held_weight_lem m r o l = go (holds s m r o) refl l
    where
      go : (b : Bool) → holds s m r o ≡ b → weight_if b (weight s m r o) < no_weight → (b ≡ true) × (weight_if b (weight s m r o) ≡ weight s m r o)
      go true e h = (refl, refl)
      go false e h = absurd (omega arith)

  -- r holds o in a mode, with the weight of its lock
  pub record HeldLock (r o : ℕ) : Type 0 where
    pub mode : ℕ
    pub known : Mode mode
    pub held : holds s mode r o ≡ true
    pub weighs : lock_weight s r o ≡ weight s mode r o

  pub lock_held : (r o : ℕ) → lock_weight s r o < no_weight → HeldLock r o
  lock_held r o l = elim (dec_le (held_weight s read r o) (held_weight s write r o)) [
    | yes h ↦ (let z = held_weight_lem read r o (omega arith) in record { mode = read; known = inl refl; held = z.0; weighs = omega arith })
    | no h ↦ (let z = held_weight_lem write r o (omega arith) in record { mode = write; known = inr refl; held = z.0; weighs = omega arith })
  ]

  -- ---- the lowest key

  module _ (F : Facts s) where
    pub lock_small : (r o : ℕ) → lock_weight s r o < no_weight → (r < 256) × (o < 256)
    lock_small r o l =
        let h = lock_held r o l in
        omega (arith, held_rank s F h.mode r o h.held, held_object s F h.mode r o h.held, F.counts.jobs, F.counts.objects)

    lowest_below : (j r o : ℕ) → r ≢ j → lock_weight s r o < no_weight → lowest_key s j ≤ lock_key (lock_weight s r o) r o
    lowest_below j r o d l =
        let h = lock_held r o l in
        let lock = others_lock s F j h.mode r o (record { mode = h.known; other = d; held = h.held }) in
        omega (arith, key_below (weight s) s j h.mode r o lock, h.weighs)

    pub lowest : (j : ℕ) → Lowest no_weight (lock_weight s) j (lowest_key s j)
    lowest j = record { below = lowest_below j; found = found (key_at (weight s) s j) }
      where
        found : (lowest_key s j ≡ no_key) ⊎ KeyOfOther (weight s) s j (lowest_key s j)
            → (no_weight ≤ key_weight (lowest_key s j))
            ⊎ ((r : ℕ) × (o : ℕ) × (r ≢ j) × (r < 256) × (o < 256) × (lowest_key s j ≡ lock_key (lock_weight s r o) r o))
        found (inl e) = inl (omega arith)
        found (inr w) =
            let r = w.holder in
            let o = w.object in
            let L = w.lock in
            let up = lock_below w.mode r o L.mode L.held in
            let small : lock_weight s r o < no_weight = omega (arith, weight_small s w.mode r o, F.counts.jobs) in
            let z = lock_small r o small in
            inr (r, o, L.other, z.0, z.1, omega (arith, lowest_below j r o L.other small, w.is))

    pub passes_all : (j : ℕ) → j < no_weight → passes s j ≡ true → Passes (lock_weight s) j
    passes_all j l e = key_passes (lowest j) l lock_small (ltb-true j (key_weight (lowest_key s j)) e)

    pub fails_blocked : (j : ℕ) → j < no_weight → passes s j ≡ false → Blocked (lock_weight s) j
    fails_blocked j l e = key_blocked (lowest j) l lock_small (ltb-false j (key_weight (lowest_key s j)) e)

    pub blocked_fails : (j : ℕ) → j < no_weight → Blocked (lock_weight s) j → passes s j ≡ false
    blocked_fails j l b = go (passes s j) refl
      where
        go : (t : Bool) → passes s j ≡ t → t ≡ false
        go true e = absurd (omega (arith, passes_all j l e b.0 b.1 b.2, b.3))
        go false e = refl
