-- The search for a waiting job: what it finds is 0, or the first waiting rank whose request passes. Then the terms in which the code goes from one waiting rank
-- to the next.
-- Assumes nothing.
use Rattle.std.specs.Prelude.{◌≡◌, refl, ◌≢◌, ◌⊎◌, Bool, true, false, not, ◌&&◌, ℕ, zero, suc, ◌+◌, ◌-◌, ◌≤◌, ◌<◌, eqb, ltb, leb, List, if◌then◌else◌}
use Rattle.std.proofs.Common.{sym, subst, inl, inr, arith, eqb-true}
use Rattle.std.proofs.Math.Decide.{ℕ_discrete, dec_le}
use Rattle.basics.specs.Arrays.{at}
use Rattle.std.proofs.lemmas.Bool.{eqb-false}
use Rattle.basics.specs.Choice.{◌or_else◌}
use Rattle.basics.specs.Loops.{every, every-at, first_nonzero}
use Rattle.state.specs.declared.State.{State}
use Rattle.state.specs.State.{most_jobs, request_of, is_waiting}
use Rattle.rule.specs.Granting.{passes, wakes, wakeable}

-- ---- the first that is not 0, of numbers that are 0 or their own place

pub record FoundAt (n : ℕ) (f : ℕ → ℕ) (w : ℕ) : Type 0 where
  pub low : 1 ≤ w
  pub high : w ≤ n
  pub itself : f w ≡ w
  pub before : (i : ℕ) → 1 ≤ i → i < w → f i ≡ 0

abbrev pub Found : ℕ → (ℕ → ℕ) → ℕ → Type 0
Found n f a = ((a ≡ 0) × ((i : ℕ) → 1 ≤ i → i ≤ n → f i ≡ 0)) ⊎ FoundAt n f a

pub found : (n : ℕ) (f : ℕ → ℕ) → ((i : ℕ) → (f i ≡ 0) ⊎ (f i ≡ i)) → Found n f (first_nonzero n f)
unfolding first_nonzero
found zero f c = inl (refl, λ i a b. absurd (omega arith))
found (suc n) f c = go (first_nonzero n f) (found n f c) (c (suc n))
  where
    all : ((i : ℕ) → 1 ≤ i → i ≤ n → f i ≡ 0) → f (suc n) ≡ 0 → (i : ℕ) → 1 ≤ i → i ≤ suc n → f i ≡ 0
    all z e i a b = elim (ℕ_discrete i (suc n)) [ yes q ↦ rw q e | no d ↦ z i a (omega arith) ]

    go : (a : ℕ) → Found n f a → (f (suc n) ≡ 0) ⊎ (f (suc n) ≡ suc n) → Found (suc n) f (a or_else f (suc n))
    go zero (inl z) (inl e) = inl (e, all z.1 e)
    go zero (inl z) (inr e) =
        let here : FoundAt (suc n) f (suc n) =
        record { low = omega arith; high = omega arith; itself = e; before = λ i p q. z.1 i p (omega arith) } in
        inr (subst (FoundAt (suc n) f) (sym e) here)
    go zero (inr w) c = absurd (omega (arith, w.low))
    go (suc a) (inl z) c = absurd (omega (arith, z.0))
    go (suc a) (inr w) c = inr (record { low = w.low; high = omega (arith, w.high); itself = w.itself; before = w.before })

-- ---- the woken job

module _ (s : State) where
  pub wakes_or : (i : ℕ) → (wakes s i ≡ 0) ⊎ (wakes s i ≡ i)
  wakes_or i = go (is_waiting s i && passes s i)
    where
      go : (b : Bool) → ((if b then i else 0) ≡ 0) ⊎ ((if b then i else 0) ≡ i)
      go true = inr refl
      go false = inl refl

  pub wakes_is : (i : ℕ) → 1 ≤ i → wakes s i ≡ i → (request_of s i ≢ 0) × (passes s i ≡ true)
  wakes_is i l e = go (eqb (request_of s i) 0) refl (passes s i) refl e
    where
      go : (a : Bool) → eqb (request_of s i) 0 ≡ a → (b : Bool) → passes s i ≡ b → (if not a && b then i else 0) ≡ i
          → (request_of s i ≢ 0) × (passes s i ≡ true)
      go true f b g q = absurd (omega arith)
      go false f true g q = (eqb-false (request_of s i) 0 f, g)
      go false f false g q = absurd (omega arith)

  pub wakeable_found : Found s.counts.jobs (wakes s) (wakeable s)
  unfolding wakeable
  wakeable_found = found s.counts.jobs (wakes s) wakes_or

  -- whoever is woken waits
  pub woken_waits : wakeable s ≢ 0 → (wakeable s ≤ s.counts.jobs) × (request_of s (wakeable s) ≢ 0)
  woken_waits d = elim wakeable_found [
    | inl z ↦ absurd (d z.0)
    | inr w ↦ (w.high, (wakes_is (wakeable s) w.low w.itself).0)
  ]

-- of so many locks of the holder, those that do not count against j: "Own locks don't count."
abbrev pub not_counting : (holder count j : ℕ) → ℕ
not_counting holder count j = if eqb holder j then count else 0

-- up to which rank a lock of the holder that stops j stops all that wait: up to the holder where it comes behind j, else up to the last
abbrev pub all_stopped : (holder j jobs : ℕ) → ℕ
all_stopped holder j jobs = if ltb j holder && leb holder jobs then holder - 1 else jobs

-- none of the ranks behind n, up to m, waits
abbrev pub IdleTo : List ℕ → ℕ → ℕ → Type 0
IdleTo request n m = (i : ℕ) → n < i → i ≤ m → at request i ≡ 0

-- w is the first waiting rank behind n, or 0 where none up to the last waits
abbrev pub NextWaiting : List ℕ → (n jobs w : ℕ) → Type 0
NextWaiting request n jobs w = ((w ≡ 0) × IdleTo request n jobs) ⊎ ((n < w) × (w ≤ jobs) × (at request w ≢ 0) × IdleTo request n (w - 1))

-- a block of which none waits
pub idle_block : (request : List ℕ) (from : ℕ) → every 8 (λ k. eqb (at request (from + k)) 0) ≡ true → IdleTo request from (from + 8)
idle_block request from e i a b =
    let back : from + (i - from) ≡ i = omega arith in
    subst (λ k. at request k ≡ 0) back (eqb-true _ 0 (every-at 8 (λ k. eqb (at request (from + k)) 0) (i - from) e (omega arith) (omega arith)))

module _ (request : List ℕ) (n m : ℕ) (idle : IdleTo request n m) where
  -- more of them
  pub idle_more : (more : ℕ) → more ≢ 0 → (more ≡ 0) ⊎ ((more ≡ 8) × (m + 8 ≤ most_jobs) × IdleTo request m (m + 8))
      → (m + more ≤ most_jobs) × (more ≤ 8) × IdleTo request n (m + more)
  idle_more more d (inl z) = absurd (d z)
  idle_more more d (inr w) = (omega (arith, w.0, w.1), omega (arith, w.0), λ i a b. elim (dec_le i m) [ yes l ↦ idle i a l | no l ↦ w.2 i (omega arith) (omega (arith, w.0)) ])

  pub idle_one : at request (m + 1) ≡ 0 → IdleTo request n (m + 1)
  idle_one z i a b = elim (dec_le i m) [ yes l ↦ idle i a l | no l ↦ (let here : m + 1 ≡ i = omega arith in subst (λ k. at request k ≡ 0) here z) ]

  pub idle_found : (jobs : ℕ) → n ≤ m → m < jobs → at request (m + 1) ≢ 0 → NextWaiting request n jobs (m + 1)
  idle_found jobs l h d = let back : m ≡ m + 1 - 1 = omega arith in inr (omega arith, omega arith, d, subst (IdleTo request n) back idle)

  pub idle_all : (jobs : ℕ) → jobs ≤ m → NextWaiting request n jobs 0
  idle_all jobs l = inl (refl, λ i a b. idle i a (omega arith))

-- the waiting rank that is found, and that none is
pub found_next : (request : List ℕ) (n jobs w : ℕ) → NextWaiting request n jobs w → w ≢ 0 → (n < w) × (w ≤ jobs) × (at request w ≢ 0) × IdleTo request n (w - 1)
found_next request n jobs w (inl z) d = absurd (d z.0)
found_next request n jobs w (inr q) d = q

pub found_none : (request : List ℕ) (n jobs w : ℕ) → NextWaiting request n jobs w → w ≡ 0 → IdleTo request n jobs
found_none request n jobs w (inl z) e = z.1
found_none request n jobs w (inr q) e = absurd (omega (arith, q.0))
