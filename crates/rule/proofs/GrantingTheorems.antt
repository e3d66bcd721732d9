-- Who is granted a lock and which lock is named, said of every lock that another job holds (01, "Granting, naming, waking"): the theorems `passes_iff`,
-- `stopping_lock`, `named_lock`, `names_nobody` and `first_is_one`, in the terms of specs/GrantingTheorems.
-- Assumes nothing.
use Rattle.std.specs.Prelude.{◌≡◌, ◌↔◌, ◌⊎◌, true, false, ℕ, ◌+◌, ◌*◌, ◌≤◌, ◌<◌, eqb}
use Rattle.std.proofs.Common.{sym, subst, ap, inl, inr, arith, ltb-true, ltb-false, lt-ltb}
use Rattle.std.proofs.Math.Bool.{and-false}
use Rattle.std.proofs.Math.Decide.{dec_lt}
use Rattle.std.proofs.lemmas.Bool.{eqb-false, not-true}
use Rattle.state.specs.declared.State.{State}
use Rattle.state.specs.State.{most_jobs, request_of, is_waiting}
use Rattle.state.specs.WellFormed.{well_formed}
use Rattle.state.specs.Facts.{Sized, Facts}
use Rattle.state.specs.WellFormedFacts.{facts, held_rank, held_object, waiting_rank}
use Rattle.state.specs.Weights.{weight}
use Rattle.weights.specs.Keys.{lock_key, no_key, key_weight, key_holder, key_object, lowest_key}
use Rattle.weights.specs.KeyLaws.{OthersLock, KeyOfOther, key_below, key_at, le_key}
use Rattle.rule.specs.Granting.{passes, named_key, named_holder_of, named_object_of}
use Rattle.rule.specs.GrantingTheorems.{HeldByAnother, MoreUrgentThanOthers, ComesFirst, by_weight, by_rank, by_object, FirstOfOthers, stopping_holder, stopping_object}

-- ---- the order of locks is that of their keys

key_first : (w r o v q p : ℕ) → r < 256 → o < 256 → q < 256 → p < 256 → lock_key w r o ≤ lock_key v q p → ComesFirst w r o v q p
key_first w r o v q p hr ho hq hp l = elim (dec_lt w v) [
  | yes a ↦ by_weight a
  | no a ↦ elim (dec_lt r q) [ yes b ↦ by_rank (omega arith) (omega arith) | no b ↦ by_object (omega arith) (omega arith) (omega arith) ]
]

first-at_most : {w r o v q p : ℕ} → ComesFirst w r o v q p → (w ≤ v) × (w ≡ v → r ≤ q) × (w ≡ v → r ≡ q → o ≤ p)
first-at_most (by_weight a) = (omega arith, λ e. absurd (omega arith), λ e f. absurd (omega arith))
first-at_most (by_rank e a) = (omega arith, λ f. omega arith, λ f g. absurd (omega arith))
first-at_most (by_object e f a) = (omega arith, λ g. omega arith, λ g h. a)

-- ---- from the facts of a well-formed state

held_by_another : {s : State} {j m r o : ℕ} → OthersLock s j m r o → HeldByAnother s j m r o
held_by_another l = record { mode = l.mode; other = l.other; held = l.held }

module _ (s : State) (F : Facts s) where
  -- a lock is of a rank and an object of the table
  pub others_lock : (j m r o : ℕ) → HeldByAnother s j m r o → OthersLock s j m r o
  others_lock j m r o l =
      let rank = held_rank s F m r o l.held in
      record {
        mode = l.mode;
        other = l.other;
        rank = (rank.0, omega (arith, rank.1, F.counts.jobs));
        object = held_object s F m r o l.held;
        held = l.held;
      }

  pub passes_more_urgent : (j : ℕ) → passes s j ≡ true → MoreUrgentThanOthers s j
  passes_more_urgent j e m r o l =
      let k = others_lock j m r o l in
      omega (arith, ltb-true j (key_weight (lowest_key s j)) e, key_below (weight s) s j m r o k, k.rank, k.object, F.counts.objects)

  more_urgent_passes : (j : ℕ) → j ≤ most_jobs → MoreUrgentThanOthers s j → passes s j ≡ true
  more_urgent_passes j h all =
      let each : (m r o : ℕ) → OthersLock s j m r o → (j + 1) * 65536 ≤ lock_key (weight s m r o) r o =
      λ m r o l. omega (arith, all m r o (held_by_another l)) in
      lt-ltb j (key_weight (lowest_key s j)) (omega (arith, le_key (weight s) s j ((j + 1) * 65536) (omega arith) each))

  lowest_first : (j : ℕ) → j ≤ most_jobs → passes s j ≡ false → FirstOfOthers s j (stopping_holder s j) (stopping_object s j)
  lowest_first j h e =
      go (lowest_key s j) (ltb-false j (key_weight (lowest_key s j)) e) (key_below (weight s) s j) (key_at (weight s) s j)
    where
      go : (k : ℕ) → key_weight k ≤ j → ((m r o : ℕ) → OthersLock s j m r o → k ≤ lock_key (weight s m r o) r o)
          → (k ≡ no_key) ⊎ KeyOfOther (weight s) s j k → FirstOfOthers s j (key_holder k) (key_object k)
      go k low below (inl z) = absurd (omega arith)
      go k low below (inr w) =
          let rank = w.lock.rank in
          let object = w.lock.object in
          let few = F.counts.objects in
          let holder_is : key_holder k ≡ w.holder = omega (arith, w.is) in
          let object_is : key_object k ≡ w.object = omega (arith, w.is) in
          rw (holder_is, object_is) (record {
            mode = w.mode;
            lock = held_by_another w.lock;
            first = λ m q p l.
                let other = others_lock j m q p l in
                key_first (weight s w.mode w.holder w.object) w.holder w.object (weight s m q p) q p (omega arith) (omega arith)
                (omega (arith, other.rank)) (omega (arith, other.object)) (omega (arith, w.is, below m q p other));
          })

-- ---- the theorems

-- "A request is granted if the requester's rank is more urgent than the weight of every lock held by others. Own locks don't count."
-- "Otherwise the job waits."
pub passes_iff : (s : State) → Sized s → well_formed s ≡ true → (j : ℕ) → j ≤ most_jobs → (passes s j ≡ true) ↔ MoreUrgentThanOthers s j
passes_iff s z w j h = (passes_more_urgent s (facts s z w) j, more_urgent_passes s (facts s z w) j h)

-- The lock that stops a request is "the lock of another job with the most urgent weight, ties going to the lowest rank number and then the lowest
-- object number".
pub stopping_lock : (s : State) → Sized s → well_formed s ≡ true → (j : ℕ) → j ≤ most_jobs → passes s j ≡ false
    → FirstOfOthers s j (stopping_holder s j) (stopping_object s j)
stopping_lock s z w = lowest_first s (facts s z w)

-- "It names the lock of another job with the most urgent weight, ties going to the lowest rank number and then the lowest object number."
pub named_lock : (s : State) → Sized s → well_formed s ≡ true → (j : ℕ) → is_waiting s j ≡ true → passes s j ≡ false
    → FirstOfOthers s j (named_holder_of s j) (named_object_of s j)
unfolding named_key
named_lock s z w j waits e =
    let F = facts s z w in
    let rank = waiting_rank s F j (eqb-false (request_of s j) 0 (not-true (eqb (request_of s j) 0) waits)) in
    let key_is : named_key s j ≡ lowest_key s j = simp (waits, e) in
    subst (λ (k : ℕ). FirstOfOthers s j (key_holder k) (key_object k)) (sym key_is)
    (lowest_first s F j (omega (arith, rank.1, F.counts.jobs)) e)

-- "a waiting job whose request would pass names nobody", and so does a job that doesn't wait: "0 and 0 if it names nobody"
pub names_nobody : (s : State) (j : ℕ) → (is_waiting s j ≡ false) ⊎ (passes s j ≡ true) → (named_holder_of s j ≡ 0) × (named_object_of s j ≡ 0)
unfolding named_key
names_nobody s j c = (ap key_holder (key_is c), ap key_object (key_is c))
  where
    key_is : (is_waiting s j ≡ false) ⊎ (passes s j ≡ true) → named_key s j ≡ no_key
    key_is (inl e) = simp e
    key_is (inr e) = simp (e, and-false)

-- A request meets at most one such lock: whoever has a lock that is first, its rank and its object are those of the theorems above.
pub first_is_one : (s : State) (j r o q p : ℕ) → FirstOfOthers s j r o → FirstOfOthers s j q p → (r ≡ q) × (o ≡ p)
first_is_one s j r o q p a b =
    let l = first-at_most (a.first b.mode q p b.lock) in
    let g = first-at_most (b.first a.mode r o a.lock) in
    let weight_is : weight s a.mode r o ≡ weight s b.mode q p = omega (arith, l.0, g.0) in
    let rank_is : r ≡ q = omega (arith, l.1 weight_is, g.1 (sym weight_is)) in
    (rank_is, omega (arith, l.2 weight_is rank_is, g.2 (sym weight_is) (sym rank_is)))
