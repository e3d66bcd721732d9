-- What the lowest key says of each lock, by any rule of weighing: it is at most the key of each lock that another job holds, and it is the key of
-- one of them, or none's. So it is the greatest number that is at most each of those keys.
-- Assumes nothing.
use Rattle.std.specs.Prelude.{◌≡◌, ◌≢◌, ◌⊎◌, Bool, ◌&&◌, if◌then◌else◌}
use Rattle.std.proofs.Math.Path.{refl}
use Rattle.std.proofs.Common.{ap, ◌∙◌, le_antisymm, arith}
use Rattle.std.proofs.Math.Logic.{inl, inr}
use Rattle.std.proofs.Math.Bool.{true, false, not}
use Prim.Native.Nat.{ℕ, ◌≤◌, ◌<◌, min}
use Rattle.std.proofs.Math.Nat.{le_trans}
use Rattle.std.proofs.Math.Decide.{dec_le}
use Rattle.std.proofs.Math.Dec.{eqb}
use borrow.Author.Tests.{eqb-false, ne_eqb}
use Rattle.basics.specs.Loops.{least, least_top, least-le, least_at}
use Rattle.state.specs.declared.State.{State}
use Rattle.state.specs.State.{most_jobs, most_objects, read, write, holds}
use Rattle.state.specs.Modes.{Mode}
use Rattle.weights.specs.Keys.{lock_key, no_key, key_weight, key_holder, key_object, Weigh, others_key, object_key, lowest_key_by}

-- r, another job than j, holds a lock on o in mode m
pub record OthersLock (s : State) (j m r o : ℕ) : Type 0 where
  pub mode : Mode m
  pub other : r ≢ j
  pub rank : (1 ≤ r) × (r ≤ most_jobs)
  pub object : (1 ≤ o) × (o ≤ s.counts.objects)
  pub held : holds s m r o ≡ true

module _ (weigh : Weigh) (s : State) (j : ℕ) where
  -- both keys of r on o
  both : ℕ → ℕ → ℕ
  both o r = min (others_key weigh s j o read r) (others_key weigh s j o write r)

  lowest_both : (o r : ℕ) → 1 ≤ o → o ≤ s.counts.objects → 1 ≤ r → r ≤ most_jobs → lowest_key_by weigh s j ≤ both o r
  unfolding both lowest_key_by object_key
  lowest_both o r a b p q = le_trans (least-le s.counts.objects no_key (object_key weigh s j) o a b) (least-le most_jobs no_key (both o) r p q)

  others_held : (m r o : ℕ) → r ≢ j → holds s m r o ≡ true → others_key weigh s j o m r ≡ lock_key (weigh m r o) r o
  unfolding others_key
  others_held m r o d h = simp (ne_eqb r j d, h)

  -- "the requester's rank is more urgent than the weight of every lock held by others": the lowest key is at most the key of each
  pub key_below : (m r o : ℕ) → OthersLock s j m r o → lowest_key_by weigh s j ≤ lock_key (weigh m r o) r o
  unfolding both
  key_below m r o l = go m l.mode (others_held m r o l.other l.held)
    where
      low : lowest_key_by weigh s j ≤ both o r
      low = lowest_both o r l.object.0 l.object.1 l.rank.0 l.rank.1

      go : (m : ℕ) → Mode m → others_key weigh s j o m r ≡ lock_key (weigh m r o) r o → lowest_key_by weigh s j ≤ lock_key (weigh m r o) r o
      go m (inl e) k = omega (arith, low, ap (λ (n : ℕ). others_key weigh s j o n r) e)
      go m (inr e) k = omega (arith, low, ap (λ (n : ℕ). others_key weigh s j o n r) e)

  pub key_top : lowest_key_by weigh s j ≤ no_key
  unfolding lowest_key_by
  key_top = least_top s.counts.objects no_key (object_key weigh s j)

  -- k is the key of a lock that another job holds
  pub record KeyOfOther (k : ℕ) : Type 0 where
    pub mode : ℕ
    pub holder : ℕ
    pub object : ℕ
    pub lock : OthersLock s j mode holder object
    pub is : k ≡ lock_key (weigh mode holder object) holder object

  others_at : (m r o : ℕ) → Mode m → (1 ≤ r) × (r ≤ most_jobs) → (1 ≤ o) × (o ≤ s.counts.objects)
      → (others_key weigh s j o m r ≡ no_key) ⊎ KeyOfOther (others_key weigh s j o m r)
  unfolding others_key
  others_at m r o mode rank object = go (eqb r j) refl (holds s m r o) refl
    where
      go : (a : Bool) → eqb r j ≡ a → (b : Bool) → holds s m r o ≡ b
          → ((if not a && b then lock_key (weigh m r o) r o else no_key) ≡ no_key) ⊎ KeyOfOther (if not a && b then lock_key (weigh m r o) r o else no_key)
      go true e b h = inl refl
      go false e false h = inl refl
      go false e true h = inr (record {
        mode = m;
        holder = r;
        object = o;
        lock = record { mode = mode; other = eqb-false r j e; rank = rank; object = object; held = h };
        is = refl;
      })

  same_key : {k l : ℕ} → k ≡ l → (l ≡ no_key) ⊎ KeyOfOther l → (k ≡ no_key) ⊎ KeyOfOther k
  same_key e (inl z) = inl (e ∙ z)
  same_key e (inr w) = inr (record { mode = w.mode; holder = w.holder; object = w.object; lock = w.lock; is = e ∙ w.is })

  lesser_key : (k l : ℕ) → (k ≡ no_key) ⊎ KeyOfOther k → (l ≡ no_key) ⊎ KeyOfOther l → (min k l ≡ no_key) ⊎ KeyOfOther (min k l)
  lesser_key k l a b = elim (dec_le k l) [
    | yes h ↦ same_key (omega arith) a
    | no h ↦ same_key (omega arith) b
  ]

  object_at : (o : ℕ) → (1 ≤ o) × (o ≤ s.counts.objects) → (object_key weigh s j o ≡ no_key) ⊎ KeyOfOther (object_key weigh s j o)
  unfolding object_key both
  object_at o object = go (least_at most_jobs no_key (both o))
    where
      go : (least most_jobs no_key (both o) ≡ no_key) ⊎ ((r : ℕ) × (1 ≤ r) × (r ≤ most_jobs) × (least most_jobs no_key (both o) ≡ both o r))
          → (least most_jobs no_key (both o) ≡ no_key) ⊎ KeyOfOther (least most_jobs no_key (both o))
      go (inl z) = inl z
      go (inr w) =
          let r = w.0 in
          let rank : (1 ≤ r) × (r ≤ most_jobs) = (w.1, w.2) in
          same_key w.3
          (lesser_key (others_key weigh s j o read r) (others_key weigh s j o write r)
          (others_at read r o (inl refl) rank object) (others_at write r o (inr refl) rank object))

  -- it is none's, or the key of a lock that another job holds
  pub key_at : (lowest_key_by weigh s j ≡ no_key) ⊎ KeyOfOther (lowest_key_by weigh s j)
  unfolding lowest_key_by
  key_at = go (least_at s.counts.objects no_key (object_key weigh s j))
    where
      lowest : ℕ
      lowest = least s.counts.objects no_key (object_key weigh s j)

      go : (lowest ≡ no_key) ⊎ ((o : ℕ) × (1 ≤ o) × (o ≤ s.counts.objects) × (lowest ≡ object_key weigh s j o))
          → (lowest ≡ no_key) ⊎ KeyOfOther lowest
      go (inl z) = inl z
      go (inr w) = same_key w.3 (object_at w.0 (w.1, w.2))

  -- so a number that is at most no_key and the key of each lock of another is at most the lowest key
  pub le_key : (n : ℕ) → n ≤ no_key → ((m r o : ℕ) → OthersLock s j m r o → n ≤ lock_key (weigh m r o) r o) → n ≤ lowest_key_by weigh s j
  le_key n top each = go key_at
    where
      go : (lowest_key_by weigh s j ≡ no_key) ⊎ KeyOfOther (lowest_key_by weigh s j) → n ≤ lowest_key_by weigh s j
      go (inl z) = omega arith
      go (inr w) = omega (arith, w.is, each w.mode w.holder w.object w.lock)

  -- a key below no_key is of a rank and an object of the state, which a function may then look up
  pub key_in_range : s.counts.objects ≤ most_objects → lowest_key_by weigh s j < no_key
      → ((1 ≤ key_holder (lowest_key_by weigh s j)) × (key_holder (lowest_key_by weigh s j) ≤ most_jobs))
      × ((1 ≤ key_object (lowest_key_by weigh s j)) × (key_object (lowest_key_by weigh s j) ≤ s.counts.objects))
  key_in_range few below = go (lowest_key_by weigh s j) below key_at
    where
      go : (k : ℕ) → k < no_key → (k ≡ no_key) ⊎ KeyOfOther k
          → ((1 ≤ key_holder k) × (key_holder k ≤ most_jobs)) × ((1 ≤ key_object k) × (key_object k ≤ s.counts.objects))
      go k l (inl z) = absurd (omega arith)
      go k l (inr w) =
          let rank = w.lock.rank in
          let object = w.lock.object in
          let holder_is : key_holder k ≡ w.holder = omega (arith, w.is) in
          let object_is : key_object k ≡ w.object = omega (arith, w.is) in
          ((omega arith, omega arith), (omega arith, omega arith))

-- ---- two rules of weighing

module _ (v w : Weigh) (s : State) (j : ℕ) where
  -- where each lock of another weighs less by the second, so does the lowest key
  pub key_above : ((m r o : ℕ) → OthersLock s j m r o → v m r o ≤ w m r o) → lowest_key_by v s j ≤ lowest_key_by w s j
  key_above le =
      le_key w s j (lowest_key_by v s j) (key_top v s j) (λ m r o l. omega (arith, key_below v s j m r o l, le m r o l))

  -- and where those that stop j weigh the same, the same lock stops it
  pub stops_same : j ≤ most_jobs → s.counts.objects ≤ most_objects → ((m r o : ℕ) → OthersLock s j m r o → v m r o ≤ w m r o)
      → ((m r o : ℕ) → OthersLock s j m r o → v m r o ≤ j → v m r o ≡ w m r o) → key_weight (lowest_key_by v s j) ≤ j → lowest_key_by w s j ≡ lowest_key_by v s j
  stops_same small few le same stopped = go (key_at v s j)
    where
      go : (lowest_key_by v s j ≡ no_key) ⊎ KeyOfOther v s j (lowest_key_by v s j) → lowest_key_by w s j ≡ lowest_key_by v s j
      go (inl e) = absurd (omega arith)
      go (inr x) =
          let m = x.mode in
          let r = x.holder in
          let o = x.object in
          let light : v m r o ≤ j = omega (arith, x.is, x.lock.rank, x.lock.object) in
          let equal = same m r o x.lock light in
          omega (arith, key_below w s j m r o x.lock, key_above le, x.is)

-- two rules that weigh each lock of another the same give the same lowest key
pub same_lowest_key : (v w : Weigh) (s : State) (j : ℕ) → ((m r o : ℕ) → OthersLock s j m r o → v m r o ≡ w m r o) → lowest_key_by v s j ≡ lowest_key_by w s j
same_lowest_key v w s j same =
    le_antisymm (key_above v w s j (λ m r o l. omega (arith, same m r o l))) (key_above w v s j (λ m r o l. omega (arith, same m r o l)))
