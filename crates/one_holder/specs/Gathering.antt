-- Which objects a rank has locked, gathered into the front of a list: what is known of the list once so many objects have been looked at, and its laws.
-- Then that the lowest of a rank's keys is the lowest over the gathered objects.
-- Assumes nothing.
use Rattle.std.specs.Prelude.{◌≡◌, refl, ◌≢◌, ◌⊎◌, Bool, true, false, List, ℕ, ◌+◌, ◌-◌, ◌≤◌, ◌<◌, length, set}
use Rattle.std.proofs.Common.{sym, subst, ap, ◌∙◌, inl, inr, le_antisymm, add-zero, arith}
use Rattle.std.proofs.Math.Decide.{dec_le}
use Rattle.basics.specs.Choice.{clash}
use Rattle.basics.specs.Arrays.{at, put, at-put_same, at-put_other, put_index}
use Rattle.basics.specs.Loops.{one_if, least, least_top, least-le, le-least}
use Rattle.ranks.specs.Ranks.{member, union, unions}
use Rattle.ranks.specs.RankLaws.{member-zero}
use Rattle.ranks.specs.UnionLaws.{union_left, union_right, unions_both, in_unions}
use Rattle.state.specs.declared.State.{State}
use Rattle.state.specs.State.{most_objects, read, write, holders}
use Rattle.weights.specs.Keys.{no_key}
use Rattle.one_holder.specs.OneHolder.{holder_key_at, holder_key}

-- how many objects are passed over together
abbrev pub block_size : ℕ
block_size = 8

module _ (readers writers : List ℕ) (h : ℕ) where
  -- h holds a lock on o
  abbrev pub held_by : ℕ → Bool
  held_by o = member (union (at readers o) (at writers o)) h

  -- who is in none of the joined sets of a block holds none of its objects
  pub block_free : (from : ℕ) → member (union (unions block_size (λ k. at readers (from + k))) (unions block_size (λ k. at writers (from + k)))) h ≡ false
      → (k : ℕ) → 1 ≤ k → k ≤ block_size → held_by (from + k) ≡ false
  block_free from none k a b = go (held_by (from + k)) refl
    where
      go : (t : Bool) → held_by (from + k) ≡ t → t ≡ false
      go false e = refl
      go true e =
          let joined = in_unions block_size (λ k. union (at readers (from + k)) (at writers (from + k))) h k a b e in
          absurd (clash (ap (λ set. member set h) (unions_both block_size (λ k. at readers (from + k)) (λ k. at writers (from + k))) ∙ joined) none)

  -- of a table of so many objects, of which the first `done` have been looked at: the first `count` of the list are objects that h holds, and each of those is among them
  pub record LocksTo (objects done : ℕ) (list : List ℕ) (count : ℕ) : Type 0 where
    pub inside : (i : ℕ) → 1 ≤ i → i ≤ count → (1 ≤ at list i) × (at list i ≤ objects)
    pub all : (o : ℕ) → 1 ≤ o → o ≤ done → o ≤ objects → held_by o ≡ true → (i : ℕ) × (1 ≤ i) × (i ≤ count) × (at list i ≡ o)

  pub record LocksOf (objects : ℕ) (list : List ℕ) (count : ℕ) : Type 0 where
    pub few : count ≤ most_objects
    -- who has one is a rank
    pub rank : 1 ≤ count → 1 ≤ h
    pub locks : LocksTo objects objects list count

  -- the first `count` of a list are objects that h holds
  abbrev pub HeldTo : (list : List ℕ) (count : ℕ) → Type 0
  HeldTo list count = (i : ℕ) → 1 ≤ i → i ≤ count → held_by (at list i) ≡ true

  pub held_none : (list : List ℕ) → HeldTo list 0
  held_none list i a b = absurd (omega arith)

  module _ (count v : ℕ) (list : List ℕ) (room : count < length list) (H : HeldTo list count) where
    abbrev stored_behind : put list (count + 1) v ≡ set list count v
    stored_behind = let back : count + 1 - 1 ≡ count = omega arith in put_index list (count + 1) v (omega arith) ∙ ap (λ k. set list k v) back

    held_before : (i : ℕ) → i ≤ count → at (set list count v) i ≡ at list i
    held_before i l = ap (λ xs. at xs i) (sym stored_behind) ∙ at-put_other list (count + 1) v i (λ e. omega arith)

    held_put : held_by v ≡ true → HeldTo (set list count v) (count + 1)
    held_put here i a b = elim (dec_le i count) [
      | yes l ↦ ap held_by (held_before i l) ∙ H i a l
      | no l ↦ (
          let last : at (set list count v) (count + 1) ≡ v = ap (λ xs. at xs (count + 1)) (sym stored_behind) ∙ at-put_same list (count + 1) v (omega arith) (omega arith) in
          let e : count + 1 ≡ i = omega arith in
          subst (λ k. held_by (at (set list count v) k) ≡ true) e (ap held_by last ∙ here)
          )
    ]

    held_over : HeldTo (set list count v) count
    held_over i a b = ap held_by (held_before i b) ∙ H i a b

  -- one more is put behind the others, and counted where h holds it
  pub held_next : (done count : ℕ) (list : List ℕ) (held : Bool) → held ≡ held_by (done + 1) → count < length list → HeldTo list count
      → HeldTo (set list count (done + 1)) (count + one_if held)
  held_next done count list true e room H = held_put count (done + 1) list room H (sym e)
  held_next done count list false e room H = subst (HeldTo (set list count (done + 1))) (sym (add-zero count)) (held_over count (done + 1) list room H)

  -- eight objects at the most are passed over
  pub passed_small : (done free : ℕ)
      → (free ≡ 0) ⊎ ((free ≡ block_size) × (done + block_size ≤ most_objects) × ((k : ℕ) → 1 ≤ k → k ≤ block_size → held_by (done + k) ≡ false)) → free ≤ block_size
  passed_small done free (inl e) = omega arith
  passed_small done free (inr w) = omega (arith, w.0)

  module _ (objects : ℕ) where
    pub locks_none : (list : List ℕ) → LocksTo objects 0 list 0
    locks_none list = record { inside = λ i a b. absurd (omega arith); all = λ o a b c e. absurd (omega arith) }

    -- objects that h does not hold are passed over
    pub locks_skip : (done more count : ℕ) (list : List ℕ) → ((k : ℕ) → 1 ≤ k → k ≤ more → held_by (done + k) ≡ false) → LocksTo objects done list count
        → LocksTo objects (done + more) list count
    locks_skip done more count list free L = record { inside = L.inside; all = all }
      where
        all : (o : ℕ) → 1 ≤ o → o ≤ done + more → o ≤ objects → held_by o ≡ true → (i : ℕ) × (1 ≤ i) × (i ≤ count) × (at list i ≡ o)
        all o a b c e = elim (dec_le o done) [
          | yes l ↦ L.all o a l c e
          | no l ↦
              let back : done + (o - done) ≡ o = omega arith in
              absurd (clash e (subst (λ q. held_by q ≡ false) back (free (o - done) (omega arith) (omega arith))))
        ]

    -- so eight at a time, or none
    pub locks_passed : (done free count : ℕ) (list : List ℕ) → free ≢ 0
        → (free ≡ 0) ⊎ ((free ≡ block_size) × (done + block_size ≤ most_objects) × ((k : ℕ) → 1 ≤ k → k ≤ block_size → held_by (done + k) ≡ false))
        → LocksTo objects done list count → (done + free ≤ most_objects) × LocksTo objects (done + free) list count
    locks_passed done free count list d (inl e) L = absurd (d e)
    locks_passed done free count list d (inr w) L =
        (omega (arith, w.0, w.1), subst (λ k. LocksTo objects (done + k) list count) (sym w.0) (locks_skip done block_size count list w.2 L))

    -- one that h holds is put behind the others
    locks_put : (done count : ℕ) (list : List ℕ) → count < length list → done < objects → LocksTo objects done list count
        → LocksTo objects (done + 1) (set list count (done + 1)) (count + 1)
    locks_put done count list room less L =
        subst (λ next. LocksTo objects (done + 1) next (count + 1)) stored (record { inside = inside; all = all })
      where
        stored : put list (count + 1) (done + 1) ≡ set list count (done + 1)
        stored = let back : count + 1 - 1 ≡ count = omega arith in put_index list (count + 1) (done + 1) (omega arith) ∙ ap (λ k. set list k (done + 1)) back

        next : List ℕ
        next = put list (count + 1) (done + 1)

        last : at next (count + 1) ≡ done + 1
        last = at-put_same list (count + 1) (done + 1) (omega arith) (omega arith)

        before : (i : ℕ) → i ≤ count → at next i ≡ at list i
        before i l = at-put_other list (count + 1) (done + 1) i (λ e. omega arith)

        inside : (i : ℕ) → 1 ≤ i → i ≤ count + 1 → (1 ≤ at next i) × (at next i ≤ objects)
        inside i a b = elim (dec_le i count) [
          | yes l ↦ (let w = L.inside i a l in (omega (arith, before i l, w.0), omega (arith, before i l, w.1)))
          | no l ↦ (let e : count + 1 ≡ i = omega arith in subst (λ k. (1 ≤ at next k) × (at next k ≤ objects)) e (omega (arith, last), omega (arith, last)))
        ]

        all : (o : ℕ) → 1 ≤ o → o ≤ done + 1 → o ≤ objects → held_by o ≡ true → (i : ℕ) × (1 ≤ i) × (i ≤ count + 1) × (at next i ≡ o)
        all o a b c e = elim (dec_le o done) [
          | yes l ↦ (let w = L.all o a l c e in (w.0, w.1, omega (arith, w.2), before w.0 w.2 ∙ w.3))
          | no l ↦ (count + 1, omega arith, omega arith, last ∙ omega arith)
        ]

  module _ (objects : ℕ) where
    -- an object that h does not hold may stand behind the others: it is not counted
    locks_over : (done count : ℕ) (list : List ℕ) (v : ℕ) → held_by (done + 1) ≡ false → LocksTo objects done list count
        → LocksTo objects (done + 1) (set list count v) count
    locks_over done count list v free L = record { inside = λ i a b. rw (same i b) (L.inside i a b); all = all }
      where
        stored : put list (count + 1) v ≡ set list count v
        stored = let back : count + 1 - 1 ≡ count = omega arith in put_index list (count + 1) v (omega arith) ∙ ap (λ k. set list k v) back

        same : (i : ℕ) → i ≤ count → at (set list count v) i ≡ at list i
        same i l = ap (λ xs. at xs i) (sym stored) ∙ at-put_other list (count + 1) v i (λ e. omega arith)

        all : (o : ℕ) → 1 ≤ o → o ≤ done + 1 → o ≤ objects → held_by o ≡ true → (i : ℕ) × (1 ≤ i) × (i ≤ count) × (at (set list count v) i ≡ o)
        all o a b c e = elim (dec_le o done) [
          | yes l ↦ (let w = L.all o a l c e in (w.0, w.1, w.2, same w.0 w.2 ∙ w.3))
          | no l ↦ (let here : done + 1 ≡ o = omega arith in absurd (clash e (subst (λ q. held_by q ≡ false) here free)))
        ]

    -- so one more is put behind the others, and counted where h holds it
    pub locks_next : (done count : ℕ) (list : List ℕ) (held : Bool) → held ≡ held_by (done + 1) → count < length list → done < objects
        → LocksTo objects done list count → LocksTo objects (done + 1) (set list count (done + 1)) (count + one_if held)
    locks_next done count list true e room less L = locks_put objects done count list room less L
    locks_next done count list false e room less L =
        subst (LocksTo objects (done + 1) (set list count (done + 1))) (sym (add-zero count)) (locks_over done count list (done + 1) (sym e) L)

-- nobody, rank 0, has none
pub nobody_locks : (readers writers : List ℕ) (h objects : ℕ) (list : List ℕ) → h ≡ 0 → LocksOf readers writers h objects list 0
nobody_locks readers writers h objects list z = record {
  few = omega arith;
  rank = λ l. absurd (omega arith);
  locks = record {
    inside = λ i a b. absurd (omega arith);
    all = λ o a b c e. absurd (clash (subst (λ r. member (union (at readers o) (at writers o)) r ≡ true) z e) (member-zero (union (at readers o) (at writers o))));
  };
}

-- ---- the lowest key over the gathered objects

-- on an object that h does not hold it has no key
none_held : (s : State) (h o : ℕ) → held_by s.readers s.writers h o ≡ false → holder_key_at s h o ≡ no_key
none_held s h o e = go (member (holders s read o) h) refl (member (holders s write o) h) refl
  where
    go : (a : Bool) → member (holders s read o) h ≡ a → (b : Bool) → member (holders s write o) h ≡ b → holder_key_at s h o ≡ no_key
    go true p b q = absurd (clash (union_left (holders s read o) (holders s write o) h p) e)
    go false p true q = absurd (clash (union_right (holders s read o) (holders s write o) h q) e)
    go false p false q = simp (p, q)

pub gathered_key : (s : State) (h : ℕ) (list : List ℕ) (count : ℕ) → LocksOf s.readers s.writers h s.counts.objects list count
    → least count no_key (λ i. holder_key_at s h (at list i)) ≡ holder_key s h
unfolding holder_key
gathered_key s h list count G = le_antisymm down up
  where
    down : least count no_key (λ i. holder_key_at s h (at list i)) ≤ least s.counts.objects no_key (holder_key_at s h)
    down =
        le-least s.counts.objects no_key (holder_key_at s h) _ (least_top count no_key (λ i. holder_key_at s h (at list i)))
        (λ o a b. each o a b (held_by s.readers s.writers h o) refl)
      where
        each : (o : ℕ) → 1 ≤ o → o ≤ s.counts.objects → (t : Bool) → held_by s.readers s.writers h o ≡ t
            → least count no_key (λ i. holder_key_at s h (at list i)) ≤ holder_key_at s h o
        each o a b true e =
            let w = G.locks.all o a b b e in
            subst (λ q. least count no_key (λ i. holder_key_at s h (at list i)) ≤ holder_key_at s h q) w.3
            (least-le count no_key (λ i. holder_key_at s h (at list i)) w.0 w.1 w.2)
        each o a b false e = omega (arith, none_held s h o e, least_top count no_key (λ i. holder_key_at s h (at list i)))

    up : least s.counts.objects no_key (holder_key_at s h) ≤ least count no_key (λ i. holder_key_at s h (at list i))
    up =
        le-least count no_key (λ i. holder_key_at s h (at list i)) _ (least_top s.counts.objects no_key (holder_key_at s h))
        (λ i a b. (let w = G.locks.inside i a b in least-le s.counts.objects no_key (holder_key_at s h) (at list i) w.0 w.1))
