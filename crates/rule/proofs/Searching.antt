-- The steps of the wake search: a rank that does not wait or that a lock stops is passed, and the first of which neither is so is woken.
-- Assumes nothing.
use mathlib.Core.Path.{◌≡◌, refl, sym, ap, ◌∙◌}
use mathlib.Core.Logic.{◌≢◌}
use mathlib.Core.Bool.{Bool, true, false, not, ◌&&◌}
use mathlib.Core.List.{List}
use Prim.Native.Nat.{ℕ, zero, suc, ◌+◌, ◌-◌, ◌*◌, ◌/◌, ◌≤◌, ◌<◌}
use native.Mathlib.Omega.{arith}
use native.Mathlib.Decide.{dec_le, dec_lt}
use lib.Dec.{eqb, ltb, leb}
use borrow.Author.Tests.{eqb-true, eqb-false, ne_eqb, eq-eqb, lt-ltb, le-ltb, ltb-true, ltb-false, leb-true, leb-false}
use Rattle.std.specs.Prelude.{if◌then◌else◌}
use Rattle.basics.specs.Loops.{every, every-at, least, least-le, least_more, first_nonzero, first_nonzero_none, first_nonzero_at, all_zero_first}
use Rattle.basics.specs.Arrays.{at}
use Rattle.ranks.specs.Ranks.{member}
use Rattle.state.specs.declared.State.{State}
use Rattle.state.specs.State.{most_jobs, request_of, is_waiting}
use Rattle.state.specs.Holders.{HolderFacts, carried_small}
use Rattle.weights.specs.Keys.{no_key}
use Rattle.one_holder.specs.OneHolder.{holder_key_at, holder_key, deciding_key, passes_lock, against_other}
use Rattle.one_holder.specs.OneHolderLaws.{deciding, own_high}
use Rattle.one_holder.specs.PassingLaws.{passes_lock_lem}
use Rattle.one_holder.specs.Gathering.{LocksOf, HeldTo, gathered_key}
use Rattle.rule.specs.Granting.{passes_below, passes, wakes, named_key_of, conflicts, reason_of}
use Rattle.rule.specs.WakeLaws.{not_counting, all_stopped, IdleTo, NextWaiting, found_next}

-- ---- the named key

pub named_none : (request key j : ℕ) → request ≡ 0 → no_key ≡ named_key_of request key j
named_none request key j e = simp (eq-eqb request 0 e)

pub named_passes : (request key j : ℕ) → request ≢ 0 → passes_below j key ≡ true → no_key ≡ named_key_of request key j
named_passes request key j w e = simp (ne_eqb request 0 w, e)

pub named_stopped : (request key j : ℕ) → request ≢ 0 → passes_below j key ≡ false → key ≡ named_key_of request key j
named_stopped request key j w e = simp (ne_eqb request 0 w, e)

-- ---- the reason

module _ (version m o h p : ℕ) (none : Bool) (writers ceiling : ℕ) where
  abbrev conflicting : Bool
  conflicting = eqb p o && conflicts version m (member writers h) none

  abbrev caps : Bool
  caps = not (member writers h) && ltb h ceiling

  pub conflict : conflicting ≡ true → 1 ≡ reason_of version m o h p none writers ceiling
  conflict e = simp e

  pub cap : conflicting ≡ false → caps ≡ true → 3 ≡ reason_of version m o h p none writers ceiling
  cap e d = simp (e, d)

  pub else_ceiling : conflicting ≡ false → caps ≡ false → 2 ≡ reason_of version m o h p none writers ceiling
  else_ceiling e d = simp (e, d)

-- ---- the search

-- the rank that is tried next comes no earlier than j, and up to it nobody from j on is the holder
pub all_stopped_lem : (holder j jobs : ℕ) → j ≤ jobs
    → (j ≤ all_stopped holder j jobs) × (all_stopped holder j jobs ≤ jobs) × ((i : ℕ) → j ≤ i → i ≤ all_stopped holder j jobs → holder ≢ j → holder ≢ i)
all_stopped_lem holder j jobs l = go (ltb j holder) refl (leb holder jobs) refl
  where
    go : (a : Bool) → ltb j holder ≡ a → (b : Bool) → leb holder jobs ≡ b
        → (j ≤ (if a && b then holder - 1 else jobs)) × ((if a && b then holder - 1 else jobs) ≤ jobs)
        × ((i : ℕ) → j ≤ i → i ≤ (if a && b then holder - 1 else jobs) → holder ≢ j → holder ≢ i)
    go true e true f = let a = ltb-true j holder e in let b = leb-true holder jobs f in (omega arith, omega arith, λ i p q d r. omega arith)
    go true e false f = let b = leb-false holder jobs f in (omega arith, omega arith, λ i p q d r. omega arith)
    go false e b f = let a = ltb-false j holder e in (omega arith, omega arith, λ i p q d r. d (omega arith))

-- of so many locks of the holder, on the objects of a list, by the key on each: j is the holder, and all locks are passed, or it is more urgent than those passed
pub record LetBy (own : ℕ → ℕ) (list : List ℕ) (holder count j done : ℕ) : Type 0 where
  pub few : done ≤ count
  pub all : holder ≡ j → done ≡ count
  pub above : holder ≢ j → (j + 1) * 65536 ≤ least done no_key (λ k. own (at list k))

-- a lock that is not passed yet is another's
pub let_other : {own : ℕ → ℕ} {list : List ℕ} {holder count j done : ℕ} → LetBy own list holder count j done → done < count → holder ≢ j
let_other L l e = omega (arith, L.all e)

pub let_none : (own : ℕ → ℕ) (list : List ℕ) (holder count j : ℕ) → j ≤ most_jobs → LetBy own list holder count j (not_counting holder count j)
unfolding least
let_none own list holder count j high = go (eqb holder j) refl
  where
    go : (b : Bool) → eqb holder j ≡ b → LetBy own list holder count j (if b then count else 0)
    go true e = record { few = omega arith; all = λ q. refl; above = λ d. absurd (d (eqb-true holder j e)) }
    go false e = record { few = omega arith; all = λ q. absurd (eqb-false holder j e q); above = λ d. omega arith }

-- one more is passed
pub let_more : (own : ℕ → ℕ) (list : List ℕ) (holder count j done : ℕ) → LetBy own list holder count j done → done < count
    → passes_below j (own (at list (done + 1))) ≡ true → LetBy own list holder count j (done + 1)
let_more own list holder count j done L l b = record {
  few = omega arith;
  all = λ e. absurd (let_other L l e);
  above = λ n. omega (arith, L.above n, ltb-true j (own (at list (done + 1)) / 65536) b, least_more done no_key (λ k. own (at list k)));
}

module _ (s : State) (H : HolderFacts s) where
  abbrev woken : ℕ → ℕ
  woken = wakes s

  -- the key of the s.holder's lock on an object
  abbrev own : ℕ → ℕ
  own = holder_key_at s s.holder

  -- the most urgent s.holder's locks decide
  passes_by : (j : ℕ) → j ≤ most_jobs → passes_below j (deciding_key s j) ≡ passes s j
  passes_by j high = (deciding s H j high).same

  -- where none up to n is woken and none behind it waits, none up to m is woken
  passed_to : (n m : ℕ) → first_nonzero n woken ≡ 0 → IdleTo s.request n m → (i : ℕ) → 1 ≤ i → i ≤ m → woken i ≡ 0
  passed_to n m passed idle i a b = elim (dec_le i n) [
    | yes l ↦ first_nonzero_none n woken i passed a l
    | no l ↦ simp (idle i (omega arith) b)
  ]

  pub none_left : (n : ℕ) → first_nonzero n woken ≡ 0 → IdleTo s.request n s.counts.jobs → 0 ≡ first_nonzero s.counts.jobs woken
  none_left n passed idle = sym (all_zero_first s.counts.jobs woken (passed_to n s.counts.jobs passed idle))

  -- a rank that is not woken, since it meets a key that it does not pass
  not_woken : (i key : ℕ) → i ≤ most_jobs → deciding_key s i ≡ key → passes_below i key ≡ false → woken i ≡ 0
  not_woken i key high e b = go (is_waiting s i) (passes s i) (sym (passes_by i high) ∙ ap (passes_below i) e ∙ b)
    where
      go : (a b : Bool) → b ≡ false → (if a && b then i else 0) ≡ 0
      go true b e = simp e
      go false b e = refl

  -- where nobody up to the most urgent s.holder waits, its locks stop whoever does
  pub none_above : s.counts.jobs ≤ most_jobs → (w : ℕ) → NextWaiting s.request 0 s.counts.jobs w → s.holder ≢ 0 → s.holder < w → 0 ≡ first_nonzero s.counts.jobs woken
  none_above few w next some behind = sym (all_zero_first s.counts.jobs woken (λ i a b. each i a b (dec_lt i w)))
    where
      first : (0 < w) × (w ≤ s.counts.jobs) × (at s.request w ≢ 0) × IdleTo s.request 0 (w - 1)
      first = found_next s.request 0 s.counts.jobs w next (λ e. omega arith)

      each : (i : ℕ) → 1 ≤ i → i ≤ s.counts.jobs → Dec (i < w) → woken i ≡ 0
      each i a b (yes l) = simp (first.3 i (omega arith) (omega arith))
      each i a b (no l) =
          not_woken i (holder_key s s.holder) (omega arith) (against_other s.holder (holder_key s s.holder) i (λ e. omega arith))
          (le-ltb i (holder_key s s.holder / 65536) (omega (arith, own_high s H some, carried_small s H)))

  module _ (list : List ℕ) (count : ℕ) (G : LocksOf s.readers s.writers s.holder s.counts.objects list count) where
    -- the lowest over the gathered objects
    gathered : least count no_key (λ k. own (at list k)) ≡ holder_key s s.holder
    gathered = gathered_key s s.holder list count G

    -- whether j is more urgent than a gathered lock is whether it passes its key
    pub passes_gathered : (j k : ℕ) → j ≤ s.counts.jobs → s.counts.jobs ≤ most_jobs → 1 ≤ k → k ≤ count
        → HeldTo s.readers s.writers s.holder list count
        → passes_below j (own (at list k)) ≡ passes_lock s.counts.version s.may_read s.may_write s.writers s.certified (at list k) s.holder j
    passes_gathered j k high few a b held = sym (passes_lock_lem s H j high few s.holder (at list k) (held k a b))

    -- a lock that stops j stops whoever is less urgent and not the s.holder
    stopped : (j i k : ℕ) → j ≤ i → i ≤ most_jobs → s.holder ≢ i → 1 ≤ k → k ≤ count → passes_below j (own (at list k)) ≡ false → woken i ≡ 0
    stopped j i k l high d p h b =
        not_woken i (holder_key s s.holder) high (against_other s.holder (holder_key s s.holder) i d)
        (le-ltb i (holder_key s s.holder / 65536)
        (omega (arith, ltb-false j (own (at list k) / 65536) b, least-le count no_key (λ k. own (at list k)) k p h, gathered)))

    let_by : (j : ℕ) → j ≤ most_jobs → request_of s j ≢ 0 → LetBy own list s.holder count j count → woken j ≡ j
    let_by j high w L =
        let pass : passes s j ≡ true = sym (passes_by j high) ∙ decided (eqb s.holder j) refl in
        let waits : is_waiting s j ≡ true = ap not (ne_eqb (request_of s j) 0 w) in
        simp (waits, pass)
      where
        decided : (b : Bool) → eqb s.holder j ≡ b → passes_below j (if b then no_key else holder_key s s.holder) ≡ true
        decided true e = lt-ltb j (no_key / 65536) (omega arith)
        decided false e = lt-ltb j (holder_key s s.holder / 65536) (omega (arith, L.above (eqb-false s.holder j e), gathered))

    -- w is the first waiting rank behind n, and none up to n is woken
    module _ (n w : ℕ) (few : s.counts.jobs ≤ most_jobs) (passed : first_nonzero n woken ≡ 0)
        (next : (n < w) × (w ≤ s.counts.jobs) × (at s.request w ≢ 0) × IdleTo s.request n (w - 1)) where
      before : (i : ℕ) → 1 ≤ i → i < w → woken i ≡ 0
      before i a b = passed_to n (w - 1) passed next.3 i a (omega arith)

      -- a lock that stops it stops all up to the rank that is tried next
      pub pass_stopped : (k : ℕ) → s.holder ≢ w → 1 ≤ k → k ≤ count → passes_below w (own (at list k)) ≡ false → first_nonzero (all_stopped s.holder w s.counts.jobs) woken ≡ 0
      pass_stopped k d p h b = all_zero_first (all_stopped s.holder w s.counts.jobs) woken (λ i l r. each i l r (dec_lt i w))
        where
          last : (w ≤ all_stopped s.holder w s.counts.jobs) × (all_stopped s.holder w s.counts.jobs ≤ s.counts.jobs)
              × ((i : ℕ) → w ≤ i → i ≤ all_stopped s.holder w s.counts.jobs → s.holder ≢ w → s.holder ≢ i)
          last = all_stopped_lem s.holder w s.counts.jobs next.1

          each : (i : ℕ) → 1 ≤ i → i ≤ all_stopped s.holder w s.counts.jobs → Dec (i < w) → woken i ≡ 0
          each i l r (yes a) = before i l a
          each i l r (no a) = stopped w i k (omega arith) (omega (arith, last.1)) (last.2 i (omega arith) r d) p h b

      pub found : LetBy own list s.holder count w count → w ≡ first_nonzero s.counts.jobs woken
      found L = go w refl
        where
          is : woken w ≡ w
          is = let_by w (omega (arith, next.1)) next.2 L

          go : (v : ℕ) → w ≡ v → w ≡ first_nonzero s.counts.jobs woken
          go zero e = absurd (omega (arith, next.0))
          go (suc v) e =
              let none = all_zero_first v woken (λ i a b. before i a (omega arith)) in
              sym (first_nonzero_at v s.counts.jobs woken none (λ z. omega (arith, is, ap woken e, z)) (omega (arith, next.1)) ∙ ap woken (sym e) ∙ is)

  -- where nobody waits, nobody is woken
  pub none_woken : s.counts.jobs ≤ most_jobs → every most_jobs (λ r. eqb (at s.request r) 0) ≡ true → 0 ≡ first_nonzero s.counts.jobs woken
  none_woken few e =
      sym (all_zero_first s.counts.jobs woken (λ i a b. simp (every-at most_jobs (λ r. eqb (at s.request r) 0) i e a (omega arith))))
