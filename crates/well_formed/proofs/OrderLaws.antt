-- The order of the holders, by the set of them all. First where no holder has to be looked at, and a block of objects more; then one lock: only the first
-- of those that its ceiling reaches holds it, if and only if each holder that is more urgent than one of the lock's is more urgent than what it weighs;
-- then the state: each object is in order if and only if the holders are, as the clause words it.
-- Assumes nothing.
use mathlib.Core.Path.{◌≡◌, refl, sym, ap, ap₂, ◌∙◌}
use mathlib.Core.Bool.{Bool, true, false, not, ◌&&◌, ◌||◌}
use Prim.Native.Nat.{ℕ, ◌+◌, ◌^◌, ◌≤◌, ◌<◌, min}
use native.Mathlib.Omega.{arith}
use native.Mathlib.Decide.{dec_le}
use lib.Dec.{ltb}
use lib.Bits.{bit_and, and_zero_l, and_zero_r}
use borrow.Author.Tests.{eqb-true, eq-eqb, ltb-true, ltb-false, lt-ltb, le-ltb, not-true}
use Rattle.std.proofs.lemmas.Bool.Decides.{nat_tests}
use Rattle.basics.specs.Choice.{same_test, and_true, and_left, and_right}
use Rattle.basics.specs.Loops.{every, every-at, every_true, every-and}
use Rattle.basics.specs.Arrays.{at}
use Rattle.ranks.specs.Ranks.{word_bits, is_empty, member, first, union, but_first, disjoint, before, unions}
use Rattle.ranks.specs.RankLaws.{member_pos, member-le, member-minus, disjoint-member, member-disjoint}
use Rattle.ranks.specs.UnionLaws.{below_power, union_left, union_right, le-union, empty_union, in_unions}
use Rattle.ranks.specs.FirstLaws.{member-before, but_first_later, later_but_first}
use Rattle.state.specs.declared.State.{State}
use Rattle.state.specs.State.{most_objects, read, write, holders, holders_any, all_holders, is_holder, shares_with_none}
use Rattle.state.specs.Weights.{weight, ceiling_of, write_ceiling_of}
use Rattle.state.specs.WellFormed.{above_lock, above_locks, in_order, holders_in_order}
use Rattle.state.specs.WeightLaws.{weighing_ceiling}
use Rattle.well_formed.proofs.LoopLaws.{block_more}
use Rattle.well_formed.specs.Survey.{block_size, reached, only_first, weighs_by, readers_ordered, writers_ordered, object_ordered}

-- ---- where no holder has to be looked at

-- a ceiling reaches holders only
reached_held : (held declared r : ℕ) → member (reached held declared) r ≡ true → member held r ≡ true
reached_held held declared r m = and_left (member held r) (not (member (before declared) r)) (sym (member-minus held (before declared) r) ∙ m)

-- who comes after one that a ceiling reaches comes after a holder
reached_later : (held declared r : ℕ) → member (but_first (reached held declared)) r ≡ true → member (but_first held) r ≡ true
reached_later held declared r m =
    let later = but_first_later (reached held declared) r m in
    later_but_first held later.1.0 r (reached_held held declared later.1.0 later.1.1) (reached_held held declared r later.0) later.1.2

-- a lock that nobody holds but the most urgent holder
first_alone : (held declared locked : ℕ) → disjoint locked (but_first held) ≡ true → only_first held declared locked ≡ true
first_alone held declared locked d =
    member-disjoint locked locked (but_first (reached held declared)) (below_power locked)
    (λ r l m later. disjoint-member locked (but_first held) r d m (reached_later held declared r later))

-- any object where there is one holder
pub one_holder : (held : ℕ) (s : State) (o : ℕ) → is_empty (but_first held) ≡ true → object_ordered held s o ≡ true
one_holder held s o e =
    and_true (readers_ordered held s o) (writers_ordered held s o) (lock (weighs_by false s o) (at s.readers o)) (lock (weighs_by true s o) (at s.writers o))
  where
    lock : (declared locked : ℕ) → only_first held declared locked ≡ true
    lock declared locked = first_alone held declared locked (eq-eqb (bit_and locked (but_first held)) 0 (ap (bit_and locked) (eqb-true (but_first held) 0 e) ∙ and_zero_r locked))

-- n locks that together nobody holds but the most urgent holder
pub first_alone_all : (n held : ℕ) (declared locked : ℕ → ℕ) → disjoint (unions n locked) (but_first held) ≡ true
    → every n (λ k. only_first held (declared k) (locked k)) ≡ true
first_alone_all n held declared locked d =
    every_true n (λ k. only_first held (declared k) (locked k)) (λ k a b. first_alone held (declared k) (locked k)
    (member-disjoint (locked k) (locked k) (but_first held) (below_power (locked k))
    (λ r l m later. disjoint-member (unions n locked) (but_first held) r d (in_unions n locked r k a b m) later)))

-- ---- a block of objects more, behind the first i

pub ordered_more : (i m wrong reading writing : ℕ) (p q : ℕ → Bool) → i + block_size ≡ m → is_empty wrong ≡ every i (λ o. p o && q o)
    → is_empty reading ≡ every block_size (λ k. p (i + k)) → is_empty writing ≡ every block_size (λ k. q (i + k))
    → is_empty (union wrong (union reading writing)) ≡ every m (λ o. p o && q o)
ordered_more i m wrong reading writing p q end e f g =
    block_more i block_size m wrong (union reading writing) (λ o. p o && q o) end e
    (empty_union reading writing ∙ ap₂ ◌&&◌ f g ∙ sym (every-and block_size (λ k. p (i + k)) (λ k. q (i + k))))

-- ---- one lock: its holders are among all holders; a job that is more urgent than one of them is more urgent than what the lock weighs if and only if
-- it is more urgent than the declared ranks

module _ (jobs held declared locked : ℕ) (weighs : ℕ → ℕ) (few : jobs ≤ word_bits) (small : held < 2 ^ jobs)
    (inside : (r : ℕ) → member locked r ≡ true → member held r ≡ true)
    (same : (a b : ℕ) → a ≤ jobs → a < b → ltb a (weighs b) ≡ ltb a (first word_bits declared)) where
  -- a is more urgent than what the lock weighs for b, if b holds it
  abbrev above : ℕ → ℕ → Bool
  above a b = not (member locked b) || ltb a (weighs b)

  rank : (r : ℕ) → member held r ≡ true → (1 ≤ r) × (r ≤ jobs)
  rank r m = (member_pos held r m, member-le jobs held r small m)

  -- the holders that are no more urgent than the declared ranks are reached, and they alone
  in_reach : (r : ℕ) → member held r ≡ true → first word_bits declared ≤ r → member (reached held declared) r ≡ true
  in_reach r m l =
      member-minus held (before declared) r
      ∙ and_true (member held r) (not (member (before declared) r)) m
      (ap not (member-before declared r (rank r m).0 (omega (arith, (rank r m).1)) ∙ le-ltb r (first word_bits declared) l))

  reach_below : (r : ℕ) → member (reached held declared) r ≡ true → first word_bits declared ≤ r
  reach_below r i =
      let m = reached_held held declared r i in
      let out = not-true (member (before declared) r) (and_right (member held r) (not (member (before declared) r)) (sym (member-minus held (before declared) r) ∙ i)) in
      ltb-false r (first word_bits declared) (sym (member-before declared r (rank r m).0 (omega (arith, (rank r m).1))) ∙ out)

  pub first_above : only_first held declared locked ≡ true → (a b : ℕ) → member held a ≡ true → a < b → above a b ≡ true
  first_above order a b m l = go (member locked b) refl
    where
      go : (t : Bool) → member locked b ≡ t → not t || ltb a (weighs b) ≡ true
      go false e = refl
      go true e = same a b (rank a m).1 l ∙ lt-ltb a (first word_bits declared) (elim (dec_le (first word_bits declared) a) [
        | yes u ↦ absurd (disjoint-member locked (but_first (reached held declared)) b order e
            (later_but_first (reached held declared) a b (in_reach a m u) (in_reach b (inside b e) (omega arith)) l))
        | no d ↦ omega arith
      ])

  pub above_first : ((a b : ℕ) → member held a ≡ true → member held b ≡ true → a < b → above a b ≡ true) → only_first held declared locked ≡ true
  above_first order = member-disjoint locked locked (but_first (reached held declared)) (below_power locked) (λ r l m later. (
      let w = but_first_later (reached held declared) r later in
      let holder = reached_held held declared w.1.0 w.1.1 in
      let over = ap (λ (t : Bool). not t || ltb w.1.0 (weighs r)) (sym m) ∙ order w.1.0 r holder (inside r m) w.1.2 in
      let under = ltb-true w.1.0 (first word_bits declared) (sym (same w.1.0 r (rank w.1.0 holder).1 w.1.2) ∙ over) in
      omega (arith, under, reach_below w.1.0 w.1.1)))

-- ---- the state: its locks are on the table's objects, and its holders are jobs of the table

module _ (s : State) (few : s.counts.jobs ≤ word_bits) (small : all_holders s.readers s.writers < 2 ^ s.counts.jobs)
    (none : (o : ℕ) → s.counts.objects < o → o ≤ most_objects → holders_any s o ≡ 0) where
  abbrev held : ℕ
  held = all_holders s.readers s.writers

  -- the mode of a read lock, and of a write lock
  abbrev mode : Bool → ℕ
  mode false = read
  mode true = write

  -- nobody, who may be what a lock weighs, is past every job
  below_ceiling : (declared a : ℕ) → a ≤ s.counts.jobs → ltb a (ceiling_of s.counts declared) ≡ ltb a (first word_bits declared)
  below_ceiling declared a l =
      grind (arith, nat_tests)

  -- a read lock weighs its ceiling with its holder's rank as the cap
  weighs : (writing : Bool) (o a b : ℕ) → a ≤ s.counts.jobs → a < b → ltb a (weight s (mode writing) b o) ≡ ltb a (first word_bits (weighs_by writing s o))
  unfolding weight
  weighs false o a b l h = capped (write_ceiling_of s o) ∙ below_ceiling (weighs_by false s o) a l
    where
      capped : (ceiling : ℕ) → ltb a (min ceiling b) ≡ ltb a ceiling
      capped ceiling = grind (arith, nat_tests)
  weighs true o a b l h =
      ap (ltb a) (sym (weighing_ceiling s.counts (shares_with_none s o) (at s.may_read o) (at s.may_write o))) ∙ below_ceiling (weighs_by true s o) a l

  -- the law of one lock, for the read locks and the write locks on an object
  module _ (o : ℕ) (low : 1 ≤ o) (high : o ≤ most_objects) where
    -- whoever holds it is among the holders
    among : (writing : Bool) (r : ℕ) → member (holders s (mode writing) o) r ≡ true → is_holder s r ≡ true
    unfolding all_holders
    among false r m = in_unions most_objects (holders_any s) r o low high (union_left (holders s read o) (holders s write o) r m)
    among true r m = in_unions most_objects (holders_any s) r o low high (union_right (holders s read o) (holders s write o) r m)

    abbrev lock_ordered : Bool → Bool
    lock_ordered writing = only_first held (weighs_by writing s o) (holders s (mode writing) o)

    abbrev above_both : ℕ → ℕ → Bool
    above_both a b = above_lock s a b read o && above_lock s a b write o

    ordered_above : lock_ordered false && lock_ordered true ≡ true → (a b : ℕ) → is_holder s a ≡ true → a < b → above_both a b ≡ true
    ordered_above t a b m l =
        and_true (above_lock s a b read o) (above_lock s a b write o) (above_all false (and_left _ _ t)) (above_all true (and_right (lock_ordered false) _ t))
      where
        above_all : (writing : Bool) → lock_ordered writing ≡ true → above_lock s a b (mode writing) o ≡ true
        above_all w t =
            first_above s.counts.jobs held (weighs_by w s o) (holders s (mode w) o) (λ r. weight s (mode w) r o) few small (among w) (weighs w o) t a b m l

    above_ordered : ((a b : ℕ) → is_holder s a ≡ true → is_holder s b ≡ true → a < b → above_both a b ≡ true) → lock_ordered false && lock_ordered true ≡ true
    above_ordered above =
        and_true (lock_ordered false) (lock_ordered true)
        (all_above false (λ a b m k l. and_left _ _ (above a b m k l)))
        (all_above true (λ a b m k l. and_right (above_lock s a b read o) (above_lock s a b write o) (above a b m k l)))
      where
        all_above : (writing : Bool) → ((a b : ℕ) → is_holder s a ≡ true → is_holder s b ≡ true → a < b → above_lock s a b (mode writing) o ≡ true)
            → lock_ordered writing ≡ true
        all_above w = above_first s.counts.jobs held (weighs_by w s o) (holders s (mode w) o) (λ r. weight s (mode w) r o) few small (among w) (weighs w o)

    -- an object without locks is in order
    unlocked_ordered : holders_any s o ≡ 0 → lock_ordered false && lock_ordered true ≡ true
    unlocked_ordered e =
        let free = le-union (holders s read o) (holders s write o) in
        and_true (lock_ordered false) (lock_ordered true) (nobody_ordered (weighs_by false s o) (holders s read o) (omega (arith, free.0)))
        (nobody_ordered (weighs_by true s o) (holders s write o) (omega (arith, free.1)))
      where
        nobody_ordered : (declared locked : ℕ) → locked ≡ 0 → only_first held declared locked ≡ true
        nobody_ordered declared locked z =
            let later = but_first (reached held declared) in
            eq-eqb (bit_and locked later) 0 (ap (λ (n : ℕ). bit_and n later) z ∙ and_zero_l later)

  -- the objects looked at: the table's, and maybe more
  module _ (n : ℕ) (all : s.counts.objects ≤ n) (most : n ≤ most_objects) where
    abbrev ordered : ℕ → Bool
    ordered = object_ordered held s

    abbrev pair : ℕ → ℕ → Bool
    pair a b = is_holder s a && is_holder s b && ltb a b

    ordered_order : every n ordered ≡ true → holders_in_order s ≡ true
    unfolding holders_in_order
    ordered_order t = every_true s.counts.jobs _ (λ b p q. every_true s.counts.jobs (λ a. in_order s a b) (λ a u v. go a b (pair a b) refl))
      where
        go : (a b : ℕ) (x : Bool) → pair a b ≡ x → not x || above_locks s a b ≡ true
        go a b false e = refl
        go a b true e =
            let a_holds = and_left (is_holder s a) (is_holder s b) (and_left (is_holder s a && is_holder s b) (ltb a b) e) in
            let less = ltb-true a b (and_right (is_holder s a && is_holder s b) (ltb a b) e) in
            every_true s.counts.objects (λ o. above_lock s a b read o && above_lock s a b write o) (λ o p q.
            ordered_above o p (omega arith) (every-at n ordered o t p (omega arith)) a b a_holds less)

    order_ordered : holders_in_order s ≡ true → every n ordered ≡ true
    unfolding holders_in_order
    order_ordered t = every_true n ordered (λ o p q. elim (dec_le o s.counts.objects) [
      | yes l ↦ above_ordered o p (omega arith) (λ a b m k less. every-at s.counts.objects (λ o. above_lock s a b read o && above_lock s a b write o) o (locks a b m k less) p l)
      | no d ↦ unlocked_ordered o p (omega arith) (none o (omega arith) (omega arith))
    ])
      where
        rank : (r : ℕ) → is_holder s r ≡ true → (1 ≤ r) × (r ≤ s.counts.jobs)
        rank r m = (member_pos held r m, member-le s.counts.jobs held r small m)

        locks : (a b : ℕ) → is_holder s a ≡ true → is_holder s b ≡ true → a < b → above_locks s a b ≡ true
        locks a b m k less =
            let here = every-at s.counts.jobs (λ a. in_order s a b) a
            (every-at s.counts.jobs (λ b. every s.counts.jobs (λ a. in_order s a b)) b t (rank b k).0 (rank b k).1) (rank a m).0 (rank a m).1 in
            simp (m, k, lt-ltb a b less) at here

    pub ordered_clause : every n ordered ≡ holders_in_order s
    ordered_clause = same_test (every n ordered) (holders_in_order s) ordered_order order_ordered
