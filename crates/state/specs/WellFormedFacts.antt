-- A state whose arrays have their lengths is well formed if and only if its facts hold: `facts_well_formed` and `facts`.
-- Then what the facts say of a lock and of a waiting job: they are of the table.
-- Assumes nothing.
use Rattle.std.specs.Prelude.{◌≡◌, ◌≢◌, ◌⊎◌, ◌&&◌, ◌||◌}
use Rattle.std.proofs.Math.Path.{refl, sym}
use Rattle.std.proofs.Common.{ap, ◌∙◌, ⊎_elim, eq-zero-or-pos}
use Rattle.std.proofs.Math.Logic.{inl, inr}
use Rattle.std.proofs.Math.Bool.{Bool, true, false, not}
use Prim.Native.Nat.{ℕ, ◌^◌, ◌≤◌, ◌<◌}
use native.Mathlib.Omega.{arith}
use Rattle.std.proofs.Math.Decide.{ℕ_discrete, dec_le}
use Rattle.std.proofs.Math.Dec.{eqb, ltb}
use Rattle.std.proofs.Math.Pow.{pow_pos}
use Rattle.std.specs.Int.Bits.{or_add_and, and_le_l, and_le_r}
use borrow.Author.Tests.{eqb-true, eq-eqb, ne_eqb, ltb-true, lt-ltb, not-true}
use Rattle.basics.specs.Choice.{between, clash, and_true, and_left, and_right, or_right, between_true, inside_between}
use Rattle.basics.specs.Loops.{every, every-at, every_true}
use Rattle.basics.specs.Arrays.{at, at_out}
use Rattle.ranks.specs.Ranks.{member, first, union, subset, at_most_one}
use Rattle.ranks.specs.RankLaws.{member_pos, member-le, member_empty, first_some, first_member, subset-member, member-subset, disjoint-member}
use Rattle.ranks.specs.RankLaws.{member-disjoint, one_member, member_one}
use Rattle.ranks.specs.UnionLaws.{union_left, union_right, union_either, union-lt, subset-le, empty_union, in_unions, unions_in}
use Rattle.state.specs.declared.State.{State}
use Rattle.state.specs.State.{most_jobs, most_objects, mark_words, read, write, certify, strongest, word_of, place_of, is_object, processor_of_job}
use Rattle.state.specs.State.{declared, declared_any, may_lock, holders, holders_any, all_holders, most_urgent_holder, is_holder}
use Rattle.state.specs.State.{holds, is_certified, shares_with_none, holds_already, is_active, has_unlocked, is_sleeping, request_of, requested_mode, requested_object}
use Rattle.state.specs.WellFormed.{processor_fits, processors_fit, declaration_fits, declarations_fit, of_jobs, declared_of_jobs, above_idle}
use Rattle.state.specs.WellFormed.{held_by_active, held_by_right, locks_fit, locked_once, one_lock_each, alone, written_alone, writers_alone}
use Rattle.state.specs.WellFormed.{holds_before, may_await, wait_fits, waits_fit, marks_fit, certify_fits, certifies_fit, waits_awake, sleepers_fit, holder_fits, above_lock, above_locks, in_order, holders_in_order, well_formed}
use Rattle.state.specs.Clauses.{Clauses, clauses, well_formed_lem, counts_within_lem, within_counts}
use Rattle.state.specs.Modes.{either_mode}
use Rattle.state.specs.Facts.{Sized, In, Alone, LockFacts, RequestFacts, InOrder, Facts}
use Rattle.state.specs.Weights.{weight}

-- nothing is in an empty set
pub none_in : (set r : ℕ) → set ≡ 0 → In set r → ⊥
none_in set r e i = clash (ap (λ v. member v r) (sym e) ∙ i) (member_empty r)

-- ---- who writes is alone

alone_true : (n : Bool) (k r w : ℕ) → r < 2 ^ k → w < 2 ^ k → Alone n r w → alone n r w ≡ true
alone_true n k r w hr hw f =
    and_true _ _ (member_one k w hw (λ a b i j. (f a b i).0 j)) (unshared (eq-zero-or-pos w) (eq-zero-or-pos r) n f)
  where
    unshared : (w ≡ 0) ⊎ (0 < w) → (r ≡ 0) ⊎ (0 < r) → (n : Bool) → Alone n r w → eqb w 0 || (not n || eqb r 0) ≡ true
    unshared (inl z) q n g = simp (eq-eqb w 0 z)
    unshared (inr p) (inl z) n g = or_right (eqb w 0) _ (or_right (not n) _ (eq-eqb r 0 z))
    unshared (inr p) (inr q) false g = or_right (eqb w 0) _ refl
    unshared (inr p) (inr q) true g =
        absurd ((g (first k w) (first k r) (first_member k w (first_some k w p hw))).1 refl (first_member k r (first_some k r q hr)))

true_alone : (n : Bool) (r w : ℕ) → alone n r w ≡ true → Alone n r w
true_alone n r w e a b i =
    (λ j. one_member w a b (and_left (at_most_one w) _ e) i j, λ q j. go (eqb w 0) refl n q (and_right (at_most_one w) _ e) j)
  where
    go : (t : Bool) → eqb w 0 ≡ t → (n : Bool) → n ≡ true → t || (not n || eqb r 0) ≡ true → In r b → ⊥
    go true p n y z j = none_in w a (eqb-true w 0 p) i
    go false p true y z j = none_in r b (eqb-true r 0 z) j
    go false p false y z j = clash refl (sym y)

-- ---- the facts pass the test

module _ (s : State) (F : Facts s) where
  declaration_test : (o : ℕ) → declaration_fits s o ≡ true
  declaration_test o = go (is_object s o) refl
    where
      go : (b : Bool) → is_object s o ≡ b → b || eqb (declared_any s o) 0 ≡ true
      go true e = refl
      go false e =
          simp (
            empty_union,
            eq-eqb (declared s read o) 0 (F.declared_objects read o e),
            eq-eqb (declared s write o) 0 (F.declared_objects write o e),
          )

  above_test : above_idle s ≡ true
  unfolding above_idle
  above_test =
      and_true _ _ (lt-ltb s.active (2 ^ s.counts.jobs) F.active_jobs)
      (every_true most_objects (declared_of_jobs s) (λ o a b. lt-ltb (declared_any s o) (2 ^ s.counts.jobs)
      (union-lt s.counts.jobs (declared s read o) (declared s write o) (F.declared_jobs read o) (F.declared_jobs write o))))

  active_test : (o : ℕ) → held_by_active s o ≡ true
  active_test o =
      let L = F.locks o in
      member-subset s.counts.jobs (holders_any s o) s.active
      (union-lt s.counts.jobs (holders s read o) (holders s write o) (L.jobs read) (L.jobs write))
      (λ r l i. ⊎_elim (L.active read r) (L.active write r) (union_either (holders s read o) (holders s write o) r i))

  right_test : (o : ℕ) → held_by_right s o ≡ true
  right_test o =
      let L = F.locks o in
      let one : (m : ℕ) → subset (holders s m o) (declared s m o) ≡ true =
      λ m. member-subset s.counts.jobs (holders s m o) (declared s m o) (L.jobs m) (λ r l. L.right m r) in
      and_true _ _ (one read) (one write)

  locks_test : locks_fit s ≡ true
  unfolding locks_fit
  locks_test =
      and_true _ _ (every_true most_objects (held_by_active s) (λ o a b. active_test o))
      (every_true most_objects (held_by_right s) (λ o a b. right_test o))

  once_test : (o : ℕ) → locked_once s o ≡ true
  once_test o =
      let L = F.locks o in
      member-disjoint s.counts.jobs (holders s read o) (holders s write o) (L.jobs read) (λ r l. L.once r)

  alone_test : (o : ℕ) → written_alone s o ≡ true
  alone_test o =
      let L = F.locks o in
      alone_true (shares_with_none s o) s.counts.jobs (holders s read o) (holders s write o) (L.jobs read) (L.jobs write) L.alone

  certify_test : (o : ℕ) → certify_fits s o ≡ true
  certify_test o = go (is_certified s o) refl
    where
      go : (b : Bool) → is_certified s o ≡ b → not b || (eqb s.counts.version 2 && not (eqb (holders s write o) 0)) ≡ true
      go false e = refl
      go true e =
          let c = (F.locks o).certified e in
          simp (eq-eqb s.counts.version 2 c.0, ne_eqb (holders s write o) 0 (λ z. none_in (holders s write o) c.1.0 z c.1.1))

  request_test : (m r o : ℕ) → RequestFacts s m r o → may_await s m r o ≡ true
  request_test m r o A =
      let known = inside_between read (strongest s.counts.version) m A.mode.0 A.mode.1 in
      let object = inside_between 1 s.counts.objects o A.object.0 A.object.1 in
      let asks : between read (strongest s.counts.version) m && is_object s o && is_active s r && not (has_unlocked s r) && may_lock s m r o ≡ true =
      simp (known, object, A.active, A.not_unlocked, A.right) in
      and_true _ _ (and_true _ _ asks (ap not A.new)) (written (eqb m certify) refl)
    where
      written : (b : Bool) → eqb m certify ≡ b → not b || holds s write r o ≡ true
      written true e = A.before (eqb-true m certify e)
      written false e = refl

  wait_test : (r : ℕ) → wait_fits s r ≡ true
  wait_test r = elim (ℕ_discrete (request_of s r) 0) [
    | yes e ↦ simp (eq-eqb (request_of s r) 0 e)
    | no n ↦ simp (ne_eqb (request_of s r) 0 n) (request_test (requested_mode s r) r (requested_object s r) (F.requests r n))
  ]

  awake_test : (r : ℕ) → waits_awake s r ≡ true
  awake_test r = elim (ℕ_discrete (request_of s r) 0) [
    | yes e ↦ simp (eq-eqb (request_of s r) 0 e)
    | no n ↦ simp (ne_eqb (request_of s r) 0 n, (F.requests r n).awake)
  ]

  -- who is among all holders holds an object
  holder_of : (r : ℕ) → is_holder s r ≡ true → (m : ℕ) × (o : ℕ) × In (holders s m o) r
  unfolding all_holders
  holder_of r i =
      let w = unions_in most_objects (holders_any s) r i in
      elim (union_either (holders s read w.0) (holders s write w.0) r w.3) [ inl j ↦ (read, w.0, j) | inr j ↦ (write, w.0, j) ]

  lock_test : (a b m o : ℕ) → (In (holders s m o) b → a < weight s m b o) → above_lock s a b m o ≡ true
  lock_test a b m o above = go (holds s m b o) refl
    where
      go : (t : Bool) → holds s m b o ≡ t → not t || ltb a (weight s m b o) ≡ true
      go false e = refl
      go true e = lt-ltb a (weight s m b o) (above e)

  order_test : (a b : ℕ) → in_order s a b ≡ true
  order_test a b = go (is_holder s a && is_holder s b && ltb a b) refl
    where
      go : (t : Bool) → is_holder s a && is_holder s b && ltb a b ≡ t → not t || above_locks s a b ≡ true
      go false e = refl
      go true e =
          let holding = holder_of a (and_left (is_holder s a) (is_holder s b) (and_left (is_holder s a && is_holder s b) (ltb a b) e)) in
          let less = ltb-true a b (and_right (is_holder s a && is_holder s b) (ltb a b) e) in
          let each : (m o : ℕ) → above_lock s a b m o ≡ true =
          λ m o. lock_test a b m o (λ i. F.order a holding.0 holding.1 b m o holding.2 i less) in
          every_true s.counts.objects _ (λ o l h. and_true _ _ (each read o) (each write o))

  facts_clauses : Clauses s
  unfolding processors_fit declarations_fit one_lock_each writers_alone waits_fit marks_fit certifies_fit sleepers_fit holder_fits holders_in_order
  facts_clauses =
      record {
        counts = within_counts s.counts F.counts;
        processors = every_true s.counts.jobs (processor_fits s) (λ r a b. lt-ltb (processor_of_job s r) s.counts.processors (F.processors r a b));
        declarations = every_true most_objects (declaration_fits s) (λ o a b. declaration_test o);
        above = above_test;
        locks = locks_test;
        once = every_true most_objects (locked_once s) (λ o a b. once_test o);
        alone = every_true most_objects (written_alone s) (λ o a b. alone_test o);
        waits = every_true most_jobs (wait_fits s) (λ r a b. wait_test r);
        marks = member-subset s.counts.jobs s.unlocked s.active F.marks_jobs (λ r l. F.marks r);
        version = inside_between 1 2 s.counts.version F.version.0 F.version.1;
        certifies = every_true most_objects (certify_fits s) (λ o a b. certify_test o);
        sleepers =
            and_true _ _ (member-subset s.counts.jobs s.sleeping s.active F.sleepers_jobs (λ r l. F.sleepers r))
            (every_true most_jobs (waits_awake s) (λ r a b. awake_test r));
        holder = eq-eqb s.holder (most_urgent_holder s.readers s.writers) F.carried;
        order = every_true s.counts.jobs _ (λ b l h. every_true s.counts.jobs (λ a. in_order s a b) (λ a l h. order_test a b));
      }

  pub facts_well_formed : well_formed s ≡ true
  facts_well_formed = well_formed_lem s facts_clauses

-- ---- the test gives the facts

within : (n i : ℕ) → Dec ((1 ≤ i) × (i ≤ n))
within n i = elim (dec_le 1 i) [ yes a ↦ elim (dec_le i n) [ yes b ↦ yes (a, b) | no d ↦ no (λ q. d q.1) ] | no d ↦ no (λ q. d q.0) ]

module _ (s : State) (z : Sized s) (w : well_formed s ≡ true) where
  abbrev C : Clauses s
  C = clauses s w

  -- past the arrays of the table nobody is declared, and nobody holds a lock
  past_declared : (m o : ℕ) → ¬ ((1 ≤ o) × (o ≤ most_objects)) → declared s m o ≡ 0
  past_declared m o d =
      either_mode (λ f. f (at s.may_read o) (at s.may_write o) ≡ 0)
      (at_out s.may_read most_objects o z.may_read d) (at_out s.may_write most_objects o z.may_write d) m

  past_holders : (m o : ℕ) → ¬ ((1 ≤ o) × (o ≤ most_objects)) → holders s m o ≡ 0
  past_holders m o d =
      either_mode (λ f. f (at s.readers o) (at s.writers o) ≡ 0)
      (at_out s.readers most_objects o z.readers d) (at_out s.writers most_objects o z.writers d) m

  past_certified : (o : ℕ) → ¬ ((1 ≤ o) × (o ≤ most_objects)) → is_certified s o ≡ false
  past_certified o d =
      ap (λ v. member v (place_of o)) (at_out s.certified mark_words (word_of o) z.certified (λ q. d (omega arith))) ∙ member_empty (place_of o)

  -- what holds of both sets of declarations of an object holds of either mode's
  declared_part : (P : ℕ → Type 0) (o : ℕ) → P (declared s read o) → P (declared s write o) → (m : ℕ) → P (declared s m o)
  declared_part P o = either_mode (λ f. P (f (at s.may_read o) (at s.may_write o)))

  objects_fact : (m o : ℕ) → is_object s o ≡ false → declared s m o ≡ 0
  unfolding declarations_fit
  objects_fact m o e = elim (within most_objects o) [
    | yes i ↦
        let t = fits (is_object s o) e (every-at most_objects (declaration_fits s) o C.declarations i.0 i.1) in
        declared_part (λ v. v ≡ 0) o (eqb-true _ 0 (and_left _ _ t)) (eqb-true _ 0 (and_right (eqb (declared s read o) 0) _ t)) m
    | no d ↦ past_declared m o d
  ]
    where
      fits : (b : Bool) → b ≡ false → b || eqb (declared_any s o) 0 ≡ true → eqb (declared s read o) 0 && eqb (declared s write o) 0 ≡ true
      fits true q t = absurd (clash refl q)
      fits false q t = sym (empty_union (declared s read o) (declared s write o)) ∙ t

  active_fact : s.active < 2 ^ s.counts.jobs
  unfolding above_idle
  active_fact = ltb-true s.active (2 ^ s.counts.jobs) (and_left _ _ C.above)

  declared_fact : (m o : ℕ) → declared s m o < 2 ^ s.counts.jobs
  unfolding above_idle
  declared_fact m o = elim (within most_objects o) [
    | yes i ↦
        let reading = declared s read o in
        let writing = declared s write o in
        let all = every-at most_objects (declared_of_jobs s) o (and_right (of_jobs s s.active) _ C.above) i.0 i.1 in
        let both = ltb-true (union reading writing) (2 ^ s.counts.jobs) all in
        declared_part (λ v. v < 2 ^ s.counts.jobs) o (omega (arith, both, or_add_and reading writing, and_le_r reading writing))
        (omega (arith, both, or_add_and reading writing, and_le_l reading writing)) m
    | no d ↦ omega (arith, past_declared m o d, pow_pos s.counts.jobs)
  ]

  -- the locks on an object of the arrays
  inside_locks : (o : ℕ) → 1 ≤ o → o ≤ most_objects → LockFacts s o
  unfolding locks_fit one_lock_each writers_alone certifies_fit
  inside_locks o a b =
      let by_active = every-at most_objects (held_by_active s) o (and_left _ _ C.locks) a b in
      let by_right = every-at most_objects (held_by_right s) o (and_right (every most_objects (held_by_active s)) _ C.locks) a b in
      let reading = holders s read o in
      let writing = holders s write o in
      let active : (m r : ℕ) → In (holders s m o) r → In s.active r =
      either_mode (λ f. (r : ℕ) → In (f (at s.readers o) (at s.writers o)) r → In s.active r)
      (λ r i. subset-member (holders_any s o) s.active r by_active (union_left reading writing r i))
      (λ r i. subset-member (holders_any s o) s.active r by_active (union_right reading writing r i)) in
      let right : (m : ℕ) → subset (holders s m o) (declared s m o) ≡ true =
      either_mode (λ f. subset (f (at s.readers o) (at s.writers o)) (f (at s.may_read o) (at s.may_write o)) ≡ true)
      (and_left _ _ by_right) (and_right (subset reading (declared s read o)) _ by_right) in
      record {
        jobs = λ m. omega (arith, subset-le (holders s m o) (declared s m o) (right m), declared_fact m o);
        active = active;
        right = λ m r i. subset-member (holders s m o) (declared s m o) r (right m) i;
        once = λ r. disjoint-member reading writing r (every-at most_objects (locked_once s) o C.once a b);
        alone = true_alone (shares_with_none s o) reading writing (every-at most_objects (written_alone s) o C.alone a b);
        certified = λ e. certified (is_certified s o) e (every-at most_objects (certify_fits s) o C.certifies a b);
      }
    where
      certified : (b : Bool) → b ≡ true → not b || (eqb s.counts.version 2 && not (eqb (holders s write o) 0)) ≡ true
          → (s.counts.version ≡ 2) × ((r : ℕ) × In (holders s write o) r)
      certified false e t = absurd (clash e refl)
      certified true e t =
          let w = holders s write o in
          let some : 0 < w =
          elim (eq-zero-or-pos w) [ inl q ↦ absurd (clash (eq-eqb w 0 q) (not-true (eqb w 0) (and_right (eqb s.counts.version 2) _ t))) | inr q ↦ q ] in
          let small : w < 2 ^ s.counts.jobs = omega (
            arith,
            subset-le w (declared s write o) (and_right (subset (holders s read o) (declared s read o)) _
                (every-at most_objects (held_by_right s) o (and_right (every most_objects (held_by_active s)) _ C.locks) a b)),
            declared_fact write o,
          ) in (
            eqb-true s.counts.version 2 (and_left (eqb s.counts.version 2) _ t),
            (first s.counts.jobs w, first_member s.counts.jobs w (first_some s.counts.jobs w some small)),
          )

  outside_locks : (o : ℕ) → ¬ ((1 ≤ o) × (o ≤ most_objects)) → LockFacts s o
  outside_locks o d = record {
    jobs = λ m. omega (arith, past_holders m o d, pow_pos s.counts.jobs);
    active = λ m r i. absurd (none_in (holders s m o) r (past_holders m o d) i);
    right = λ m r i. absurd (none_in (holders s m o) r (past_holders m o d) i);
    once = λ r i. absurd (none_in (holders s read o) r (past_holders read o d) i);
    alone = λ a b i. absurd (none_in (holders s write o) a (past_holders write o d) i);
    certified = λ e. absurd (clash e (past_certified o d));
  }

  request_fact : (m r o : ℕ) → may_await s m r o ≡ true → is_sleeping s r ≡ false → RequestFacts s m r o
  request_fact m r o e awake =
      let t1 = between read (strongest s.counts.version) m in
      let t2 = t1 && is_object s o in
      let t3 = t2 && is_active s r in
      let t4 = t3 && not (has_unlocked s r) in
      let t5 = t4 && may_lock s m r o in
      let t6 = t5 && not (holds_already s m r o) in
      let e6 = and_left t6 (holds_before s m r o) e in
      let e5 = and_left t5 (not (holds_already s m r o)) e6 in
      let e4 = and_left t4 (may_lock s m r o) e5 in
      let e3 = and_left t3 (not (has_unlocked s r)) e4 in
      let e2 = and_left t2 (is_active s r) e3 in
      record {
        mode = between_true read (strongest s.counts.version) m (and_left t1 (is_object s o) e2);
        object = between_true 1 s.counts.objects o (and_right t1 (is_object s o) e2);
        active = and_right t2 (is_active s r) e3;
        not_unlocked = not-true (has_unlocked s r) (and_right t3 (not (has_unlocked s r)) e4);
        awake = awake;
        right = and_right t4 (may_lock s m r o) e5;
        new = not-true (holds_already s m r o) (and_right t5 (not (holds_already s m r o)) e6);
        before = λ q. simp (eq-eqb m certify q) at (and_right t6 (holds_before s m r o) e);
      }

  sleepers_active : subset s.sleeping s.active ≡ true
  unfolding sleepers_fit
  sleepers_active = and_left _ _ C.sleepers

  awake_fact : (r : ℕ) → request_of s r ≢ 0 → 1 ≤ r → r ≤ most_jobs → is_sleeping s r ≡ false
  unfolding sleepers_fit
  awake_fact r d a b =
      let all = every-at most_jobs (waits_awake s) r (and_right (subset s.sleeping s.active) _ C.sleepers) a b in
      not-true (is_sleeping s r) (simp (ne_eqb (request_of s r) 0 d) at all)

  waiting_fact : (r : ℕ) → request_of s r ≢ 0 → RequestFacts s (requested_mode s r) r (requested_object s r)
  unfolding waits_fit
  waiting_fact r d = elim (within most_jobs r) [
    | yes i ↦ request_fact (requested_mode s r) r (requested_object s r)
        (simp (ne_eqb (request_of s r) 0 d) at (every-at most_jobs (wait_fits s) r C.waits i.0 i.1)) (awake_fact r d i.0 i.1)
    | no n ↦ absurd (d (at_out s.request most_jobs r z.request n))
  ]

  lock_facts : (o : ℕ) → LockFacts s o
  lock_facts o = elim (within most_objects o) [ yes i ↦ inside_locks o i.0 i.1 | no d ↦ outside_locks o d ]

  lock_rank : (m r o : ℕ) → In (holders s m o) r → (1 ≤ r) × (r ≤ s.counts.jobs)
  lock_rank m r o i = (member_pos (holders s m o) r i, member-le s.counts.jobs (holders s m o) r ((lock_facts o).jobs m) i)

  lock_object : (m r o : ℕ) → In (holders s m o) r → (1 ≤ o) × (o ≤ s.counts.objects)
  lock_object m r o i = go (is_object s o) refl
    where
      go : (b : Bool) → is_object s o ≡ b → (1 ≤ o) × (o ≤ s.counts.objects)
      go true e = between_true 1 s.counts.objects o e
      go false e = absurd (none_in (declared s m o) r (objects_fact m o e) ((lock_facts o).right m r i))

  lock_holder : (m r o : ℕ) → In (holders s m o) r → is_holder s r ≡ true
  unfolding all_holders
  lock_holder m r o i =
      let object = lock_object m r o i in
      in_unions most_objects (holders_any s) r o object.0 (omega (arith, object.1, (counts_within_lem s.counts C.counts).objects))
      (either_mode (λ f. In (f (holders s read o) (holders s write o)) r → In (holders_any s o) r)
      (union_left (holders s read o) (holders s write o) r) (union_right (holders s read o) (holders s write o) r) m i)

  -- of two holders that are in order, the more urgent is above each lock of the other
  above_lock_lem : (a b m o : ℕ) → above_lock s a b m o ≡ true → In (holders s m o) b → a < weight s m b o
  above_lock_lem a b m o e i = ltb-true a (weight s m b o) (simp i at e)

  order_fact : InOrder s
  unfolding holders_in_order weight
  order_fact a n p b m o i j l =
      let left = lock_rank n a p i in
      let right = lock_rank m b o j in
      let object = lock_object m b o j in
      let pair = every-at s.counts.jobs (λ a. in_order s a b) a
      (every-at s.counts.jobs (λ b. every s.counts.jobs (λ a. in_order s a b)) b C.order right.0 right.1) left.0 left.1 in
      let locks = simp (lock_holder n a p i, lock_holder m b o j, lt-ltb a b l) at pair in
      let both = every-at s.counts.objects (λ o. above_lock s a b read o && above_lock s a b write o) o locks object.0 object.1 in
      above_lock_lem a b m o (either_mode (λ f. above_of f ≡ true) (and_left _ _ both) (and_right (above_lock s a b read o) _ both) m) j
    where
      above_of : (ℕ → ℕ → ℕ) → Bool
      above_of f = not (member (f (holders s read o) (holders s write o)) b) || ltb a (f (weight s read b o) (weight s write b o))

  pub facts : Facts s
  unfolding processors_fit marks_fit holder_fits
  facts = record {
    sized = z;
    counts = counts_within_lem s.counts C.counts;
    processors = λ r a b. ltb-true (processor_of_job s r) s.counts.processors (every-at s.counts.jobs (processor_fits s) r C.processors a b);
    declared_objects = objects_fact;
    declared_jobs = declared_fact;
    active_jobs = active_fact;
    locks = lock_facts;
    requests = waiting_fact;
    marks = λ r i. subset-member s.unlocked s.active r C.marks i;
    marks_jobs = omega (arith, subset-le s.unlocked s.active C.marks, active_fact);
    sleepers = λ r i. subset-member s.sleeping s.active r sleepers_active i;
    sleepers_jobs = omega (arith, subset-le s.sleeping s.active sleepers_active, active_fact);
    version = between_true 1 2 s.counts.version C.version;
    carried = eqb-true s.holder (most_urgent_holder s.readers s.writers) C.holder;
    order = order_fact;
  }

-- ---- locks and waiting jobs are of the table

module _ (s : State) (F : Facts s) where
  pub active_rank : (r : ℕ) → In s.active r → (1 ≤ r) × (r ≤ s.counts.jobs)
  active_rank r i = (member_pos s.active r i, member-le s.counts.jobs s.active r F.active_jobs i)

  pub held_rank : (m r o : ℕ) → In (holders s m o) r → (1 ≤ r) × (r ≤ s.counts.jobs)
  held_rank m r o i = active_rank r ((F.locks o).active m r i)

  pub held_object : (m r o : ℕ) → In (holders s m o) r → (1 ≤ o) × (o ≤ s.counts.objects)
  held_object m r o i = go (is_object s o) refl
    where
      go : (b : Bool) → is_object s o ≡ b → (1 ≤ o) × (o ≤ s.counts.objects)
      go true e = between_true 1 s.counts.objects o e
      go false e = absurd (none_in (declared s m o) r (F.declared_objects m o e) ((F.locks o).right m r i))

  pub waiting_rank : (r : ℕ) → request_of s r ≢ 0 → (1 ≤ r) × (r ≤ s.counts.jobs)
  waiting_rank r d = active_rank r (F.requests r d).active

  -- a sleeper does not wait
  pub sleeper_free : (r : ℕ) → is_sleeping s r ≡ true → request_of s r ≡ 0
  sleeper_free r e = elim (ℕ_discrete (request_of s r) 0) [ yes z ↦ z | no d ↦ absurd (clash e (F.requests r d).awake) ]
