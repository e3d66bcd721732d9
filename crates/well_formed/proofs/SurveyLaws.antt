-- What the code gathers of the objects says of each clause of a well-formed state: the joined sets are empty, or lie in a set,
-- if and only if each object's do; and the holders that it gathers are all there are (their order: OrderLaws).
-- Assumes nothing.
use mathlib.Core.Path.{◌≡◌, sym, ap, ap₂, ◌∙◌}
use mathlib.Core.Bool.{Bool, true, false, not, ◌&&◌, ◌||◌}
use Prim.Native.Nat.{ℕ, ◌+◌, ◌-◌, ◌^◌, ◌≤◌, ◌<◌}
use native.Mathlib.Omega.{arith}
use native.Mathlib.Decide.{dec_le}
use lib.Dec.{eqb}
use lib.Bits.{bit_and, and_zero_l, and_zero_r, or_zero_r}
use borrow.Author.Tests.{eqb-true, eq-eqb, ltb-true}
use Rattle.std.proofs.lemmas.Bool.Decides.{nat_tests}
use Rattle.basics.specs.Choice.{clash, same_test, and_true, and_left, and_right, or_right, inside_between}
use Rattle.basics.specs.Loops.{every, every-at, every_true}
use Rattle.basics.specs.Arrays.{at}
use Rattle.ranks.specs.Ranks.{word_bits, is_empty, most_urgent, union, common, minus, subset, disjoint, up_to, less_one, unions}
use Rattle.ranks.specs.UnionLaws.{empty_union, empty_minus, unions_both, unions_split, unions_empty, unions-subset, subset-union, subset-up_to, subset-le, empty_at_most_one}
use Rattle.ranks.specs.LessOneLaws.{less_one_alone, less_one-at_most_one}
use Rattle.state.specs.declared.State.{State}
use Rattle.well_formed.specs.declared.locks.Survey.{Survey}
use Rattle.state.specs.State.{most_jobs, most_objects, read, write, is_object, declared, declared_any, holders, holders_any, all_holders, is_certified}
use Rattle.state.specs.WellFormed.{counts_fit, processors_fit, declaration_fits, declarations_fit, of_jobs, declared_of_jobs, above_idle, held_by_active, held_by_right, locks_fit}
use Rattle.state.specs.WellFormed.{locked_once, alone, written_alone, one_lock_each, writers_alone, waits_fit, marks_fit, version_fits, certify_fits, certifies_fit, waits_awake, sleepers_fit, holder_fits, holders_in_order, well_formed}
use Rattle.state.specs.Clauses.{Clauses, clauses, well_formed_lem, counts_within_lem}
use Rattle.well_formed.proofs.WaitLaws.{marks_joined, waits_joined}
use Rattle.well_formed.proofs.OrderLaws.{ordered_clause}
use Rattle.well_formed.proofs.LoopLaws.{block_more}
use Rattle.well_formed.specs.Survey.{apart, in_order, block_size, in_blocks, object_in_order, all_of, Surveyed, certifiable, certified_well, object_ordered}

-- ---- one object

-- nothing is wrong with how the object is shared if and only if its locks are apart: a set less one tells whether a write lock is alone
pub alone_apart : (rd wr : ℕ) → rd < 2 ^ word_bits
    → is_empty (union (minus rd (less_one wr)) (common wr (less_one (union rd wr)))) ≡ apart true rd wr
alone_apart rd wr h =
    empty_union (minus rd (less_one wr)) (common wr (less_one (union rd wr)))
    ∙ ap (λ (t : Bool). t && is_empty (common wr (less_one (union rd wr)))) (empty_minus rd (less_one wr))
    ∙ less_one_alone rd wr h

pub shared_apart : (rd wr : ℕ) → is_empty (union (common rd wr) (common wr (less_one wr))) ≡ apart false rd wr
shared_apart rd wr = empty_union (common rd wr) (common wr (less_one wr)) ∙ ap (λ (t : Bool). disjoint rd wr && t) (less_one-at_most_one wr)

-- no rank is in any set
none_subset : (b : ℕ) → subset 0 b ≡ true
none_subset b = eq-eqb (bit_and 0 b) 0 (and_zero_l b)

-- an object without locks is in order
pub unlocked_in_order : (none : Bool) (mr mw rd wr : ℕ) → is_empty (union rd wr) ≡ true → in_order none mr mw rd wr ≡ true
unlocked_in_order none mr mw rd wr e =
    let both = sym (empty_union rd wr) ∙ e in
    ap₂ (in_order none mr mw) (eqb-true rd 0 (and_left _ _ both)) (eqb-true wr 0 (and_right (is_empty rd) _ both))
    ∙ ap₂ ◌&&◌ (ap₂ ◌&&◌ (none_subset mr) (none_subset mw)) (apart_none none)
  where
    apart_none : (b : Bool) → apart b 0 0 ≡ true
    apart_none b = grind (arith, none_subset 0, empty_at_most_one)

-- ---- a block of objects more, behind the first i

module _ (s : State) (none : Bool) (i m : ℕ) (end : i + block_size ≡ m) where
  abbrev order : ℕ → Bool
  order = object_in_order s none

  -- the locks of the block
  abbrev pub block_locks : ℕ
  block_locks = union (unions block_size (λ k. at s.readers (i + k))) (unions block_size (λ k. at s.writers (i + k)))

  block_each : block_locks ≡ unions block_size (λ k. holders_any s (i + k))
  block_each = unions_both block_size (λ k. at s.readers (i + k)) (λ k. at s.writers (i + k))

  pub held_more : union (unions i (holders_any s)) block_locks ≡ unions m (holders_any s)
  held_more =
      ap (union (unions i (holders_any s))) block_each ∙ unions_split i block_size (holders_any s) ∙ ap (λ (k : ℕ). unions k (holders_any s)) end

  -- a block without locks is in order
  pub unlocked_more : (wrong : ℕ) → is_empty wrong ≡ every i order → block_locks ≡ 0 → is_empty wrong ≡ every m order
  unlocked_more wrong e no_lock =
      ap is_empty (sym (or_zero_r wrong)) ∙ block_more i block_size m wrong 0 order end e (sym (every_true block_size (λ k. order (i + k)) in_order))
    where
      all : every block_size (λ k. is_empty (holders_any s (i + k))) ≡ true
      all = sym (unions_empty block_size (λ k. holders_any s (i + k))) ∙ ap is_empty (sym block_each) ∙ eq-eqb block_locks 0 no_lock

      in_order : (k : ℕ) → 1 ≤ k → k ≤ block_size → order (i + k) ≡ true
      in_order k a b = unlocked_in_order none (at s.may_read (i + k)) (at s.may_write (i + k)) (at s.readers (i + k)) (at s.writers (i + k))
          (every-at block_size (λ k. is_empty (holders_any s (i + k))) k all a b)

-- ---- what the clauses ask of one object

pub record ObjectFits (s : State) (o : ℕ) : Type 0 where
  pub declaration : declaration_fits s o ≡ true
  pub jobs : declared_of_jobs s o ≡ true
  pub active : held_by_active s o ≡ true
  pub right : held_by_right s o ≡ true
  pub once : locked_once s o ≡ true
  pub alone : written_alone s o ≡ true
  pub certify : certify_fits s o ≡ true

-- a write lock that is alone is no second lock of its holder
alone_once : (rd wr : ℕ) → alone true rd wr ≡ true → disjoint rd wr ≡ true
alone_once rd wr w = grind (arith, nat_tests, and_zero_r rd, and_zero_l wr)

-- the locks are apart, by version, and a certified object is written and not read: so nobody has two of them, a lock that shares with none is alone,
-- and the certify lock fits
module _ (first second certified : Bool) (rd wr : ℕ) where
  abbrev certified_well_lem : Bool
  certified_well_lem = not certified || (second && certifiable rd wr)

  apart_once : apart first rd wr ≡ true → disjoint rd wr ≡ true
  apart_once e = grind (arith, alone_once rd wr)

  apart_alone : apart first rd wr ≡ true → certified_well_lem ≡ true → alone (first || certified) rd wr ≡ true
  apart_alone e w = grind arith

  well_certify : certified_well_lem ≡ true → not certified || (second && not (is_empty wr)) ≡ true
  well_certify w = grind arith

  -- and the other way round
  alone_apart_too : alone (first || certified) rd wr ≡ true → disjoint rd wr ≡ true → apart first rd wr ≡ true
  alone_apart_too e d = grind arith

  fits_well : alone (first || certified) rd wr ≡ true → not certified || (second && not (is_empty wr)) ≡ true → certified_well_lem ≡ true
  fits_well e w = grind arith

pub bad_counts : (s : State) → counts_fit s && version_fits s ≡ false → well_formed s ≡ false
bad_counts s e = same_test (well_formed s) false (λ w. let c = clauses s w in absurd (clash (and_true _ _ c.counts c.version) e)) (λ f. grind arith)

-- ---- all objects

module _ (s : State) (counts : counts_fit s ≡ true) (version : version_fits s ≡ true) (seen : Survey) (outside : ℕ)
    (S : Surveyed s (eqb s.counts.version 1) seen) (O : outside ≡ unions (most_objects - s.counts.objects) (λ k. all_of s (s.counts.objects + k))) where
  -- how many objects are looked at in blocks
  abbrev n : ℕ
  n = in_blocks s.counts.objects

  few : (s.counts.objects ≤ n) × (n ≤ most_objects) × (s.counts.objects ≤ most_objects)
  few = let h = (counts_within_lem s.counts counts).objects in (omega arith, omega arith, h.1)

  abbrev empty : ℕ → Bool
  empty o = is_empty (all_of s o)

  declared_each : subset seen.declared (up_to s.counts.jobs) ≡ every s.counts.objects (λ o. subset (declared_any s o) (up_to s.counts.jobs))
  declared_each = ap (λ (d : ℕ). subset d (up_to s.counts.jobs)) S.declared ∙ unions-subset s.counts.objects (up_to s.counts.jobs) (declared_any s)

  held_each : subset seen.held s.active ≡ every n (held_by_active s)
  held_each = ap (λ (h : ℕ). subset h s.active) S.held ∙ unions-subset n s.active (holders_any s)

  outside_each : is_empty outside ≡ every (most_objects - s.counts.objects) (λ k. empty (s.counts.objects + k))
  outside_each = ap is_empty O ∙ unions_empty (most_objects - s.counts.objects) (λ k. all_of s (s.counts.objects + k))

  -- nothing is outside the table, so that the holders seen in blocks are all there are
  module _ (t : is_empty outside ≡ true) where
    -- nothing is declared for an object there, and nobody holds it
    outside_free : (o : ℕ) → s.counts.objects < o → o ≤ most_objects → (is_empty (declared_any s o) ≡ true) × (is_empty (holders_any s o) ≡ true)
    outside_free o a b =
        let here : s.counts.objects + (o - s.counts.objects) ≡ o = omega arith in
        let both = sym (empty_union (declared_any s o) (holders_any s o)) ∙ ap empty (sym here)
        ∙ every-at (most_objects - s.counts.objects) (λ k. empty (s.counts.objects + k)) (o - s.counts.objects) (sym outside_each ∙ t) (omega arith) (omega arith) in
        (and_left _ _ both, and_right (is_empty (declared_any s o)) _ both)

    outside_unlocked : (o : ℕ) → s.counts.objects < o → o ≤ most_objects → holders_any s o ≡ 0
    outside_unlocked o a b = eqb-true (holders_any s o) 0 (outside_free o a b).1

    all_seen : seen.held ≡ all_holders s.readers s.writers
    unfolding all_holders
    all_seen =
        let rest = most_objects - n in
        let whole : n + rest ≡ most_objects = omega (arith, few) in
        let none = unions_empty rest (λ k. holders_any s (n + k))
        ∙ every_true rest (λ k. is_empty (holders_any s (n + k))) (λ k a b. (outside_free (n + k) (omega (arith, few)) (omega (arith, few))).1) in
        S.held ∙ sym (or_zero_r (unions n (holders_any s))) ∙ ap (union (unions n (holders_any s))) (sym (eqb-true (unions rest (λ k. holders_any s (n + k))) 0 none))
        ∙ unions_split n rest (holders_any s) ∙ ap (λ (k : ℕ). unions k (holders_any s)) whole

  abbrev well : ℕ → Bool
  well = certified_well s

  abbrev first : Bool
  first = eqb s.counts.version 1

  abbrev second : Bool
  second = eqb s.counts.version 2

  -- ---- what is asked of each object and each job by itself, as the code tests it

  abbrev each : Bool
  each =
      is_empty seen.wrong && is_empty outside && subset seen.declared (up_to s.counts.jobs) && subset seen.held s.active && subset s.active (up_to s.counts.jobs)
      && subset (union s.unlocked s.sleeping) s.active && every most_objects well && processors_fit s && waits_fit (marks_joined s)

  pub record Tested : Type 0 where
    pub in_order : is_empty seen.wrong ≡ true
    pub none_outside : is_empty outside ≡ true
    pub declared : subset seen.declared (up_to s.counts.jobs) ≡ true
    pub held : subset seen.held s.active ≡ true
    pub active : subset s.active (up_to s.counts.jobs) ≡ true
    pub marks : subset (union s.unlocked s.sleeping) s.active ≡ true
    pub certified : every most_objects well ≡ true
    pub processors : processors_fit s ≡ true
    pub waits : waits_fit (marks_joined s) ≡ true

  tested : each ≡ true → Tested
  tested t = record {
    in_order = grind arith;
    none_outside = grind arith;
    declared = grind arith;
    held = grind arith;
    active = grind arith;
    marks = grind arith;
    certified = grind arith;
    processors = grind arith;
    waits = grind arith;
  }

  -- ---- the test passes, so each object fits

  module _ (T : Tested) where
    sharing : (o : ℕ) → 1 ≤ o → o ≤ most_objects → in_order first (declared s read o) (declared s write o) (holders s read o) (holders s write o) ≡ true
        → (locked_once s o ≡ true) × (written_alone s o ≡ true) × (certify_fits s o ≡ true)
    sharing o a b order =
        let rd = holders s read o in
        let wr = holders s write o in
        let locks = and_right (held_by_right s o) (apart first rd wr) order in
        let mark = every-at most_objects well o T.certified a b in (
          apart_once first second (is_certified s o) rd wr locks,
          apart_alone first second (is_certified s o) rd wr locks mark,
          well_certify first second (is_certified s o) rd wr mark,
        )

    inside_fits : (o : ℕ) → 1 ≤ o → o ≤ s.counts.objects → ObjectFits s o
    inside_fits o a b =
        let l : o ≤ n = omega (arith, few) in
        let order = every-at n (object_in_order s first) o (sym S.wrong ∙ T.in_order) a l in
        let within = every-at s.counts.objects (λ o. subset (declared_any s o) (up_to s.counts.jobs)) o (sym declared_each ∙ T.declared) a b in
        let shared = sharing o a (omega (arith, few)) order in
        record {
          declaration = ap (λ (x : Bool). x || is_empty (declared_any s o)) (inside_between 1 s.counts.objects o a b);
          jobs = sym (subset-up_to s.counts.jobs (declared_any s o)) ∙ within;
          active = every-at n (held_by_active s) o (sym held_each ∙ T.held) a l;
          right = and_left _ _ order;
          once = shared.0;
          alone = shared.1;
          certify = shared.2;
        }

    outside_fits : (o : ℕ) → s.counts.objects < o → o ≤ most_objects → ObjectFits s o
    outside_fits o a b =
        let free = outside_free T.none_outside o a b in
        let order = unlocked_in_order first (declared s read o) (declared s write o) (holders s read o) (holders s write o) free.1 in
        let shared = sharing o (omega arith) b order in
        record {
          declaration = or_right (is_object s o) _ free.0;
          jobs = ap (of_jobs s) (eqb-true (declared_any s o) 0 free.0) ∙ sym (subset-up_to s.counts.jobs 0) ∙ none_subset (up_to s.counts.jobs);
          active = ap (λ (h : ℕ). subset h s.active) (eqb-true (holders_any s o) 0 free.1) ∙ none_subset s.active;
          right = and_left _ _ order;
          once = shared.0;
          alone = shared.1;
          certify = shared.2;
        }

    pub each_fits : (o : ℕ) → 1 ≤ o → o ≤ most_objects → ObjectFits s o
    each_fits o a b = elim (dec_le o s.counts.objects) [ yes l ↦ inside_fits o a l | no d ↦ outside_fits o (omega arith) b ]

  -- ---- each object fits, so the test passes

  module _ (fits : (o : ℕ) → 1 ≤ o → o ≤ most_objects → ObjectFits s o) where
    none_outside : (o : ℕ) → 1 ≤ o → s.counts.objects < o → o ≤ most_objects → empty o ≡ true
    none_outside o low a b =
        let F = fits o low b in
        let beyond : is_object s o ≡ false = grind (arith, nat_tests) in
        let rights : is_empty (declared_any s o) ≡ true = grind (arith, F.declaration) in
        let reading = subset-le (holders s read o) (declared s read o) (and_left _ _ F.right) in
        let writing = subset-le (holders s write o) (declared s write o) (and_right (subset (holders s read o) (declared s read o)) _ F.right) in
        grind (arith, nat_tests, empty_union (declared_any s o) (holders_any s o), empty_union (declared s read o) (declared s write o), empty_union (holders s read o) (holders s write o))

    in_order_seen : is_empty seen.wrong ≡ true
    in_order_seen =
        S.wrong ∙ every_true n (object_in_order s first)
        (λ o a l. (let F = fits o a (omega (arith, few)) in
        and_true (held_by_right s o) (apart first (holders s read o) (holders s write o)) F.right
        (alone_apart_too first second (is_certified s o) (holders s read o) (holders s write o) F.alone F.once)))

    none_outside_seen : is_empty outside ≡ true
    none_outside_seen =
        outside_each ∙ every_true (most_objects - s.counts.objects) (λ k. empty (s.counts.objects + k))
        (λ k a l. none_outside (s.counts.objects + k) (omega arith) (omega arith) (omega (arith, few)))

    declared_seen : subset seen.declared (up_to s.counts.jobs) ≡ true
    declared_seen =
        declared_each ∙ every_true s.counts.objects (λ o. subset (declared_any s o) (up_to s.counts.jobs))
        (λ o a l. subset-up_to s.counts.jobs (declared_any s o) ∙ (fits o a (omega (arith, few))).jobs)

    held_seen : subset seen.held s.active ≡ true
    held_seen = held_each ∙ every_true n (held_by_active s) (λ o a l. (fits o a (omega (arith, few))).active)

    fits_certified : every most_objects well ≡ true
    fits_certified =
        every_true most_objects well (λ o a b.
        let F = fits o a b in
        fits_well first second (is_certified s o) (holders s read o) (holders s write o) F.alone F.certify)

  -- ---- the clauses

  each_clauses : Tested → holder_fits s ≡ true → holders_in_order s ≡ true → Clauses s
  unfolding declarations_fit above_idle locks_fit one_lock_each writers_alone marks_fit certifies_fit sleepers_fit
  each_clauses T holder order =
      let waits = sym (waits_joined s) ∙ T.waits in
      let marks = sym (subset-union s.unlocked s.sleeping s.active) ∙ T.marks in
      let fits = each_fits T in
      record {
        counts = counts;
        processors = T.processors;
        declarations = every_true most_objects (declaration_fits s) (λ o a b. (fits o a b).declaration);
        above =
            and_true (of_jobs s s.active) _ (sym (subset-up_to s.counts.jobs s.active) ∙ T.active)
            (every_true most_objects (declared_of_jobs s) (λ o a b. (fits o a b).jobs));
        locks =
            and_true (every most_objects (held_by_active s)) _
            (every_true most_objects (held_by_active s) (λ o a b. (fits o a b).active)) (every_true most_objects (held_by_right s) (λ o a b. (fits o a b).right));
        once = every_true most_objects (locked_once s) (λ o a b. (fits o a b).once);
        alone = every_true most_objects (written_alone s) (λ o a b. (fits o a b).alone);
        waits = and_left (waits_fit s) _ waits;
        marks = and_left _ _ marks;
        version = version;
        certifies = every_true most_objects (certify_fits s) (λ o a b. (fits o a b).certify);
        sleepers =
            and_true (subset s.sleeping s.active) _ (and_right (subset s.unlocked s.active) _ marks) (and_right (waits_fit s) (every most_jobs (waits_awake s)) waits);
        holder = holder;
        order = order;
      }

  clauses_each : Clauses s → Tested
  unfolding declarations_fit above_idle locks_fit one_lock_each writers_alone marks_fit certifies_fit sleepers_fit
  clauses_each c =
      let fits : (o : ℕ) → 1 ≤ o → o ≤ most_objects → ObjectFits s o = λ o a b. record {
        declaration = every-at most_objects (declaration_fits s) o c.declarations a b;
        jobs = every-at most_objects (declared_of_jobs s) o (and_right (of_jobs s s.active) _ c.above) a b;
        active = every-at most_objects (held_by_active s) o (and_left _ _ c.locks) a b;
        right = every-at most_objects (held_by_right s) o (and_right (every most_objects (held_by_active s)) _ c.locks) a b;
        once = every-at most_objects (locked_once s) o c.once a b;
        alone = every-at most_objects (written_alone s) o c.alone a b;
        certify = every-at most_objects (certify_fits s) o c.certifies a b;
      } in
      record {
        in_order = in_order_seen fits;
        none_outside = none_outside_seen fits;
        declared = declared_seen fits;
        held = held_seen fits;
        active = subset-up_to s.counts.jobs s.active ∙ and_left _ _ c.above;
        marks = subset-union s.unlocked s.sleeping s.active ∙ and_true _ _ c.marks (and_left _ _ c.sleepers);
        certified = fits_certified fits;
        processors = c.processors;
        waits = waits_joined s ∙ and_true _ _ c.waits (and_right (subset s.sleeping s.active) _ c.sleepers);
      }

  -- ---- and of the holders among themselves

  abbrev carried : Bool
  carried = eqb s.holder (most_urgent seen.held)

  abbrev ordered : ℕ → Bool
  ordered = object_ordered seen.held s

  -- where each object and each job fits, what is tested of the holders that were seen is what is asked of all
  module _ (T : Tested) where
    holders_same : seen.held ≡ all_holders s.readers s.writers
    holders_same = all_seen T.none_outside

    holders_jobs : all_holders s.readers s.writers < 2 ^ s.counts.jobs
    holders_jobs =
        omega (arith, ltb-true s.active (2 ^ s.counts.jobs) (sym (subset-up_to s.counts.jobs s.active) ∙ T.active), subset-le seen.held s.active T.held, holders_same)

    carried_same : carried ≡ holder_fits s
    unfolding holder_fits
    carried_same = ap (λ (h : ℕ). eqb s.holder (most_urgent h)) holders_same

    ordered_same : every n ordered ≡ holders_in_order s
    ordered_same =
        ap (λ (h : ℕ). every n (object_ordered h s)) holders_same
        ∙ ordered_clause s (counts_within_lem s.counts counts).jobs.1 holders_jobs (outside_unlocked T.none_outside) n few.0 few.1

  pub tests_well : each && carried && every n ordered ≡ well_formed s
  tests_well =
      same_test (each && carried && every n ordered) (well_formed s)
      (λ t. let both = and_left _ _ t in
      let T = tested (and_left each carried both) in
      well_formed_lem s (each_clauses T (sym (carried_same T) ∙ and_right each carried both) (sym (ordered_same T) ∙ and_right (each && carried) (every n ordered) t)))
      (λ w. let c = clauses s w in
      let T = clauses_each c in
      simp (T.in_order, T.none_outside, T.declared, T.held, T.active, T.marks, T.certified, T.processors, T.waits) (and_true carried _ (carried_same T ∙ c.holder) (ordered_same T ∙ c.order)))
