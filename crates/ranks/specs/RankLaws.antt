-- What sets of ranks say of their members. A set is any number; where a fact needs to know how many ranks there can be,
-- it holds for any k and a set below 2 ^ k, so that it serves for a word, k = 64, and for a set of several words.
-- Assumes nothing.
use Rattle.std.specs.Prelude.{◌≡◌, ℕ, zero, suc, ◌+◌, ◌^◌, ◌<◌, ◌≤◌, Bool, true, false, not, ◌&&◌, ◌⊎◌, ◌==◌, ◌≢◌, bit_and, bit_or, bit_xor, count_ones, nat_eq, refl}
use Rattle.std.proofs.Common.{sym, ap, ◌∙◌, inl, inr, zero-le, zero-lt-suc, lt_of_not-le, le_antisymm, le_trans, eq-zero-or-pos, add-one, arith, eqb-true, eq-eqb, ne_eqb, leb-true, le-leb}
use Rattle.std.proofs.Math.Decide.{ℕ_discrete, dec_le}
use Rattle.std.proofs.Math.Pow.{pow-lt}
use Rattle.std.specs.Int.Bits.{differ, xor_self}
use Rattle.std.proofs.lemmas.Nat.{and_le_l, or_lt, xor_lt, trailing_le}
use Rattle.std.specs.Int.Count.{count_trailing_zeros, trailing_of_zero}
use Rattle.std.proofs.lemmas.Bool.{eqb-false}
use Rattle.basics.specs.Choice.{clash, same_test, and_true, and_left, and_right}
use Rattle.ranks.specs.Ranks.{bit, member, with, without, first, common, minus, subset, disjoint, at_most_one}
use Rattle.ranks.specs.Bits.{bit-lt, zero_bit, high_bit, and-bit, or-bit, xor-bit, single_same, single_other, same_bits}
use Rattle.ranks.specs.Bits.{trailing_below, trailing_set, trailing_lt, ones_one, one_ones}

-- ---- a member, and its bit

pub member-bit : (set i : ℕ) → member set (suc i) ≡ true → bit set i ≡ 1
unfolding member
member-bit set i m = eqb-true (bit set i) 1 m

pub bit-member : (set i : ℕ) → bit set i ≡ 1 → member set (suc i) ≡ true
unfolding member
bit-member set i e = eq-eqb (bit set i) 1 e

no_bit : (set i : ℕ) → bit set i ≡ 0 → member set (suc i) ≡ false
unfolding member
no_bit set i e = ne_eqb (bit set i) 1 (λ o. omega arith)

pub same_bit : (a b i : ℕ) → bit a i ≡ bit b i → member a (suc i) ≡ member b (suc i)
unfolding member
same_bit a b i e = ap (λ (x : ℕ). nat_eq x 1) e

bit_cases : (set i : ℕ) → (bit set i ≡ 0) ⊎ (bit set i ≡ 1)
bit_cases set i = go (bit set i) (bit-lt set i)
  where
    go : (b : ℕ) → b < 2 → (b ≡ 0) ⊎ (b ≡ 1)
    go zero h = inl refl
    go (suc b) h = inr (omega arith)

pub member-zero : (set : ℕ) → member set 0 ≡ false
unfolding member
member-zero set = refl

pub member_pos : (set r : ℕ) → member set r ≡ true → 1 ≤ r
member_pos set zero m = absurd (clash m (member-zero set))
member_pos set (suc i) m = zero-lt-suc i

pub member-le : (k set r : ℕ) → set < 2 ^ k → member set r ≡ true → r ≤ k
member-le k set zero h m = zero-le
member-le k set (suc i) h m =
    lt_of_not-le (λ (l : k ≤ i). clash m (no_bit set i (high_bit k set i h l)))

-- ---- the empty set, and one rank put in or taken out

pub member_empty : (r : ℕ) → member 0 r ≡ false
member_empty zero = member-zero 0
member_empty (suc i) = no_bit 0 i (zero_bit i)

pub member-with_same : (set r : ℕ) → 1 ≤ r → member (with set r) r ≡ true
unfolding with
member-with_same set zero h = absurd (omega arith)
member-with_same set (suc i) h = bit-member (bit_or set (2 ^ i)) i (omega (arith, or-bit set (2 ^ i) i, single_same i))

pub member-with_other : (set r q : ℕ) → (r ≢ q) → member (with set r) q ≡ member set q
unfolding with
member-with_other set zero q d = refl
member-with_other set (suc i) zero d = member-zero (bit_or set (2 ^ i)) ∙ sym (member-zero set)
member-with_other set (suc i) (suc j) d =
    same_bit (bit_or set (2 ^ i)) set j (omega (arith, or-bit set (2 ^ i) j, single_other i j (λ e. d (ap suc e))))

differ_self : (x : ℕ) → differ x x ≡ 0
differ_self zero = refl
differ_self (suc x) = differ_self x

differ_zero : (x : ℕ) → differ x 0 ≡ x
differ_zero zero = refl
differ_zero (suc x) = refl

pub member-without_same : (set r : ℕ) → member (without set r) r ≡ false
unfolding without
member-without_same set zero = member-zero set
member-without_same set (suc i) =
    let same : bit (bit_and set (2 ^ i)) i ≡ bit set i = omega (arith, and-bit set (2 ^ i) i, single_same i) in
    no_bit (bit_xor set (bit_and set (2 ^ i))) i
    (xor-bit set (bit_and set (2 ^ i)) i ∙ ap (differ (bit set i)) same ∙ differ_self (bit set i))

pub member-without_other : (set r q : ℕ) → (r ≢ q) → member (without set r) q ≡ member set q
unfolding without
member-without_other set zero q d = refl
member-without_other set (suc i) zero d = member-zero (bit_xor set (bit_and set (2 ^ i))) ∙ sym (member-zero set)
member-without_other set (suc i) (suc j) d =
    let none : bit (bit_and set (2 ^ i)) j ≡ 0 = omega (arith, and-bit set (2 ^ i) j, single_other i j (λ e. d (ap suc e))) in
    same_bit (bit_xor set (bit_and set (2 ^ i))) set j
    (xor-bit set (bit_and set (2 ^ i)) j ∙ ap (differ (bit set j)) none ∙ differ_zero (bit set j))

-- a rank of both sets
pub member-common : (a b r : ℕ) → member (common a b) r ≡ member a r && member b r
member-common a b zero = member-zero (common a b) ∙ ap (λ (t : Bool). t && member b 0) (sym (member-zero a))
member-common a b (suc i) =
    same_test (member (common a b) (suc i)) (member a (suc i) && member b (suc i))
    (λ m. let both = member-bit (common a b) i m in
    and_true (member a (suc i)) (member b (suc i))
    (bit-member a i (omega (arith, both, and-bit a b i, bit-lt a i))) (bit-member b i (omega (arith, both, and-bit a b i, bit-lt b i))))
    (λ t. let ma = member-bit a i (and_left (member a (suc i)) (member b (suc i)) t) in
    let mb = member-bit b i (and_right (member a (suc i)) (member b (suc i)) t) in
    bit-member (common a b) i (omega (arith, and-bit a b i, ma, mb)))

-- a rank of one set that is not of the other
pub member-minus : (a b r : ℕ) → member (minus a b) r ≡ member a r && not (member b r)
member-minus a b zero = member-zero (minus a b) ∙ ap (λ (t : Bool). t && not (member b 0)) (sym (member-zero a))
member-minus a b (suc i) = go (member b (suc i)) refl
  where
    go : (t : Bool) → member b (suc i) ≡ t → member (minus a b) (suc i) ≡ member a (suc i) && not t
    go true e =
        let same : bit (bit_and a b) i ≡ bit a i = omega (arith, and-bit a b i, member-bit b i e, bit-lt a i) in
        no_bit (minus a b) i (xor-bit a (bit_and a b) i ∙ ap (differ (bit a i)) same ∙ differ_self (bit a i)) ∙ never (member a (suc i))
      where
        never : (t : Bool) → false ≡ t && false
        never true = refl
        never false = refl
    go false e =
        let unset : bit b i ≡ 0 = omega (arith, bit-lt b i, clear) in
        let none : bit (bit_and a b) i ≡ 0 = omega (arith, and-bit a b i, unset) in
        same_bit (minus a b) a i (xor-bit a (bit_and a b) i ∙ ap (differ (bit a i)) none ∙ differ_zero (bit a i)) ∙ always (member a (suc i))
      where
        clear : bit b i ≡ 1 → ⊥
        clear q = clash (bit-member b i q) e

        always : (t : Bool) → t ≡ t && true
        always true = refl
        always false = refl

pub with-lt : (k set r : ℕ) → set < 2 ^ k → r ≤ k → with set r < 2 ^ k
unfolding with
with-lt k set zero h l = h
with-lt k set (suc i) h l = or_lt k set (2 ^ i) h (pow-lt l)

pub without-lt : (k set r : ℕ) → set < 2 ^ k → without set r < 2 ^ k
unfolding without
without-lt k set zero h = h
without-lt k set (suc i) h = xor_lt k set (bit_and set (2 ^ i)) h (omega (arith, and_le_l set (2 ^ i)))

-- ---- a set is determined by its members

pub same_members : (k a b : ℕ) → a < 2 ^ k → b < 2 ^ k → ((r : ℕ) → 1 ≤ r → r ≤ k → member a r ≡ member b r) → a ≡ b
same_members k a b ha hb h = same_bits k a b ha hb (λ i l. go i (h (suc i) (zero-lt-suc i) l) (bit_cases a i) (bit_cases b i))
  where
    go : (i : ℕ) → member a (suc i) ≡ member b (suc i) → (bit a i ≡ 0) ⊎ (bit a i ≡ 1) → (bit b i ≡ 0) ⊎ (bit b i ≡ 1) → bit a i ≡ bit b i
    go i e (inl p) (inl q) = p ∙ sym q
    go i e (inl p) (inr q) = absurd (clash (bit-member b i q) (sym e ∙ no_bit a i p))
    go i e (inr p) (inl q) = absurd (clash (bit-member a i p) (e ∙ no_bit b i q))
    go i e (inr p) (inr q) = p ∙ sym q

-- ---- the first member

pub first_pos : (k set : ℕ) → 1 ≤ first k set
unfolding first
first_pos k set = omega arith

pub first-le : (k set : ℕ) → first k set ≤ k + 1
unfolding first
first-le k set = omega (arith, trailing_le k set)

pub first-least : (k set r : ℕ) → member set r ≡ true → first k set ≤ r
unfolding first
first-least k set zero m = absurd (clash m (member-zero set))
first-least k set (suc i) m = omega (arith, trailing_below k set i (member-bit set i m))

pub first_member : (k set : ℕ) → first k set ≤ k → member set (first k set) ≡ true
unfolding first
first_member k set h = rw add-one (bit-member set (count_trailing_zeros k set) (trailing_set k set (omega arith)))

pub first_empty : (k : ℕ) → first k 0 ≡ k + 1
unfolding first
first_empty k = ap (λ (n : ℕ). n + 1) (trailing_of_zero k)

pub first_some : (k set : ℕ) → 0 < set → set < 2 ^ k → first k set ≤ k
unfolding first
first_some k set p h = omega (arith, trailing_lt k set p h)

-- the first member of a set that has one
pub first_there : (k set : ℕ) → (set == 0) ≡ false → set < 2 ^ k → (1 ≤ first k set) × (first k set ≤ k) × (member set (first k set) ≡ true)
first_there k set e h =
    let l = first_some k set (omega (arith, eqb-false set 0 e)) h in
    (first_pos k set, l, first_member k set l)

pub first_none : (k set : ℕ) → set < 2 ^ k → first k set ≡ k + 1 → set ≡ 0
first_none k set h e = go (eq-zero-or-pos set)
  where
    go : (set ≡ 0) ⊎ (0 < set) → set ≡ 0
    go (inl z) = z
    go (inr p) = absurd (omega (arith, first_some k set p h))

-- it is the only number of which this holds
pub first_is : (k set f : ℕ) → member set f ≡ true → ((r : ℕ) → member set r ≡ true → f ≤ r) → f ≤ k → first k set ≡ f
first_is k set f m least h =
    let up : first k set ≤ f = first-least k set f m in
    le_antisymm up (least (first k set) (first_member k set (le_trans up h)))

-- without its first member a set has a later one, or none
pub first-without : (k set : ℕ) → first k set ≤ k → first k set < first k (without set (first k set))
first-without k set h = go (dec_le (first k rest) k)
  where
    rest : ℕ
    rest = without set (first k set)

    go : Dec (first k rest ≤ k) → first k set < first k rest
    go (no d) = omega arith
    go (yes l) = elim (ℕ_discrete (first k set) (first k rest)) [
      | yes e ↦ absurd (clash (first_member k rest l) (ap (member rest) (sym e) ∙ member-without_same set (first k set)))
      | no d ↦ (let there = sym (member-without_other set (first k set) (first k rest) d) ∙ first_member k rest l in omega (arith, first-least k set (first k rest) there))
    ]

-- a set that nobody is in is empty
pub no_member : (k set : ℕ) → set < 2 ^ k → ((r : ℕ) → member set r ≡ true → ⊥) → set ≡ 0
no_member k set h none = go (eq-zero-or-pos set)
  where
    go : (set ≡ 0) ⊎ (0 < set) → set ≡ 0
    go (inl z) = z
    go (inr p) = absurd (none (first k set) (first_member k set (first_some k set p h)))

-- ---- subsets, sets with no member in common, and sets with no two members

pub subset-member : (a b r : ℕ) → subset a b ≡ true → member a r ≡ true → member b r ≡ true
subset-member a b zero s m = absurd (clash m (member-zero a))
subset-member a b (suc i) s m =
    bit-member b i (omega (arith, member-bit a i m, and-bit a b i, ap (λ (n : ℕ). bit n i) (eqb-true (bit_and a b) a s)))

pub member-subset : (k a b : ℕ) → a < 2 ^ k → ((r : ℕ) → r ≤ k → member a r ≡ true → member b r ≡ true) → subset a b ≡ true
member-subset k a b ha h =
    eq-eqb (bit_and a b) a (same_bits k (bit_and a b) a (omega (arith, and_le_l a b)) ha (λ i l. go i l (bit_cases a i)))
  where
    go : (i : ℕ) → i < k → (bit a i ≡ 0) ⊎ (bit a i ≡ 1) → bit (bit_and a b) i ≡ bit a i
    go i l (inl z) = omega (arith, and-bit a b i)
    go i l (inr o) = omega (arith, and-bit a b i, member-bit b i (h (suc i) l (bit-member a i o)))

pub disjoint-member : (a b r : ℕ) → disjoint a b ≡ true → member a r ≡ true → member b r ≢ true
disjoint-member a b zero d ma mb = clash ma (member-zero a)
disjoint-member a b (suc i) d ma mb =
    let none : bit (bit_and a b) i ≡ 0 = ap (λ (n : ℕ). bit n i) (eqb-true (bit_and a b) 0 d) ∙ zero_bit i in
    omega (arith, member-bit a i ma, member-bit b i mb, and-bit a b i)

pub member-disjoint : (k a b : ℕ) → a < 2 ^ k → ((r : ℕ) → r ≤ k → member a r ≡ true → member b r ≢ true) → disjoint a b ≡ true
member-disjoint k a b ha h =
    eq-eqb (bit_and a b) 0 (same_bits k (bit_and a b) 0 (omega (arith, and_le_l a b)) (omega arith) (λ i l. go i l (bit_cases a i) (bit_cases b i) ∙ sym (zero_bit i)))
  where
    go : (i : ℕ) → i < k → (bit a i ≡ 0) ⊎ (bit a i ≡ 1) → (bit b i ≡ 0) ⊎ (bit b i ≡ 1) → bit (bit_and a b) i ≡ 0
    go i l (inl p) q = omega (arith, and-bit a b i)
    go i l (inr p) (inl q) = omega (arith, and-bit a b i)
    go i l (inr p) (inr q) = absurd (h (suc i) l (bit-member a i p) (bit-member b i q))

pub one_member : (set q r : ℕ) → at_most_one set ≡ true → member set q ≡ true → member set r ≡ true → q ≡ r
one_member set zero r o mq mr = absurd (clash mq (member-zero set))
one_member set (suc i) zero o mq mr = absurd (clash mr (member-zero set))
one_member set (suc i) (suc j) o mq mr =
    ap suc (ones_one set i j (leb-true (count_ones set) 1 o) (member-bit set i mq) (member-bit set j mr))

pub member_one : (k set : ℕ) → set < 2 ^ k → ((q r : ℕ) → member set q ≡ true → member set r ≡ true → q ≡ r) → at_most_one set ≡ true
member_one k set h one =
    le-leb (count_ones set) 1 (one_ones k set h (λ i j p q. omega (arith, one (suc i) (suc j) (bit-member set i p) (bit-member set j q))))

-- ---- nothing can be taken out of the empty set

pub without_empty : (r : ℕ) → without 0 r ≡ 0
unfolding without
without_empty zero = refl
without_empty (suc i) = let none : bit_and 0 (2 ^ i) ≡ 0 = omega (arith, and_le_l 0 (2 ^ i)) in ap (bit_xor 0) none ∙ xor_self 0
