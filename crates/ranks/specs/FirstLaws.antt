-- What the first rank of a set tells, of any set: first the bits of a number less one, then the ranks before the set's first, those up to a rank,
-- those after it, and the most urgent rank of a word.
-- Assumes nothing.
use Rattle.std.specs.Prelude.{◌≡◌, ℕ, zero, suc, ◌+◌, ◌-◌, ◌/◌, ◌%◌, ◌^◌, ◌<◌, ◌≤◌, min, Bool, true, false, not, ◌&&◌, ◌≢◌, ◌⊎◌, nat_lt, refl, if◌then◌else◌}
use Rattle.std.proofs.Common.{sym, ap, ap₂, ◌∙◌, inl, inr, eq-zero-or-pos, zero-lt-suc, le_antisymm, arith, pow_pos, eqb-true, ne_eqb, ltb-true, lt-ltb}
use Rattle.std.proofs.Math.Decide.{ℕ_discrete, dec_le}
use Rattle.std.proofs.lemmas.Bool.{not-true}
use Rattle.basics.specs.Choice.{clash, same_test, and_true, and_left, and_right}
use Rattle.ranks.specs.Ranks.{word_bits, is_empty, bit, member, with, disjoint, first, most_urgent, but_first, up_to, less_one, before}
use Rattle.ranks.specs.Bits.{bit-zero, bit-suc, bit-lt, single_other}
use Rattle.ranks.specs.RankLaws.{member-bit, bit-member, member-zero, member_empty, member-common, member-minus, same_bit}
use Rattle.ranks.specs.RankLaws.{member-le, member-with_same, member-with_other, member-disjoint, disjoint-member}
use Rattle.ranks.specs.RankLaws.{first_pos, first-least, first_member, first_there, first_is}
use Rattle.ranks.specs.UnionLaws.{below_power}
use Rattle.ranks.specs.LessOneLaws.{less_one_some, common-less_one}

-- ---- the bits of a number less one

last_bit : (n : ℕ) → 0 < n → (n - 1) % 2 + n % 2 ≡ 1
last_bit n p = omega arith

-- up to the first bit that is set each is the other one
other_bit : (n i : ℕ) → 0 < n → ((j : ℕ) → j < i → bit n j ≡ 0) → bit (n - 1) i + bit n i ≡ 1
other_bit n zero p none = ap₂ ◌+◌ (bit-zero (n - 1)) (bit-zero n) ∙ last_bit n p
other_bit n (suc i) p none =
    let even : n % 2 ≡ 0 = sym (bit-zero n) ∙ none 0 (zero-lt-suc i) in
    let half : (n - 1) / 2 ≡ n / 2 - 1 = omega arith in
    ap₂ ◌+◌ (bit-suc (n - 1) i ∙ ap (λ (m : ℕ). bit m i) half) (bit-suc n i)
    ∙ other_bit (n / 2) i (omega arith) (λ j l. sym (bit-suc n j) ∙ none (suc j) (omega arith))

-- after a bit that is set each stays
same_later : (n j i : ℕ) → j < i → bit n j ≡ 1 → bit (n - 1) i ≡ bit n i
same_later n j zero l o = absurd (omega arith)
same_later n zero (suc i) l o =
    let odd : n % 2 ≡ 1 = sym (bit-zero n) ∙ o in
    let half : (n - 1) / 2 ≡ n / 2 = omega arith in
    bit-suc (n - 1) i ∙ ap (λ (m : ℕ). bit m i) half ∙ sym (bit-suc n i)
same_later n (suc j) (suc i) l o = bit-suc (n - 1) i ∙ go (same_later (n / 2) j i (omega arith) (sym (bit-suc n j) ∙ o)) (n % 2) refl ∙ sym (bit-suc n i)
  where
    go : bit (n / 2 - 1) i ≡ bit (n / 2) i → (d : ℕ) → n % 2 ≡ d → bit ((n - 1) / 2) i ≡ bit (n / 2) i
    go rest zero e = let half : (n - 1) / 2 ≡ n / 2 - 1 = omega arith in ap (λ (m : ℕ). bit m i) half ∙ rest
    go rest (suc d) e = let half : (n - 1) / 2 ≡ n / 2 = omega arith in ap (λ (m : ℕ). bit m i) half

-- ---- the members of a set less one

some_member : (set r : ℕ) → member set r ≡ true → 0 < set
some_member set r m = go (eq-zero-or-pos set)
  where
    go : (set ≡ 0) ⊎ (0 < set) → 0 < set
    go (inl z) = absurd (clash m (ap (λ (n : ℕ). member n r) z ∙ member_empty r))
    go (inr p) = p

-- the bits at a rank that no rank of the set is before
bit-before : (set i : ℕ) → 0 < set → ((q : ℕ) → member set q ≡ true → i < q) → bit (less_one set) i + bit set i ≡ 1
bit-before set i p none = ap (λ (n : ℕ). bit n i + bit set i) (less_one_some set p) ∙ other_bit set i p unset
  where
    unset : (j : ℕ) → j < i → bit set j ≡ 0
    unset j l = omega (arith, bit-lt set j, clear)
      where
        clear : bit set j ≡ 1 → ⊥
        clear o = omega (arith, none (suc j) (bit-member set j o))

pub member-up_to : (k r : ℕ) → 1 ≤ r → r ≤ k → member (up_to k) r ≡ true
member-up_to k zero a b = absurd (omega arith)
member-up_to k (suc i) a b =
    let unset : (j : ℕ) → j ≤ i → bit (2 ^ k) j ≡ 0 = (λ j l. single_other k j (λ e. omega arith)) in
    bit-member (up_to k) i (omega (arith, other_bit (2 ^ k) i (pow_pos k) (λ j l. unset j (omega arith)), unset i (omega arith)))

-- the ranks before the first are in it
less_one-before : (set r : ℕ) → 1 ≤ r → r ≤ word_bits → ((q : ℕ) → member set q ≡ true → r < q) → member (less_one set) r ≡ true
unfolding less_one
less_one-before set zero a b none = absurd (omega arith)
less_one-before zero (suc i) a b none = member-up_to word_bits (suc i) a b
less_one-before (suc n) (suc i) a b none =
    let no : bit (suc n) i ≡ 1 → ⊥ = (λ o. omega (arith, none (suc i) (bit-member (suc n) i o))) in
    bit-member n i (omega (arith, bit-before (suc n) i (zero-lt-suc n) (λ q m. omega (arith, none q m)), bit-lt (suc n) i, no))

-- the first is not
less_one-first : (set r : ℕ) → member set r ≡ true → ((q : ℕ) → member set q ≡ true → r ≤ q) → member (less_one set) r ≢ true
less_one-first set zero m least l = clash m (member-zero set)
less_one-first set (suc i) m least l = omega (arith, bit-before set i (some_member set (suc i) m) least, member-bit set i m, member-bit (less_one set) i l)

-- those after it are as before
less_one_later : (set a r : ℕ) → member set a ≡ true → a < r → member (less_one set) r ≡ member set r
less_one_later set zero r m l = absurd (clash m (member-zero set))
less_one_later set (suc j) zero m l = absurd (omega arith)
less_one_later set (suc j) (suc i) m l =
    ap (λ (n : ℕ). member n (suc i)) (less_one_some set (some_member set (suc j) m)) ∙ same_bit (set - 1) set i (same_later set j i (omega arith) (member-bit set j m))

-- ---- the ranks before the first

pub member-before : (set r : ℕ) → 1 ≤ r → r ≤ word_bits → member (before set) r ≡ nat_lt r (first word_bits set)
member-before set r a b =
    member-minus (less_one set) set r
    ∙ same_test (member (less_one set) r && not (member set r)) (nat_lt r f)
    (λ t. lt-ltb r f (under (and_left (member (less_one set) r) _ t) (not-true (member set r) (and_right (member (less_one set) r) _ t)) (dec_le f r)))
    (λ t. over (ltb-true r f t))
  where
    f : ℕ
    f = first word_bits set

    under : member (less_one set) r ≡ true → member set r ≡ false → Dec (f ≤ r) → r < f
    under l n (no d) = omega arith
    under l n (yes u) =
        let there = first_member word_bits set (omega arith) in
        elim (ℕ_discrete f r) [
          | yes e ↦ absurd (clash (ap (member set) (sym e) ∙ there) n)
          | no d ↦ absurd (clash l (less_one_later set f r there (omega arith) ∙ n))
        ]

    over : r < f → member (less_one set) r && not (member set r) ≡ true
    over l =
        let none : (q : ℕ) → member set q ≡ true → r < q = (λ q m. omega (arith, first-least word_bits set q m)) in
        let out = same_test (member set r) false (λ m. absurd (omega (arith, none r m))) (λ e. absurd (clash e refl)) in
        and_true (member (less_one set) r) (not (member set r)) (less_one-before set r a b none) (ap not out)

-- ---- the ranks up to one

-- a set has none of them where its first is behind it
pub disjoint-up_to : (set r : ℕ) → r ≤ word_bits → disjoint set (up_to r) ≡ nat_lt r (first word_bits set)
disjoint-up_to set r high =
    same_test (disjoint set (up_to r)) (nat_lt r f) (λ t. lt-ltb r f (under t (dec_le f r)))
    (λ t. member-disjoint set set (up_to r) (below_power set) (λ q l m u. omega (arith, ltb-true r f t, first-least word_bits set q m, member-le r (up_to r) q below u)))
  where
    f : ℕ
    f = first word_bits set

    below : up_to r < 2 ^ r
    below = omega (arith, pow_pos r)

    under : disjoint set (up_to r) ≡ true → Dec (f ≤ r) → r < f
    under t (no d) = omega arith
    under t (yes u) =
        absurd (disjoint-member set (up_to r) f t (first_member word_bits set (omega arith)) (member-up_to r f (first_pos word_bits set) u))

-- the first of a set with one more rank
pub first-with : (set r : ℕ) → 1 ≤ r → r ≤ word_bits → first word_bits (with set r) ≡ min (first word_bits set) r
first-with set r low high = le_antisymm (omega (arith, one, all (dec_le f word_bits))) (omega (arith, least (ℕ_discrete r g)))
  where
    f : ℕ
    f = first word_bits set

    g : ℕ
    g = first word_bits (with set r)

    one : g ≤ r
    one = first-least word_bits (with set r) r (member-with_same set r low)

    all : Dec (f ≤ word_bits) → g ≤ f
    all (no d) = omega (arith, one)
    all (yes l) = elim (ℕ_discrete r f) [
      | yes e ↦ omega (arith, one)
      | no d ↦ first-least word_bits (with set r) f (member-with_other set r f d ∙ first_member word_bits set l)
    ]

    least : Dec (r ≡ g) → min f r ≤ g
    least (yes e) = omega arith
    least (no d) =
        let there = first_member word_bits (with set r) (omega (arith, one)) in
        omega (arith, first-least word_bits set g (sym (member-with_other set r g d) ∙ there))

-- ---- the ranks after the first

pub but_first_later : (set r : ℕ) → member (but_first set) r ≡ true → (member set r ≡ true) × ((a : ℕ) × (member set a ≡ true) × (a < r))
but_first_later set r m =
    let both = sym (member-common set (less_one set) r) ∙ ap (λ (n : ℕ). member n r) (common-less_one set) ∙ m in
    let here = and_left (member set r) (member (less_one set) r) both in
    let less = and_right (member set r) (member (less_one set) r) both in
    let up = first-least r set r here in
    elim (ℕ_discrete (first r set) r) [
      | yes e ↦ absurd (less_one-first set r here (λ q p. omega (arith, first-least r set q p)) less)
      | no d ↦ (here, (first r set, first_member r set up, omega arith))
    ]

pub later_but_first : (set a r : ℕ) → member set a ≡ true → member set r ≡ true → a < r → member (but_first set) r ≡ true
later_but_first set a r ma mr l =
    ap (λ (n : ℕ). member n r) (sym (common-less_one set)) ∙ member-common set (less_one set) r
    ∙ and_true (member set r) (member (less_one set) r) mr (less_one_later set a r ma l ∙ mr)

-- ---- the most urgent rank

pub most_urgent_none : most_urgent 0 ≡ 0
unfolding most_urgent
most_urgent_none = refl

-- of a set that has a rank it is the first
pub most_urgent-first : (set : ℕ) → is_empty set ≡ false → most_urgent set ≡ first word_bits set
unfolding most_urgent
most_urgent-first set e = ap (λ (t : Bool). if t then 0 else first word_bits set) e

pub most_urgent-member : (set : ℕ) → set < 2 ^ word_bits → most_urgent set ≢ 0 → member set (most_urgent set) ≡ true
most_urgent-member set h some = go (is_empty set) refl
  where
    go : (t : Bool) → is_empty set ≡ t → member set (most_urgent set) ≡ true
    go true e = absurd (some (ap most_urgent (eqb-true set 0 e) ∙ most_urgent_none))
    go false e = ap (member set) (most_urgent-first set e) ∙ (first_there word_bits set e h).2

member-first : (set r : ℕ) → member set r ≡ true → most_urgent set ≡ first word_bits set
member-first set r m = most_urgent-first set (ne_eqb set 0 (λ z. omega (arith, some_member set r m)))

pub most_urgent-least : (set r : ℕ) → set < 2 ^ word_bits → member set r ≡ true → (1 ≤ most_urgent set) × (most_urgent set ≤ r)
most_urgent-least set r h m =
    let same = member-first set r m in
    (omega (arith, same, first_pos word_bits set), omega (arith, same, first-least word_bits set r m))

pub most_urgent_is : (set r : ℕ) → r ≤ word_bits → member set r ≡ true → ((q : ℕ) → member set q ≡ true → r ≤ q) → most_urgent set ≡ r
most_urgent_is set r h m least = member-first set r m ∙ first_is word_bits set r m least h
