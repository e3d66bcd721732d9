-- What several sets together say of each of them; which sets have ranks up to k only; when a set has no two members; how many it has.
-- Assumes nothing.
use Rattle.std.specs.Prelude.{◌≡◌, ℕ, zero, suc, ◌+◌, ◌-◌, ◌*◌, ◌/◌, ◌%◌, ◌^◌, ◌<◌, ◌≤◌, min, Bool, true, false, not, ◌&&◌, ◌||◌, ◌⊎◌, ◌==◌, bit_and, bit_xor, nat_eq, nat_lt, refl}
use Rattle.std.proofs.Common.{sym, ap, ap₂, ◌∙◌, inl, inr, ⊎_elim, eq-zero-or-pos, pow-suc, le_antisymm, mod-eq_of_lt, add-zero, add-suc, add-one, arith, pow_pos, eqb-true, eq-eqb, leb-true, le-leb, ltb-true, lt-ltb}
use Rattle.std.proofs.Math.Decide.{ℕ_discrete, dec_le}
use Rattle.std.specs.Int.Bits.{and_step, and_self, mask_lt, or_add_and, xor_add_and, xor_self, or_zero_r}
use Rattle.std.proofs.lemmas.Nat.{and_mask, and_le_l, and_le_r, or_lt, or_comm, ones-le}
use Rattle.std.specs.Int.Count.{ones_step, count_trailing_zeros}
use Rattle.basics.specs.Choice.{clash, same_test, and_true, and_left, and_right, or_right, neither}
use Rattle.basics.specs.Loops.{every, sum, one_if, sum_same, sum_first}
use Rattle.ranks.specs.Ranks.{bit, member, first, union, minus, but_first, subset, size, at_most_one, up_to, unions}
use Rattle.ranks.specs.Bits.{bit-lt, bit-zero, bit-suc, or-bit, same_bits, trailing_set, trailing_lt, ones_pos}
use Rattle.ranks.specs.RankLaws.{member-bit, bit-member, member-zero, member_empty, subset-member, member-subset, first-least, first_member, first-le}

-- ---- the members of two sets together

pub union_left : (a b r : ℕ) → member a r ≡ true → member (union a b) r ≡ true
union_left a b zero m = absurd (clash m (member-zero a))
union_left a b (suc i) m = bit-member (union a b) i (omega (arith, or-bit a b i, member-bit a i m, bit-lt b i))

pub union_right : (a b r : ℕ) → member b r ≡ true → member (union a b) r ≡ true
union_right a b zero m = absurd (clash m (member-zero b))
union_right a b (suc i) m = bit-member (union a b) i (omega (arith, or-bit a b i, member-bit b i m, bit-lt a i))

pub union_either : (a b r : ℕ) → member (union a b) r ≡ true → (member a r ≡ true) ⊎ (member b r ≡ true)
union_either a b zero m = absurd (clash m (member-zero (union a b)))
union_either a b (suc i) m = go (member a (suc i)) refl
  where
    go : (t : Bool) → member a (suc i) ≡ t → (member a (suc i) ≡ true) ⊎ (member b (suc i) ≡ true)
    go true e = inl e
    go false e =
        let no : bit a i ≡ 1 → ⊥ = (λ u. clash (bit-member a i u) e) in
        inr (bit-member b i (omega (arith, or-bit a b i, member-bit (union a b) i m, bit-lt a i, bit-lt b i, no)))

pub member_union : (a b r : ℕ) → member (union a b) r ≡ member a r || member b r
member_union a b r =
    same_test (member (union a b) r) (member a r || member b r)
    (λ m. ⊎_elim (λ p. ap (λ (t : Bool). t || member b r) p) (λ p. or_right (member a r) (member b r) p) (union_either a b r m))
    (λ e. go (member a r) refl e)
  where
    go : (t : Bool) → member a r ≡ t → t || member b r ≡ true → member (union a b) r ≡ true
    go true m e = union_left a b r m
    go false m e = union_right a b r e

pub union-lt : (k a b : ℕ) → a < 2 ^ k → b < 2 ^ k → union a b < 2 ^ k
union-lt = or_lt

-- each set is at most both together
pub le-union : (a b : ℕ) → (a ≤ union a b) × (b ≤ union a b)
le-union a b = (omega (arith, or_add_and a b, and_le_r a b), omega (arith, or_add_and a b, and_le_l a b))

-- the most urgent of both sets is the more urgent of theirs
pub first-union : (k a b : ℕ) → first k (union a b) ≡ min (first k a) (first k b)
first-union k a b = le_antisymm low high
  where
    under : (s : ℕ) → ((r : ℕ) → member s r ≡ true → member (union a b) r ≡ true) → first k (union a b) ≤ first k s
    under s inside = elim (dec_le (first k s) k) [
      | yes l ↦ first-least k (union a b) (first k s) (inside (first k s) (first_member k s l))
      | no n ↦ omega (arith, first-le k (union a b))
    ]

    low : first k (union a b) ≤ min (first k a) (first k b)
    low = omega (arith, under a (λ r. union_left a b r), under b (λ r. union_right a b r))

    high : min (first k a) (first k b) ≤ first k (union a b)
    high = elim (dec_le (first k (union a b)) k) [
      | yes l ↦ elim (union_either a b (first k (union a b)) (first_member k (union a b) l)) [
        | inl m ↦ omega (arith, first-least k a (first k (union a b)) m)
        | inr m ↦ omega (arith, first-least k b (first k (union a b)) m)
      ]
      | no n ↦ omega (arith, first-le k a)
    ]

-- ---- sets joined are empty, or lie in a set, if and only if each does

pub empty_union : (a b : ℕ) → (union a b == 0) ≡ (a == 0) && b == 0
empty_union a b =
    same_test (union a b == 0) (a == 0 && b == 0)
    (λ t. let e = eqb-true (union a b) 0 t in
    and_true (a == 0) (b == 0)
    (eq-eqb a 0 (omega (arith, or_add_and a b, and_le_l a b, and_le_r a b))) (eq-eqb b 0 (omega (arith, or_add_and a b, and_le_l a b, and_le_r a b))))
    (λ t. eq-eqb (union a b) 0 (omega (arith, or_add_and a b, eqb-true a 0 (and_left (a == 0) (b == 0) t), eqb-true b 0 (and_right (a == 0) (b == 0) t))))

-- any number is below a power of two
pub below_power : (n : ℕ) → n < 2 ^ n
below_power zero = omega arith
below_power (suc n) = omega (arith, pow-suc 2 n, below_power n)

pub subset-union : (a b c : ℕ) → subset (union a b) c ≡ subset a c && subset b c
subset-union a b c =
    let k = a + b in
    let ha : a < 2 ^ k = omega (arith, below_power k) in
    let hb : b < 2 ^ k = omega (arith, below_power k) in
    same_test (subset (union a b) c) (subset a c && subset b c)
    (λ t. and_true (subset a c) (subset b c)
    (member-subset k a c ha (λ r l m. subset-member (union a b) c r t (union_left a b r m)))
    (member-subset k b c hb (λ r l m. subset-member (union a b) c r t (union_right a b r m))))
    (λ t. member-subset k (union a b) c (or_lt k a b ha hb)
    (λ r l m. ⊎_elim (subset-member a c r (and_left (subset a c) (subset b c) t)) (subset-member b c r (and_right (subset a c) (subset b c) t)) (union_either a b r m)))

pub empty_minus : (a b : ℕ) → (minus a b == 0) ≡ subset a b
empty_minus a b =
    let both = bit_and a b in
    same_test (minus a b == 0) (subset a b)
    (λ t. let e = eqb-true (minus a b) 0 t in eq-eqb both a (omega (arith, xor_add_and a both, and_le_l a both, and_le_r a both)))
    (λ t. eq-eqb (minus a b) 0 (ap (bit_xor a) (eqb-true both a t) ∙ xor_self a))

-- sets joined in another order
pub union_assoc : (a b c : ℕ) → union (union a b) c ≡ union a (union b c)
union_assoc a b c =
    let k = a + b + c in
    let ha : a < 2 ^ k = omega (arith, below_power k) in
    let hb : b < 2 ^ k = omega (arith, below_power k) in
    let hc : c < 2 ^ k = omega (arith, below_power k) in
    same_bits k (union (union a b) c) (union a (union b c)) (or_lt k (union a b) c (or_lt k a b ha hb) hc) (or_lt k a (union b c) ha (or_lt k b c hb hc))
    (λ i l. omega (arith, or-bit (union a b) c i, or-bit a b i, or-bit a (union b c) i, or-bit b c i))

pub union_pairs : (a b c d : ℕ) → union (union a b) (union c d) ≡ union (union a c) (union b d)
union_pairs a b c d =
    union_assoc a b (union c d)
    ∙ ap (union a) (sym (union_assoc b c d) ∙ ap (λ (n : ℕ). union n d) (or_comm b c) ∙ union_assoc c b d)
    ∙ sym (union_assoc a c (union b d))

-- one set more is joined
pub unions_next : (n : ℕ) (f : ℕ → ℕ) → unions (n + 1) f ≡ union (unions n f) (f (suc n))
unfolding unions
unions_next n f = rw add-one

-- n sets more, behind the first i
pub unions_split : (i n : ℕ) (f : ℕ → ℕ) → union (unions i f) (unions n (λ k. f (i + k))) ≡ unions (i + n) f
unfolding unions
unions_split i zero f = or_zero_r (unions i f) ∙ ap (λ (k : ℕ). unions k f) (sym (add-zero i))
unions_split i (suc n) f =
    sym (union_assoc (unions i f) (unions n (λ k. f (i + k))) (f (i + suc n)))
    ∙ ap₂ union (unions_split i n f) (ap f (add-suc i n)) ∙ ap (λ (k : ℕ). unions k f) (sym (add-suc i n))

-- empty sets behind the first n add nobody
pub unions_rest : (n m : ℕ) (f : ℕ → ℕ) → n ≤ m → ((i : ℕ) → n < i → f i ≡ 0) → unions n f ≡ unions m f
unfolding unions
unions_rest n zero f l none = let same : n ≡ 0 = omega arith in ap (λ (k : ℕ). unions k f) same
unions_rest n (suc m) f l none = elim (ℕ_discrete n (suc m)) [
  | yes e ↦ ap (λ (k : ℕ). unions k f) e
  | no d ↦ unions_rest n m f (omega arith) none ∙ sym (ap (union (unions m f)) (none (suc m) (omega arith)) ∙ or_zero_r (unions m f))
]

-- two sets at each, in one union or in two
pub unions_both : (n : ℕ) (f g : ℕ → ℕ) → union (unions n f) (unions n g) ≡ unions n (λ k. union (f k) (g k))
unfolding unions
unions_both zero f g = refl
unions_both (suc n) f g =
    union_pairs (unions n f) (f (suc n)) (unions n g) (g (suc n)) ∙ ap (λ (s : ℕ). union s (union (f (suc n)) (g (suc n)))) (unions_both n f g)

neither_left : (p q : Bool) → p || q ≡ false → p ≡ false
neither_left p q e = (neither p q (ap not e)).0

neither_right : (p q : Bool) → p || q ≡ false → q ≡ false
neither_right p q e = (neither p q (ap not e)).1

-- who is not in all of them together is in none of them
pub member-unions : (n : ℕ) (f : ℕ → ℕ) (r i : ℕ) → member (unions n f) r ≡ false → 1 ≤ i → i ≤ n → member (f i) r ≡ false
unfolding unions
member-unions zero f r i e a b = absurd (omega arith)
member-unions (suc n) f r i e a b =
    let both = sym (member_union (unions n f) (f (suc n)) r) ∙ e in
    elim (ℕ_discrete i (suc n)) [
      | yes q ↦ ap (λ (k : ℕ). member (f k) r) q ∙ neither_right (member (unions n f) r) (member (f (suc n)) r) both
      | no d ↦ member-unions n f r i (neither_left (member (unions n f) r) (member (f (suc n)) r) both) a (omega arith)
    ]

-- a rank of one of them is in all of them together
pub in_unions : (n : ℕ) (f : ℕ → ℕ) (r i : ℕ) → 1 ≤ i → i ≤ n → member (f i) r ≡ true → member (unions n f) r ≡ true
in_unions n f r i a b m = go (member (unions n f) r) refl
  where
    go : (t : Bool) → member (unions n f) r ≡ t → member (unions n f) r ≡ true
    go true e = e
    go false e = absurd (clash m (member-unions n f r i e a b))

-- a rank of all of them together is in one of them
pub unions_in : (n : ℕ) (f : ℕ → ℕ) (r : ℕ) → member (unions n f) r ≡ true → (i : ℕ) × (1 ≤ i) × (i ≤ n) × (member (f i) r ≡ true)
unfolding unions
unions_in zero f r m = absurd (clash m (member_empty r))
unions_in (suc n) f r m = elim (union_either (unions n f) (f (suc n)) r m) [
  | inl p ↦ (let rest = unions_in n f r p in (rest.0, rest.1, omega (arith, rest.2), rest.3))
  | inr p ↦ (suc n, omega arith, omega arith, p)
]

pub unions-lt : (k n : ℕ) (f : ℕ → ℕ) → ((i : ℕ) → 1 ≤ i → i ≤ n → f i < 2 ^ k) → unions n f < 2 ^ k
unfolding unions
unions-lt k zero f h = pow_pos k
unions-lt k (suc n) f h = union-lt k (unions n f) (f (suc n)) (unions-lt k n f (λ i a b. h i a (omega arith))) (h (suc n) (omega arith) (omega arith))

pub unions_empty : (n : ℕ) (f : ℕ → ℕ) → (unions n f == 0) ≡ every n (λ i. nat_eq (f i) 0)
unfolding unions every
unions_empty zero f = refl
unions_empty (suc n) f = empty_union (unions n f) (f (suc n)) ∙ ap (λ (t : Bool). t && f (suc n) == 0) (unions_empty n f)

pub unions-subset : (n c : ℕ) (f : ℕ → ℕ) → subset (unions n f) c ≡ every n (λ i. subset (f i) c)
unfolding unions every
unions-subset zero c f = refl
unions-subset (suc n) c f =
    subset-union (unions n f) (f (suc n)) c ∙ ap (λ (t : Bool). t && subset (f (suc n)) c) (unions-subset n c f)

-- ---- ranks up to k only

pub subset-le : (a b : ℕ) → subset a b ≡ true → a ≤ b
subset-le a b e = omega (arith, and_le_r a b, eqb-true (bit_and a b) a e)

pub subset-up_to : (k set : ℕ) → subset set (up_to k) ≡ nat_lt set (2 ^ k)
subset-up_to k set =
    same_test (subset set (up_to k)) (nat_lt set (2 ^ k))
    (λ t. lt-ltb set (2 ^ k) (omega (arith, eqb-true (bit_and set (up_to k)) set t, mask_lt set k)))
    (λ t. eq-eqb (bit_and set (up_to k)) set (and_mask set k ∙ mod-eq_of_lt (ltb-true set (2 ^ k) t)))

-- ---- no two members

some_size : (k n : ℕ) → n < 2 ^ k → 0 < n → 1 ≤ size n
some_size k n h p = ones_pos n (count_trailing_zeros k n) (trailing_set k n (trailing_lt k n p h))

-- taking the least member out leaves nothing if and only if there is at most one
abbrev OneLeft : ℕ → Type 0
OneLeft n = (but_first n ≡ 0 → size n ≤ 1) × (size n ≤ 1 → but_first n ≡ 0)

module _ (k n : ℕ) (half : n / 2 < 2 ^ k) (rest : OneLeft (n / 2)) where
  but_first_odd : n % 2 ≡ 1 → but_first n ≡ n / 2 * 2
  but_first_odd e =
      let same : (n - 1) / 2 ≡ n / 2 = omega arith in
      let even : (n - 1) % 2 ≡ 0 = omega arith in
      and_step n (n - 1) ∙ ap₂ (λ (x y : ℕ). bit_and (n / 2) x * 2 + min (n % 2) y) same even
      ∙ omega (arith, and_self (n / 2))

  but_first_even : n % 2 ≡ 0 → 0 < n / 2 → but_first n ≡ but_first (n / 2) * 2
  but_first_even e p =
      let less : (n - 1) / 2 ≡ n / 2 - 1 = omega arith in
      and_step n (n - 1) ∙ ap (λ (x : ℕ). bit_and (n / 2) x * 2 + min (n % 2) ((n - 1) % 2)) less ∙ omega arith

  one_left_step : (d : ℕ) → n % 2 ≡ d → (n / 2 ≡ 0) ⊎ (0 < n / 2) → OneLeft n
  one_left_step zero e (inl z) =
      (λ q. omega (arith, ones_step n, ones-le 0 (n / 2) (omega arith)), λ q. omega (arith, and_le_l n (n - 1)))
  one_left_step zero e (inr p) = (
    λ q. omega (arith, ones_step n, rest.0 (omega (arith, but_first_even e p))),
    λ q. omega (arith, but_first_even e p, rest.1 (omega (arith, ones_step n))),
  )
  one_left_step (suc d) e (inl z) =
      (λ q. omega (arith, ones_step n, ones-le 0 (n / 2) (omega arith)), λ q. omega (arith, but_first_odd (omega arith)))
  one_left_step (suc d) e (inr p) =
      (λ q. absurd (omega (arith, but_first_odd (omega arith))), λ q. absurd (omega (arith, ones_step n, some_size k (n / 2) half p)))

one_left : (k n : ℕ) → n < 2 ^ k → OneLeft n
one_left zero n h = (λ e. omega (arith, ones-le 0 n h), λ e. omega (arith, and_le_l n (n - 1)))
one_left (suc k) n h =
    let half : n / 2 < 2 ^ k = omega (arith, pow-suc 2 k) in
    one_left_step k n half (one_left k (n / 2) half) (n % 2) refl (eq-zero-or-pos (n / 2))

pub but_first-at_most_one : (n : ℕ) → (but_first n == 0) ≡ at_most_one n
but_first-at_most_one n =
    let both = one_left n n (below_power n) in
    same_test (but_first n == 0) (at_most_one n)
    (λ t. le-leb (size n) 1 (both.0 (eqb-true (but_first n) 0 t)))
    (λ t. eq-eqb (but_first n) 0 (both.1 (leb-true (size n) 1 t)))

pub empty_at_most_one : at_most_one 0 ≡ true
empty_at_most_one = le-leb (size 0) 1 (omega (arith, ones-le 0 0 (pow_pos 0)))

-- ---- the size of a set, counted rank by rank

count_bit : (set i : ℕ) → one_if (member set (suc i)) ≡ bit set i
unfolding member
count_bit set i = go (bit set i) (bit-lt set i)
  where
    go : (b : ℕ) → b < 2 → one_if (b == 1) ≡ b
    go zero h = refl
    go (suc zero) h = refl
    go (suc (suc b)) h = absurd (omega arith)

pub size_counts : (k set : ℕ) → set < 2 ^ k → size set ≡ sum k (λ r. one_if (member set r))
unfolding sum
size_counts zero set h = omega (arith, ones-le 0 set h)
size_counts (suc k) set h =
    let half : set / 2 < 2 ^ k = omega (arith, pow-suc 2 k) in
    ones_step set
    ∙ ap₂ ◌+◌ (sym (count_bit set 0 ∙ bit-zero set))
    (size_counts k (set / 2) half ∙ sum_same k (λ r. one_if (member (set / 2) r)) (λ r. one_if (member set (suc r))) next)
    ∙ sym (sum_first k (λ r. one_if (member set r)))
  where
    next : (r : ℕ) → 1 ≤ r → r ≤ k → one_if (member (set / 2) r) ≡ one_if (member set (suc r))
    next zero a b = absurd (omega arith)
    next (suc i) a b = count_bit (set / 2) i ∙ sym (count_bit set (suc i) ∙ bit-suc set i)
