-- What a set less one tells of two sets: that the second has at most one rank, and none where the first has one.
-- Assumes nothing.
use Rattle.std.specs.Prelude.{◌≡◌, ℕ, zero, suc, ◌+◌, ◌-◌, ◌*◌, ◌/◌, ◌%◌, ◌^◌, ◌<◌, min, max, Bool, true, false, ◌&&◌, ◌||◌, ◌⊎◌, bit_and}
use Rattle.std.proofs.Math.Path.{refl, sym, ap}
use Rattle.std.proofs.Common.{ap₂, ◌∙◌, inl, inr, pow-suc, eq-zero-or-pos, arith}
use Rattle.std.specs.Int.Bits.{and_step, or_step, and_self, and_zero_l, and_zero_r, or_zero_l}
use borrow.Author.Tests.{eqb-true, eq-eqb, lt-ltb}
use Rattle.basics.specs.Choice.{same_test, and_true, and_left, and_right, or_right}
use Rattle.ranks.specs.Ranks.{word_bits, is_empty, union, common, but_first, subset, disjoint, at_most_one, up_to, less_one}
use Rattle.ranks.specs.UnionLaws.{le-union, subset-union, subset-up_to, but_first-at_most_one, empty_at_most_one, below_power}

-- what a number's last bit says of the number less one
odd_half : (n : ℕ) → n % 2 ≡ 1 → ((n - 1) / 2 ≡ n / 2) × ((n - 1) % 2 ≡ 0)
odd_half n e = (omega arith, omega arith)

even_half : (n : ℕ) → n % 2 ≡ 0 → 0 < n → ((n - 1) / 2 ≡ n / 2 - 1) × ((n - 1) % 2 ≡ 1)
even_half n e p = (omega arith, omega arith)

-- the common bits of a number and another one less one
odd_less : (a n : ℕ) → n % 2 ≡ 1 → bit_and a (n - 1) ≡ bit_and (a / 2) (n / 2) * 2
odd_less a n e =
    let h = odd_half n e in
    and_step a (n - 1) ∙ ap₂ (λ (x y : ℕ). bit_and (a / 2) x * 2 + min (a % 2) y) h.0 h.1 ∙ omega arith

even_less : (a n : ℕ) → n % 2 ≡ 0 → 0 < n → bit_and a (n - 1) ≡ bit_and (a / 2) (n / 2 - 1) * 2 + min (a % 2) 1
even_less a n e p =
    let h = even_half n e p in
    and_step a (n - 1) ∙ ap₂ (λ (x y : ℕ). bit_and (a / 2) x * 2 + min (a % 2) y) h.0 h.1

union_half : (a b : ℕ) → (union a b / 2 ≡ union (a / 2) (b / 2)) × (union a b % 2 ≡ max (a % 2) (b % 2))
union_half a b = (omega (arith, or_step a b), omega (arith, or_step a b))

-- a set has all its ranks in common with a union that it is part of
in_union : (a b : ℕ) → bit_and b (union a b) ≡ b
in_union a b =
    let all : subset (union a b) (union a b) ≡ true = eq-eqb (bit_and (union a b) (union a b)) (union a b) (and_self (union a b)) in
    eqb-true (bit_and b (union a b)) b (and_right (subset a (union a b)) (subset b (union a b)) (sym (subset-union a b (union a b)) ∙ all))

abbrev Alone : ℕ → ℕ → Type 0
Alone a b = (but_first b ≡ 0) × (a ≡ 0)

-- the second set has a rank, so it has no other, and the first has none
module _ (a b : ℕ) (some : 0 < b) (inside : bit_and a (b - 1) ≡ a) (apart : bit_and b (union a b - 1) ≡ 0)
    (rest : 0 < b / 2 → bit_and (a / 2) (b / 2 - 1) ≡ a / 2 → bit_and (b / 2) (union (a / 2) (b / 2) - 1) ≡ 0 → Alone (a / 2) (b / 2)) where
  abbrev u : ℕ
  u = union a b

  -- where the union is odd, nothing of the second set is left above the last bit
  odd_rest : u % 2 ≡ 1 → b / 2 ≡ 0
  odd_rest e =
      let halves = ap (bit_and (b / 2)) (union_half a b).0 ∙ in_union (a / 2) (b / 2) in
      omega (arith, odd_less b u e, apart, halves)

  first_odd : b % 2 ≡ 1 → Alone a b
  first_odd e =
      let none : b / 2 ≡ 0 = odd_rest (omega (arith, (union_half a b).1)) in
      let nothing : bit_and (a / 2) (b / 2) ≡ 0 = ap (bit_and (a / 2)) none ∙ and_zero_r (a / 2) in
      (odd_less b b e ∙ omega (arith, and_self (b / 2)), omega (arith, odd_less a b e, inside, nothing))

  first_even : b % 2 ≡ 0 → (d : ℕ) → a % 2 ≡ d → Alone a b
  first_even e (suc d) q = absurd (omega (arith, odd_rest (omega (arith, (union_half a b).1))))
  first_even e zero q =
      let half = union_half a b in
      let more : 0 < u = omega (arith, le-union a b) in
      let apart_less : bit_and b (u - 1) ≡ bit_and (b / 2) (union (a / 2) (b / 2) - 1) * 2 + min (b % 2) 1 =
      even_less b u (omega arith) more ∙ ap (λ (x : ℕ). bit_and (b / 2) (x - 1) * 2 + min (b % 2) 1) half.0 in
      let r = rest (omega arith) (omega (arith, even_less a b e some, inside)) (omega (arith, apart_less, apart)) in
      (even_less b b e some ∙ omega (arith, r.0), omega (arith, r.1))

only_one : (k a b : ℕ) → b < 2 ^ k → 0 < b → bit_and a (b - 1) ≡ a → bit_and b (union a b - 1) ≡ 0 → Alone a b
only_one zero a b h p i j = absurd (omega arith)
only_one (suc k) a b h p i j = go (only_one k (a / 2) (b / 2) (omega (arith, pow-suc 2 k))) (b % 2) refl
  where
    go : (0 < b / 2 → bit_and (a / 2) (b / 2 - 1) ≡ a / 2 → bit_and (b / 2) (union (a / 2) (b / 2) - 1) ≡ 0 → Alone (a / 2) (b / 2))
        → (d : ℕ) → b % 2 ≡ d → Alone a b
    go rest zero e = first_even a b p i j rest e (a % 2) refl
    go rest (suc d) e = first_odd a b p i j rest (omega arith)

-- the set less one of a set that has a rank
pub less_one_some : (n : ℕ) → 0 < n → less_one n ≡ n - 1
unfolding less_one
less_one_some zero p = absurd (omega arith)
less_one_some (suc n) p = omega arith

-- the first set lies in the second less one, and the second is apart from both together less one, if and only if the second has at most
-- one rank, and none where the first has one
module _ (a b : ℕ) (fits : a < 2 ^ word_bits) where
  abbrev Told : Bool
  Told = subset a (less_one b) && disjoint b (less_one (union a b))

  abbrev OneOrNone : Bool
  OneOrNone = at_most_one b && (is_empty b || is_empty a)

  told_alone : Told ≡ true → (b ≡ 0) ⊎ (0 < b) → OneOrNone ≡ true
  told_alone t (inl z) = simp (z, empty_at_most_one)
  told_alone t (inr p) =
      let inside = ap (bit_and a) (sym (less_one_some b p)) ∙ eqb-true (bit_and a (less_one b)) a (and_left (subset a (less_one b)) _ t) in
      let apart =
      ap (bit_and b) (sym (less_one_some (union a b) (omega (arith, le-union a b))))
      ∙ eqb-true (bit_and b (less_one (union a b))) 0 (and_right (subset a (less_one b)) _ t) in
      let one = only_one b a b (below_power b) p inside apart in
      and_true (at_most_one b) _ (sym (but_first-at_most_one b) ∙ eq-eqb (but_first b) 0 one.0) (or_right (is_empty b) (is_empty a) (eq-eqb a 0 one.1))

  alone_told : OneOrNone ≡ true → (b ≡ 0) ⊎ (0 < b) → Told ≡ true
  unfolding less_one
  alone_told o (inl z) =
      and_true (subset a (less_one b)) (disjoint b (less_one (union a b)))
      (ap (λ (n : ℕ). subset a (less_one n)) z ∙ subset-up_to word_bits a ∙ lt-ltb a (2 ^ word_bits) fits)
      (eq-eqb (bit_and b (less_one (union a b))) 0 (ap (λ (n : ℕ). bit_and n (less_one (union a b))) z ∙ and_zero_l (less_one (union a b))))
  alone_told o (inr p) =
      let none : a ≡ 0 = empty (is_empty b) refl (and_right (at_most_one b) _ o) in
      let same : union a b ≡ b = ap (λ (n : ℕ). union n b) none ∙ or_zero_l b in
      let first = eqb-true (but_first b) 0 (but_first-at_most_one b ∙ and_left (at_most_one b) _ o) in
      and_true (subset a (less_one b)) (disjoint b (less_one (union a b)))
      (eq-eqb (bit_and a (less_one b)) a (ap (λ (n : ℕ). bit_and n (less_one b)) none ∙ and_zero_l (less_one b) ∙ sym none))
      (eq-eqb (bit_and b (less_one (union a b))) 0 (ap (λ (n : ℕ). bit_and b (less_one n)) same ∙ ap (bit_and b) (less_one_some b p) ∙ first))
    where
      empty : (t : Bool) → is_empty b ≡ t → t || is_empty a ≡ true → a ≡ 0
      empty true e q = absurd (omega (arith, eqb-true b 0 e))
      empty false e q = eqb-true a 0 q

  pub less_one_alone : Told ≡ OneOrNone
  less_one_alone = same_test Told OneOrNone (λ t. told_alone t (eq-zero-or-pos b)) (λ o. alone_told o (eq-zero-or-pos b))

-- what a set has in common with itself less one
pub common-less_one : (set : ℕ) → common set (less_one set) ≡ but_first set
unfolding less_one
common-less_one zero = and_zero_l (up_to word_bits) ∙ sym (and_zero_l (0 - 1))
common-less_one (suc n) = let less : n ≡ suc n - 1 = omega arith in ap (bit_and (suc n)) less

-- a set is apart from itself less one if and only if it has at most one rank
pub less_one-at_most_one : (set : ℕ) → disjoint set (less_one set) ≡ at_most_one set
less_one-at_most_one set = ap is_empty (common-less_one set) ∙ but_first-at_most_one set
