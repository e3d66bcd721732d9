-- The lower of two numbers without a test of which it is: the top bit of their difference chooses, in a word of any width, k + 1 bits.
-- From the law of a number's upper digits (`high`) and from laws of order.
-- Assumes nothing.
use mathlib.Core.Path.{◌≡◌, refl, ap, ap₂, ◌∙◌}
use mathlib.Core.Bool.{Bool, true, false}
use Prim.Native.Nat.{ℕ, suc, ◌+◌, ◌-◌, ◌*◌, ◌/◌, ◌^◌, ◌≤◌, ◌<◌, min}
use native.Mathlib.Nat.{pow-suc, mul-add, mul-le-mul_left, mul-le-mul_right}
use native.Mathlib.Omega.{arith}
use lib.Dec.{leb}
use lib.Pow.{high}
use borrow.Author.Tests.{leb-true, leb-false}

-- ---- the top bit of a word of k + 1 bits

top_set : (k n low : ℕ) → low < 2 ^ k → n ≡ 1 * 2 ^ k + low → n / 2 ^ k ≡ 1
top_set k n low h e = ap (λ (x : ℕ). x / 2 ^ k) e ∙ high 1 k h

top_clear : (k n : ℕ) → n < 2 ^ k → n / 2 ^ k ≡ 0
top_clear k n h =
    let e : n ≡ 0 * 2 ^ k + n = omega arith in
    ap (λ (x : ℕ). x / 2 ^ k) e ∙ high 0 k h

-- ---- the choice: a where the top bit of 2 ^ k + b - a is 1, and b where it is 0, that of the complement is 1

pub lower_by_top_bit : (k a b x : ℕ) → a < 2 ^ k → b < 2 ^ k → x ≡ 2 ^ k + b - a → a * (x / 2 ^ k) + b * ((2 ^ suc k - 1 - x) / 2 ^ k) ≡ min a b
lower_by_top_bit k a b x ha hb e = go (leb a b) refl
  where
    go : (t : Bool) → leb a b ≡ t → a * (x / 2 ^ k) + b * ((2 ^ suc k - 1 - x) / 2 ^ k) ≡ min a b
    go true t =
        let l = leb-true a b t in
        ap₂
        (λ (m n : ℕ). a * m + b * n)
        (top_set k x (b - a) (omega arith) (omega arith))
        (top_clear k (2 ^ suc k - 1 - x) (omega (arith, pow-suc 2 k)))
        ∙ omega arith
    go false t =
        let l = leb-false a b t in
        ap₂
        (λ (m n : ℕ). a * m + b * n)
        (top_clear k x (omega arith))
        (top_set k (2 ^ suc k - 1 - x) (a - suc b) (omega arith) (omega (arith, pow-suc 2 k)))
        ∙ omega arith

-- ---- what the products come to: a number below m times a bit is below m, and so is the sum of two where one bit at most is 1

pub times_bit : {m n t : ℕ} → n < m → t ≤ 1 → n * t < m
times_bit {n = n} h l = omega (arith, mul-le-mul_left n l)

pub one_taken : {m a b : ℕ} (s t : ℕ) → a < m → b < m → s + t ≤ 1 → a * s + b * t < m
one_taken {m} {a} {b} s t ha hb h =
    let p = m - 1 in
    let la : a ≤ p = omega arith in
    let lb : b ≤ p = omega arith in
    omega (arith, mul-le-mul_right s la, mul-le-mul_right t lb, mul-add p s t, mul-le-mul_left p h)
