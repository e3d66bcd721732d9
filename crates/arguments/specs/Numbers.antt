-- What a text says as a decimal number; then the laws of its digits, one after the other.
-- Assumes nothing.
use Rattle.std.specs.Prelude.{ℕ, zero, suc, ◌+◌, ◌*◌, ◌-◌, ◌≤◌, ◌<◌, ◌≡◌, refl, ◌⊎◌, Bool, true, false, ◌&&◌, List, leb, ltb, length, if◌then◌else◌, Option, Some, None}
use Rattle.std.proofs.Common.{ap, inl, inr, eq-or-lt_of_le, add-one, arith, leb-true, leb-false, le-leb}
use Rattle.std.proofs.lemmas.Bool.{lt-leb}
use Rattle.basics.specs.Choice.{between, and_right}
use Rattle.basics.specs.Loops.{every, every-at}
use Rattle.basics.specs.Arrays.{at}

abbrev pub is_digit : ℕ → Bool
is_digit byte = between 48 57 byte

-- decimal digits alone, one or more
unfoldable pub is_decimal : List ℕ → Bool
is_decimal text = ltb 0 (length text) && every (length text) (λ i. is_digit (at text i))

-- a number with a digit more
abbrev pub with_digit : (value digit : ℕ) → ℕ
with_digit value digit = 10 * value + (digit - 48)

-- the number that the first n bytes say as digits
unfoldable pub said_by : List ℕ → ℕ → ℕ
said_by text zero = 0
said_by text (suc n) = with_digit (said_by text n) (at text (suc n))

-- a number that may be `most`, and no more
unfoldable pub at_most : (most number : ℕ) → Option ℕ
at_most most number = if leb number most then Some number else None

-- what a text says where a number up to `most` is wanted
unfoldable pub number_in : (most : ℕ) → List ℕ → Option ℕ
number_in most text = if is_decimal text then at_most most (said_by text (length text)) else None

-- ---- a number, and one that is too large

pub at_most_value : (most n : ℕ) → n ≤ most → at_most most n ≡ Some n
unfolding at_most
at_most_value most n h = simp (le-leb n most h)

pub at_most_invalid : (most n : ℕ) → most < n → at_most most n ≡ None
unfolding at_most
at_most_invalid most n h = simp (lt-leb n most h)

pub at_most_is : (most m n : ℕ) → Some n ≡ at_most most m → (n ≡ m) × (m ≤ most)
unfolding at_most
at_most_is most m n e = go (leb m most) refl e
  where
    go : (b : Bool) → leb m most ≡ b → Some n ≡ (if b then Some m else None) → (n ≡ m) × (m ≤ most)
    go true l q = (cc, leb-true m most l)
    go false l q = let z : ◌≡◌ {A = ℕ} 0 1 = cc in absurd (omega arith)

pub at_most_not : (most m : ℕ) → None ≡ at_most most m → most < m
unfolding at_most
at_most_not most m e = go (leb m most) refl e
  where
    go : (b : Bool) → leb m most ≡ b → None ≡ (if b then Some m else None) → most < m
    go true l q = let z : ◌≡◌ {A = ℕ} 0 1 = cc in absurd (omega arith)
    go false l q = leb-false m most l

-- a number that a text says is one that is wanted
pub value_at_most : (most n : ℕ) (text : List ℕ) → Some n ≡ number_in most text → n ≤ most
unfolding number_in
value_at_most most n text e = go (is_decimal text) e
  where
    go : (d : Bool) → Some n ≡ (if d then at_most most (said_by text (length text)) else None) → n ≤ most
    go true q = omega (arith, at_most_is most (said_by text (length text)) n q)
    go false q = let z : ◌≡◌ {A = ℕ} 0 1 = cc in absurd (omega arith)

-- ---- digit by digit

pub said_more : (text : List ℕ) (n : ℕ) → said_by text (n + 1) ≡ with_digit (said_by text n) (at text (n + 1))
unfolding said_by
said_more text n = rw add-one

-- more digits say no smaller number
pub said_grows : (text : List ℕ) (m n : ℕ) → m ≤ n → said_by text m ≤ said_by text n
unfolding said_by
said_grows text m zero h = let none : m ≡ 0 = omega arith in omega (arith, ap (said_by text) none)
said_grows text m (suc n) h = go (said_grows text m n) (eq-or-lt_of_le h)
  where
    go : (m ≤ n → said_by text m ≤ said_by text n) → (m ≡ suc n) ⊎ (m < suc n) → said_by text m ≤ with_digit (said_by text n) (at text (suc n))
    go rest (inl e) = omega (arith, ap (said_by text) e)
    go rest (inr l) = omega (arith, rest (omega arith))

-- each byte of decimal digits is one
pub digit_at : (text : List ℕ) (i : ℕ) → is_decimal text ≡ true → i < length text → is_digit (at text (i + 1)) ≡ true
unfolding is_decimal
digit_at text i e h = every-at (length text) (λ k. is_digit (at text k)) (i + 1) (and_right (ltb 0 (length text)) _ e) (omega arith) (omega arith)
