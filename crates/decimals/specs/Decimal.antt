-- Decimal numbers as bytes (01, "The bench record"), and their laws: the digits one by one and by thousands, and how many there are.
-- Assumes nothing.
use Rattle.std.specs.Prelude.{ℕ, zero, suc, ◌+◌, ◌*◌, ◌/◌, ◌%◌, ◌^◌, ◌≤◌, ◌<◌, ◌≡◌, refl, Bool, true, false, List, [], ◌∷◌, ◌++◌, ltb, length, if◌then◌else◌}
use Rattle.std.proofs.Common.{ap, ◌∙◌, append_assoc, pow-suc, arith, length-append, ltb-true, ltb-false, lt-ltb, le-ltb}

-- ---- "numbers in decimal without leading zeros"

abbrev pub digit : ℕ → ℕ
digit d = 48 + d

-- the last `depth` digits of n, without leading zeros
unfoldable pub decimal_within : (depth n : ℕ) → List ℕ
decimal_within zero n = []
decimal_within (suc k) n = (if ltb n 10 then [] else decimal_within k (n / 10)) ++ (digit (n % 10) ∷ [])

-- n has no more than n + 1 digits
unfoldable pub decimal : ℕ → List ℕ
decimal n = decimal_within (suc n) n

-- ---- a number's digits

-- the digits of a number below a thousand, with its leading zeros
abbrev pub three_digits : ℕ → List ℕ
three_digits n = digit (n / 100) ∷ digit (n / 10 % 10) ∷ digit (n % 10) ∷ []

-- once the depth is above the number, it makes no difference
same_depth : (j k n : ℕ) → n < j → n < k → decimal_within j n ≡ decimal_within k n
unfolding decimal_within
same_depth zero k n a b = absurd (omega arith)
same_depth (suc j) zero n a b = absurd (omega arith)
same_depth (suc j) (suc k) n a b = go (ltb n 10) refl (λ h. same_depth j k (n / 10) (omega arith) (omega arith))
  where
    go : (t : Bool) → ltb n 10 ≡ t → (10 ≤ n → decimal_within j (n / 10) ≡ decimal_within k (n / 10)) → decimal_within (suc j) n ≡ decimal_within (suc k) n
    go true e rest = simp e
    go false e rest = let r = rest (ltb-false n 10 e) in simp (e, r)

pub decimal_one : (n : ℕ) → n < 10 → decimal n ≡ digit n ∷ []
unfolding decimal decimal_within
decimal_one n h =
    let small = lt-ltb n 10 h in
    let same : n % 10 ≡ n = omega arith in
    simp (small, same)

decimal_more : (n : ℕ) → 10 ≤ n → decimal n ≡ decimal (n / 10) ++ (digit (n % 10) ∷ [])
unfolding decimal decimal_within
decimal_more n h =
    let large = le-ltb n 10 h in
    let same = same_depth n (suc (n / 10)) (n / 10) (omega arith) (omega arith) in
    simp large (ap (λ (l : List ℕ). l ++ (digit (n % 10) ∷ [])) same)

decimal_more_length : (n : ℕ) → 10 ≤ n → length (decimal n) ≡ length (decimal (n / 10)) + 1
decimal_more_length n h = ap length (decimal_more n h) ∙ length-append (decimal (n / 10)) (digit (n % 10) ∷ [])

pub decimal_two : (n : ℕ) → 10 ≤ n → n < 100 → decimal n ≡ digit (n / 10) ∷ digit (n % 10) ∷ []
decimal_two n l h = decimal_more n l ∙ ap (λ (front : List ℕ). front ++ (digit (n % 10) ∷ [])) (decimal_one (n / 10) (omega arith))

pub decimal_three : (n : ℕ) → 100 ≤ n → n < 1000 → decimal n ≡ three_digits n
decimal_three n l h =
    let hundreds : n / 10 / 10 ≡ n / 100 = omega arith in
    decimal_more n (omega arith)
    ∙ ap (λ (front : List ℕ). front ++ (digit (n % 10) ∷ [])) (decimal_two (n / 10) (omega arith) (omega arith))
    ∙ ap (λ (first : ℕ). digit first ∷ digit (n / 10 % 10) ∷ digit (n % 10) ∷ []) hundreds

-- a number from a thousand on: its thousands, and three digits of what is left
pub decimal_thousands : (n : ℕ) → 1000 ≤ n → decimal n ≡ decimal (n / 1000) ++ three_digits (n % 1000)
decimal_thousands n h =
    let thousands : n / 10 / 10 / 10 ≡ n / 1000 = omega arith in
    let hundreds : n / 10 / 10 % 10 ≡ n % 1000 / 100 = omega arith in
    let tens : n / 10 % 10 ≡ n % 1000 / 10 % 10 = omega arith in
    let ones : n % 10 ≡ n % 1000 % 10 = omega arith in
    let hundred = decimal_more (n / 10 / 10) (omega arith) in
    let ten = decimal_more (n / 10) (omega arith) in
    let one = decimal_more n (omega arith) in
    rw (one, ten, hundred) (simp append_assoc (rw (thousands, hundreds, tens, ones)))

pub decimal_thousands_length : (n : ℕ) → 1000 ≤ n → length (decimal n) ≡ length (decimal (n / 1000)) + 3
decimal_thousands_length n h = ap length (decimal_thousands n h) ∙ length-append (decimal (n / 1000)) (three_digits (n % 1000))

-- a number below the (k + 1)-th power of ten has at most k + 1 digits
pub decimal_length : (k n : ℕ) → n < 10 ^ suc k → length (decimal n) ≤ suc k
decimal_length zero n h = omega (arith, ap length (decimal_one n h))
decimal_length (suc k) n h = go (ltb n 10) refl (decimal_length k (n / 10))
  where
    tenth : (m : ℕ) → n < m * 10 → n / 10 < m
    tenth m l = omega arith

    go : (t : Bool) → ltb n 10 ≡ t → (n / 10 < 10 ^ suc k → length (decimal (n / 10)) ≤ suc k) → length (decimal n) ≤ suc (suc k)
    go true e rest = omega (arith, ap length (decimal_one n (ltb-true n 10 e)))
    go false e rest =
        let l = rest (tenth (10 ^ suc k) (rw pow-suc at h)) in
        omega (arith, decimal_more_length n (ltb-false n 10 e))

-- a number of 8 bits has at most 3 digits, one of 64 bits at most 20
pub byte_length : (n : ℕ) → n < 256 → length (decimal n) ≤ 3
byte_length n h = decimal_length 2 n (omega arith)

pub word_length : (n : ℕ) → n < 2 ^ 64 → length (decimal n) ≤ 20
word_length n h = decimal_length 19 n (omega arith)
