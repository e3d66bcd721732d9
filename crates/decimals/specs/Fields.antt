-- Lines of fields as bytes: fields one space apart and a line feed behind the last, and a field right-aligned in its width; then the laws of the latter.
-- Assumes nothing.
use Rattle.std.specs.Prelude.{ℕ, suc, ◌-◌, ◌/◌, ◌%◌, ◌≤◌, ◌<◌, ◌≡◌, refl, Bool, true, false, List, [], ◌∷◌, ◌++◌, eqb, ltb, length, replicate, if◌then◌else◌}
use Rattle.std.proofs.Common.{ap, ◌∙◌, arith, length-append, eq-eqb, ne_eqb, ltb-true, ltb-false}
use Rattle.std.proofs.lemmas.List.{length-replicate}
use Rattle.decimals.specs.Decimal.{digit, decimal, decimal_one, decimal_two, decimal_three}

-- ---- "Fields stand one space apart .. and every line ends with a line feed." (01, "The bench record"; 02, CR 2: "one space between fields")

abbrev pub space : ℕ
space = 32

abbrev pub line_feed : ℕ
line_feed = 10

-- what stands behind a line's first field: the others, each after a space, and the line feed
abbrev pub behind : List (List ℕ) → List ℕ
behind [] = line_feed ∷ []
behind (field ∷ fields) = space ∷ (field ++ behind fields)

abbrev pub line : List ℕ → List (List ℕ) → List ℕ
line field fields = field ++ behind fields

-- ---- "right-aligned" (02, CR 2)

-- a text of at most so many bytes, with spaces before it
unfoldable pub right_aligned : (width : ℕ) → List ℕ → List ℕ
right_aligned width text = replicate (width - length text) space ++ text

pub aligned_length : (width : ℕ) (text : List ℕ) → length text ≤ width → length (right_aligned width text) ≡ width
unfolding right_aligned
aligned_length width text h =
    omega (arith, length-append (replicate (width - length text) space) text, length-replicate (width - length text) space)

-- a space before it is one more of its spaces
pub aligned_wider : (width : ℕ) (text : List ℕ) → length text ≤ width → space ∷ right_aligned width text ≡ right_aligned (suc width) text
unfolding right_aligned
aligned_wider width text h =
    let one : suc (width - length text) ≡ suc width - length text = omega arith in
    ap (λ (n : ℕ). replicate n space ++ text) one

-- the last digit of a number, and a space of 0: a digit that may be a leading zero
abbrev pub digit_or_space : ℕ → ℕ
digit_or_space n = if eqb n 0 then space else digit (n % 10)

-- a number below a thousand in three bytes
pub aligned_three : (n : ℕ) → n < 1000 → right_aligned 3 (decimal n) ≡ digit_or_space (n / 100) ∷ digit_or_space (n / 10) ∷ digit (n % 10) ∷ []
unfolding right_aligned
aligned_three n h = go (ltb n 10) refl (ltb n 100) refl
  where
    Goal : Type 0
    Goal = right_aligned 3 (decimal n) ≡ digit_or_space (n / 100) ∷ digit_or_space (n / 10) ∷ digit (n % 10) ∷ []

    go : (a : Bool) → ltb n 10 ≡ a → (b : Bool) → ltb n 100 ≡ b → Goal
    go true e b f =
        let small = ltb-true n 10 e in
        let same : n ≡ n % 10 = omega arith in
        ap (right_aligned 3) (decimal_one n small)
        ∙ simp (eq-eqb (n / 100) 0 (omega arith), eq-eqb (n / 10) 0 (omega arith)) (ap (λ (d : ℕ). space ∷ space ∷ digit d ∷ []) same)
    go false e true f =
        let tens : n / 10 ≡ n / 10 % 10 = omega (arith, ltb-true n 100 f) in
        ap (right_aligned 3) (decimal_two n (ltb-false n 10 e) (ltb-true n 100 f))
        ∙ simp (eq-eqb (n / 100) 0 (omega (arith, ltb-true n 100 f)), ne_eqb (n / 10) 0 (λ z. omega (arith, ltb-false n 10 e)))
        (ap (λ (d : ℕ). space ∷ digit d ∷ digit (n % 10) ∷ []) tens)
    go false e false f =
        let hundreds : n / 100 ≡ n / 100 % 10 = omega arith in
        ap (right_aligned 3) (decimal_three n (ltb-false n 100 f) h)
        ∙ simp (ne_eqb (n / 100) 0 (λ z. omega (arith, ltb-false n 100 f)), ne_eqb (n / 10) 0 (λ z. omega (arith, ltb-false n 100 f)))
        (ap (λ (d : ℕ). digit d ∷ digit (n / 10 % 10) ∷ digit (n % 10) ∷ []) hundreds)
