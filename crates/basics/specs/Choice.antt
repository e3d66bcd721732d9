-- Choices by a test, refusals by the first condition that holds, and the laws of tests.
-- Assumes nothing.
use Rattle.std.specs.Prelude.{◌≡◌, refl, Bool, true, false, not, ◌&&◌, ◌||◌, ℕ, zero, suc, ◌≤◌, ◌<◌, leb}
use Rattle.std.proofs.Common.{ap₂, arith, leb-true, leb-false, le-leb}

infixr 5 ◌if◌else◌
infixr 5 ◌or_else◌
-- `8 if p else 9 if q else 0`: a refusal by its first condition that holds, 0 where none does
abbrev pub ◌if◌else◌ : ℕ → Bool → ℕ → ℕ
◌if◌else◌ n true rest = n
◌if◌else◌ n false rest = rest

-- the first refusal, or the second where the first is none
abbrev pub ◌or_else◌ : ℕ → ℕ → ℕ
◌or_else◌ zero b = b
◌or_else◌ (suc a) b = suc a

-- n is one of low, .., high
abbrev pub between : ℕ → ℕ → ℕ → Bool
between low high n = leb low n && leb n high

-- ---- a test has one value

pub clash : {b : Bool} → b ≡ true → b ≡ false → ⊥
clash t f = let z : ◌≡◌ {A = ℕ} 0 1 = cc in omega arith

-- two tests that say the same
pub same_test : (p q : Bool) → (p ≡ true → q ≡ true) → (q ≡ true → p ≡ true) → p ≡ q
same_test true true f g = refl
same_test true false f g = absurd (clash (f refl) refl)
same_test false true f g = absurd (clash (g refl) refl)
same_test false false f g = refl

-- ---- both tests, either test

pub and_true : (p q : Bool) → p ≡ true → q ≡ true → p && q ≡ true
and_true p q a b = ap₂ ◌&&◌ a b

pub and_left : (p q : Bool) → p && q ≡ true → p ≡ true
and_left true q e = refl
and_left false q e = e

pub and_right : (p q : Bool) → p && q ≡ true → q ≡ true
and_right true q e = e
and_right false q e = absurd (clash e refl)

pub or_right : (p q : Bool) → q ≡ true → p || q ≡ true
or_right true q e = refl
or_right false q e = e

pub neither : (p q : Bool) → not (p || q) ≡ true → (p ≡ false) × (q ≡ false)
neither true q e = absurd (clash e refl)
neither false true e = absurd (clash e refl)
neither false false e = (refl, refl)

-- ---- a number between two others

pub between_true : (low high n : ℕ) → between low high n ≡ true → (low ≤ n) × (n ≤ high)
between_true low high n e =
    (leb-true low n (and_left (leb low n) (leb n high) e), leb-true n high (and_right (leb low n) (leb n high) e))

pub inside_between : (low high n : ℕ) → low ≤ n → n ≤ high → between low high n ≡ true
inside_between low high n p q = and_true (leb low n) (leb n high) (le-leb low n p) (le-leb n high q)

-- a number from `low` on that is not between is above
pub above_between : (low high n : ℕ) → low ≤ n → between low high n ≡ false → high < n
above_between low high n p e = go (leb n high) refl
  where
    go : (b : Bool) → leb n high ≡ b → high < n
    go true l = absurd (clash (inside_between low high n p (leb-true n high l)) e)
    go false l = leb-false n high l

pub and_assoc : (p q r : Bool) → p && q && r ≡ p && (q && r)
and_assoc true q r = refl
and_assoc false q r = refl

-- ---- no refusal: each condition fails

pub if_zero : (n : ℕ) (t : Bool) (rest : ℕ) → (suc n if t else rest) ≡ 0 → (t ≡ false) × (rest ≡ 0)
if_zero n true rest e = absurd (omega arith)
if_zero n false rest e = (refl, e)

pub or_else_zero : (a b : ℕ) → (a or_else b) ≡ 0 → (a ≡ 0) × (b ≡ 0)
or_else_zero zero b e = (refl, e)
or_else_zero (suc a) b e = absurd (omega arith)

-- a refusal decides
pub or_else_first : (a b : ℕ) → (a ≡ 0 → ⊥) → (a or_else b) ≡ a
or_else_first zero b d = absurd (d refl)
or_else_first (suc a) b d = refl

-- ---- a number that is none of the refusals is not what decides

pub if_not : (v n : ℕ) (t : Bool) (rest : ℕ) → (n ≡ v → ⊥) → (rest ≡ v → ⊥) → (n if t else rest) ≡ v → ⊥
if_not v n true rest d f e = d e
if_not v n false rest d f e = f e

pub or_else_not : (v a b : ℕ) → (a ≡ v → ⊥) → (b ≡ v → ⊥) → (a or_else b) ≡ v → ⊥
or_else_not v zero b d f e = f e
or_else_not v (suc a) b d f e = d e
