-- Lists joined, `joined n f`: equal if their parts are; empty parts behind the last; a part that grows; the front of more.
-- Assumes nothing.
use Rattle.std.specs.Prelude.{◌≡◌, refl, ◌⊎◌, List, [], ◌++◌, ℕ, zero, suc, ◌≤◌, ◌<◌, length}
use Rattle.std.proofs.Common.{sym, ap, ap₂, ◌∙◌, inl, inr, append_assoc, append-nil, le_refl, eq-or-lt_of_le, le_of_suc-le-suc, arith, length-append}
use Rattle.basics.specs.Loops.{joined}

pub joined_same : (n : ℕ) (f g : ℕ → List ℕ) → ((i : ℕ) → 1 ≤ i → i ≤ n → f i ≡ g i) → joined n f ≡ joined n g
unfolding joined
joined_same zero f g e = refl
joined_same (suc n) f g e = ap₂ ◌++◌ (joined_same n f g (λ i a b. e i a (omega arith))) (e (suc n) (omega arith) (le_refl (suc n)))

-- what is behind part a is empty
pub joined_rest : (a n : ℕ) (f : ℕ → List ℕ) → a ≤ n → ((i : ℕ) → a < i → i ≤ n → f i ≡ []) → joined n f ≡ joined a f
unfolding joined
joined_rest a zero f l e = let z : 0 ≡ a = omega arith in ap (λ (k : ℕ). joined k f) z
joined_rest a (suc n) f l e = go (λ h. joined_rest a n f h (λ i u v. e i u (omega arith))) (eq-or-lt_of_le l)
  where
    go : (a ≤ n → joined n f ≡ joined a f) → (a ≡ suc n) ⊎ (a < suc n) → joined (suc n) f ≡ joined a f
    go rest (inl q) = ap (λ (k : ℕ). joined k f) (sym q)
    go rest (inr q) = ap (λ (x : List ℕ). joined n f ++ x) (e (suc n) q (le_refl (suc n))) ∙ append-nil (joined n f) ∙ rest (le_of_suc-le-suc q)

pub joined_none : (n : ℕ) (f : ℕ → List ℕ) → ((i : ℕ) → 1 ≤ i → i ≤ n → f i ≡ []) → joined n f ≡ []
unfolding joined
joined_none n f e = joined_rest 0 n f (omega arith) e

-- g is f with xs more in part w, behind which both are empty
pub joined_add : (f g : ℕ → List ℕ) (xs : List ℕ) (w n : ℕ) → 1 ≤ w → w ≤ n
    → ((i : ℕ) → 1 ≤ i → i < w → g i ≡ f i) → g w ≡ f w ++ xs
    → ((i : ℕ) → w < i → i ≤ n → f i ≡ []) → ((i : ℕ) → w < i → i ≤ n → g i ≡ []) → joined n g ≡ joined n f ++ xs
unfolding joined
joined_add f g xs zero n low high same here fe ge = absurd (omega arith)
joined_add f g xs (suc w) n low high same here fe ge =
    joined_rest (suc w) n g high ge
    ∙ ap₂ ◌++◌ (joined_same w g f (λ i a b. same i a (omega arith))) here
    ∙ sym (append_assoc (joined w f) (f (suc w)) xs)
    ∙ ap (λ (l : List ℕ). l ++ xs) (sym (joined_rest (suc w) n f high fe))

-- the first k parts are the front of n
pub joined_split : (k n : ℕ) (f : ℕ → List ℕ) → k ≤ n → (more : List ℕ) × (joined n f ≡ joined k f ++ more)
unfolding joined
joined_split k zero f l = let z : 0 ≡ k = omega arith in ([], ap (λ (m : ℕ). joined m f) z ∙ sym (append-nil (joined k f)))
joined_split k (suc n) f l = go (joined_split k n f) (eq-or-lt_of_le l)
  where
    go : (k ≤ n → (more : List ℕ) × (joined n f ≡ joined k f ++ more)) → (k ≡ suc n) ⊎ (k < suc n)
        → (more : List ℕ) × (joined (suc n) f ≡ joined k f ++ more)
    go rest (inl q) = ([], ap (λ (m : ℕ). joined m f) (sym q) ∙ sym (append-nil (joined k f)))
    go rest (inr q) =
        let p = rest (le_of_suc-le-suc q) in
        (p.0 ++ f (suc n), ap (λ (l : List ℕ). l ++ f (suc n)) p.1 ∙ append_assoc (joined k f) p.0 (f (suc n)))

pub joined_grows : (k n : ℕ) (f : ℕ → List ℕ) → k ≤ n → length (joined k f) ≤ length (joined n f)
joined_grows k n f l =
    let p = joined_split k n f l in
    omega (arith, ap length p.1 ∙ length-append (joined k f) p.0)
