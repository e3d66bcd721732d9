-- Arrays whose elements count from 1: element 0, and an element past the last, is 0, and a store there changes nothing.
-- Assumes nothing.
use Rattle.std.specs.Prelude.{◌≡◌, refl, ◌≢◌, Bool, true, false, List, [], ◌∷◌, ◌++◌, ℕ, zero, suc, ◌+◌, ◌-◌, ◌≤◌, ◌<◌, length, get_or, set, take, replicate, if◌then◌else◌}
use Rattle.std.proofs.Common.{sym, ap, ◌∙◌, add-one, arith, length-set, get_or-set_same, get_or-set_other, length-take-le, take-suc}
use Rattle.std.proofs.Math.Decide.{dec_le, ℕ_discrete}
use Rattle.std.proofs.Math.ListN.{get_or-eq_default}
use Rattle.std.proofs.Math.Seq.{append_snoc}
use Rattle.std.proofs.lemmas.List.{set_at}
use Rattle.basics.specs.Choice.{between, same_test, between_true, inside_between}

-- element k
abbrev pub at : List ℕ → ℕ → ℕ
at xs zero = 0
at xs (suc i) = get_or xs i 0

-- the array with v as element k
abbrev pub put : List ℕ → ℕ → ℕ → List ℕ
put xs zero v = xs
put xs (suc i) v = set xs i v

-- the array with the first n elements gone through f
unfoldable pub mapped : (ℕ → ℕ) → ℕ → List ℕ → List ℕ
mapped f zero xs = xs
mapped f (suc n) [] = []
mapped f (suc n) (x ∷ xs) = f x ∷ mapped f n xs

-- ---- an element after a store

pub at-put_same : (xs : List ℕ) (k v : ℕ) → 1 ≤ k → k ≤ length xs → at (put xs k v) k ≡ v
at-put_same xs zero v a b = absurd (omega arith)
at-put_same xs (suc k) v a b = get_or-set_same xs k v 0 (omega arith)

pub at-put_other : (xs : List ℕ) (k v i : ℕ) → k ≢ i → at (put xs k v) i ≡ at xs i
at-put_other xs zero v i d = refl
at-put_other xs (suc k) v zero d = refl
at-put_other xs (suc k) v (suc i) d = get_or-set_other xs k i v 0 (λ e. d (ap suc (sym e)))

pub length-put : (xs : List ℕ) (k v : ℕ) → length (put xs k v) ≡ length xs
length-put xs zero v = refl
length-put xs (suc k) v = length-set xs k v

-- past the last element there is nothing
pub at_out : (xs : List ℕ) (n i : ℕ) → length xs ≡ n → ¬ ((1 ≤ i) × (i ≤ n)) → at xs i ≡ 0
at_out xs n zero e d = refl
at_out xs n (suc i) e d = get_or-eq_default xs 0 (outside (dec_le n i))
  where
    outside : Dec (n ≤ i) → length xs ≤ i
    outside (yes l) = omega arith
    outside (no l) = absurd (d (omega arith))

-- element n + 1 stands at n
pub at_next : (xs : List ℕ) (n : ℕ) → at xs (n + 1) ≡ get_or xs n 0
at_next xs n = rw add-one

-- ---- an array of zeros

pub at-zeros : (n k : ℕ) → at (replicate n 0) k ≡ 0
at-zeros n zero = refl
at-zeros zero (suc i) = refl
at-zeros (suc n) (suc zero) = refl
at-zeros (suc n) (suc (suc i)) = at-zeros n (suc i)

-- ---- an array whose elements 1, .., n are those of f, and the others 0

abbrev pub FilledTo : List ℕ → ℕ → (ℕ → ℕ) → Type 0
FilledTo xs n f = (k : ℕ) → at xs k ≡ (if between 1 n k then f k else 0)

pub filled_none : (m : ℕ) (f : ℕ → ℕ) → FilledTo (replicate m 0) 0 f
filled_none m f k = go (between 1 0 k) refl
  where
    go : (b : Bool) → between 1 0 k ≡ b → at (replicate m 0) k ≡ (if b then f k else 0)
    go true e = absurd (omega (arith, between_true 1 0 k e))
    go false e = at-zeros m k

-- one more
pub filled_more : (xs : List ℕ) (n v : ℕ) (f : ℕ → ℕ) → n < length xs → v ≡ f (n + 1) → FilledTo xs n f → FilledTo (set xs n v) (n + 1) f
filled_more xs n v f h e filled k = elim (ℕ_discrete k (suc n)) [ yes q ↦ here q | no d ↦ other d ]
  where
    here : k ≡ suc n → at (set xs n v) k ≡ (if between 1 (n + 1) k then f k else 0)
    here q =
        let inside = inside_between 1 (n + 1) k (omega arith) (omega arith) in
        ap (at (set xs n v)) q ∙ at-put_same xs (suc n) v (omega arith) h ∙ e ∙ ap f (add-one n ∙ sym q) ∙ sym (simp inside)

    same : k ≢ suc n → between 1 n k ≡ between 1 (n + 1) k
    same d =
        same_test (between 1 n k) (between 1 (n + 1) k)
        (λ t. let l = between_true 1 n k t in inside_between 1 (n + 1) k l.0 (omega (arith, l.1)))
        (λ t. let l = between_true 1 (n + 1) k t in inside_between 1 n k l.0 (omega (arith, l.1, d)))

    other : k ≢ suc n → at (set xs n v) k ≡ (if between 1 (n + 1) k then f k else 0)
    other d = at-put_other xs (suc n) v k (λ z. d (sym z)) ∙ filled k ∙ ap (λ (b : Bool). if b then f k else 0) (same d)

-- two functions that are the same up to n fill it alike
pub filled_same : (xs : List ℕ) (n : ℕ) (f g : ℕ → ℕ) → ((k : ℕ) → 1 ≤ k → k ≤ n → f k ≡ g k) → FilledTo xs n f → FilledTo xs n g
filled_same xs n f g same filled k = filled k ∙ go (between 1 n k) refl
  where
    go : (b : Bool) → between 1 n k ≡ b → (if b then f k else 0) ≡ (if b then g k else 0)
    go true e = let l = between_true 1 n k e in same k l.0 l.1
    go false e = refl

-- ---- an array gone through f

pub mapped_more : (f : ℕ → ℕ) (n : ℕ) (xs : List ℕ) → set (mapped f n xs) n (f (get_or (mapped f n xs) n 0)) ≡ mapped f (n + 1) xs
unfolding mapped
mapped_more f n xs = rw (add-one n) (more n xs)
  where
    more : (n : ℕ) (xs : List ℕ) → set (mapped f n xs) n (f (get_or (mapped f n xs) n 0)) ≡ mapped f (suc n) xs
    more zero [] = refl
    more (suc n) [] = refl
    more zero (x ∷ xs) = refl
    more (suc n) (x ∷ xs) = ap {B = List ℕ} (λ r. f x ∷ r) (more n xs)

-- the elements behind the first n are as they were
pub mapped_rest : (f : ℕ → ℕ) (n : ℕ) (xs : List ℕ) → get_or (mapped f n xs) n 0 ≡ get_or xs n 0
unfolding mapped
mapped_rest f zero xs = refl
mapped_rest f (suc n) [] = refl
mapped_rest f (suc n) (x ∷ xs) = mapped_rest f n xs

pub length-mapped : (f : ℕ → ℕ) (n : ℕ) (xs : List ℕ) → length (mapped f n xs) ≡ length xs
unfolding mapped
length-mapped f zero xs = refl
length-mapped f (suc n) [] = refl
length-mapped f (suc n) (x ∷ xs) = ap suc (length-mapped f n xs)

-- where f leaves 0 as it is and there are n elements, each element goes through f
pub at-mapped : (f : ℕ → ℕ) (n : ℕ) (xs : List ℕ) (k : ℕ) → f 0 ≡ 0 → length xs ≡ n → at (mapped f n xs) k ≡ f (at xs k)
unfolding mapped
at-mapped f n xs zero z e = sym z
at-mapped f zero [] (suc i) z e = sym z
at-mapped f zero (x ∷ xs) (suc i) z e = absurd (omega arith)
at-mapped f (suc n) [] (suc i) z e = sym z
at-mapped f (suc n) (x ∷ xs) (suc zero) z e = refl
at-mapped f (suc n) (x ∷ xs) (suc (suc i)) z e = at-mapped f n xs (suc i) z (omega arith)

-- all behind the first n is 0, and so it is without the first element
behind : (n x : ℕ) (xs : List ℕ) → ((k : ℕ) → suc n < k → at (x ∷ xs) k ≡ 0) → (k : ℕ) → n < k → at xs k ≡ 0
behind n x xs none zero h = refl
behind n x xs none (suc i) h = none (suc (suc i)) (omega arith)

-- where f leaves 0 as it is and all behind the first n is 0, more of them may go through f
pub mapped-zeros : (f : ℕ → ℕ) (n m : ℕ) (xs : List ℕ) → f 0 ≡ 0 → n ≤ m → ((k : ℕ) → n < k → at xs k ≡ 0) → mapped f n xs ≡ mapped f m xs
unfolding mapped
mapped-zeros f zero zero xs z l none = refl
mapped-zeros f (suc n) zero xs z l none = absurd (omega arith)
mapped-zeros f zero (suc m) [] z l none = refl
mapped-zeros f (suc n) (suc m) [] z l none = refl
mapped-zeros f zero (suc m) (x ∷ xs) z l none =
    let here : x ≡ 0 = none 1 (omega arith) in
    let rest = mapped-zeros f zero m xs z (omega arith) (behind zero x xs (λ k h. none k (omega arith))) in
    λ i. (here ∙ sym z ∙ ap f (sym here)) i ∷ rest i
mapped-zeros f (suc n) (suc m) (x ∷ xs) z l none = ap {B = List ℕ} (λ r. f x ∷ r) (mapped-zeros f n m xs z (omega arith) (behind n x xs none))

-- ---- by its index, which counts from 0

pub at_index : (xs : List ℕ) (k : ℕ) → 1 ≤ k → at xs k ≡ get_or xs (k - 1) 0
at_index xs zero h = absurd (omega arith)
at_index xs (suc i) h = let back : i ≡ suc i - 1 = omega arith in ap (λ (j : ℕ). get_or xs j 0) back

pub put_index : (xs : List ℕ) (k v : ℕ) → 1 ≤ k → put xs k v ≡ set xs (k - 1) v
put_index xs zero v h = absurd (omega arith)
put_index xs (suc i) v h = let back : i ≡ suc i - 1 = omega arith in ap (λ (j : ℕ). set xs j v) back

-- ---- a turn of a loop that copies s to the front of an array of zeros

pub copied_more : (s : List ℕ) (n i : ℕ) → i < n → i < length s
    → set (take i s ++ replicate (n - i) 0) i (get_or s i 0) ≡ take (i + 1) s ++ replicate (n - (i + 1)) 0
copied_more s n i h l =
    let rest = replicate {A = ℕ} (n - (i + 1)) 0 in
    let one : n - i ≡ suc (n - (i + 1)) = omega arith in
    ap (λ (k : ℕ). set (take i s ++ replicate k 0) i (get_or s i 0)) one
    ∙ set_at (take i s) 0 rest (get_or s i 0) i (length-take-le i s (omega arith))
    ∙ sym (append_snoc (take i s) (get_or s i 0) rest)
    ∙ ap (λ (t : List ℕ). t ++ rest) (sym (take-suc s i 0 l) ∙ ap (λ (k : ℕ). take k s) (sym (add-one i)))
