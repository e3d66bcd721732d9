-- What a loop over 1, .., n finds: whether a test holds at each, the least of several numbers, the first that is not 0, lists joined, a sum.
-- Each goes by how many are done, so that a turn of a loop is one unfolding; then its laws.
-- Assumes nothing.
use Rattle.std.specs.Prelude.{◌≡◌, refl, ◌⊎◌, Bool, true, false, ◌&&◌, List, [], ◌++◌, ℕ, zero, suc, ◌+◌, ◌*◌, ◌≤◌, ◌<◌, min, leb, length}
use Rattle.std.proofs.Common.{sym, ap, ap₂, subst, ◌∙◌, inl, inr, ⊎_elim, zero-le, le_refl, eq-or-lt_of_le, le_of_suc-le-suc, add-zero, add-suc, mul-zero, mul-suc, mul-add, add-one, one-add, arith, length-append, leb-true, leb-false}
use Rattle.std.specs.List.{list_all, range_with_len}
use Rattle.basics.specs.Choice.{◌or_else◌, clash, and_true, and_left, and_right, and_assoc, same_test, or_else_zero, or_else_not}

-- p holds at each of 1, .., n
unfoldable pub every : ℕ → (ℕ → Bool) → Bool
every zero p = true
every (suc n) p = every n p && p (suc n)

-- the least of f 1, .., f n and the bound `top`
unfoldable pub least : ℕ → ℕ → (ℕ → ℕ) → ℕ
least zero top f = top
least (suc n) top f = min (least n top f) (f (suc n))

-- the first of f 1, .., f n that is not 0; 0 if all are
unfoldable pub first_nonzero : ℕ → (ℕ → ℕ) → ℕ
first_nonzero zero f = 0
first_nonzero (suc n) f = first_nonzero n f or_else f (suc n)

-- the lists f 1, .., f n joined
unfoldable pub joined : ℕ → (ℕ → List ℕ) → List ℕ
joined zero f = []
joined (suc n) f = joined n f ++ f (suc n)

-- f 1 + .. + f n
unfoldable pub sum : ℕ → (ℕ → ℕ) → ℕ
sum zero f = 0
sum (suc n) f = sum n f + f (suc n)

-- 1 where a test holds and 0 where it does not: the sum of these counts
abbrev pub one_if : Bool → ℕ
one_if true = 1
one_if false = 0

-- ---- every

pub every_more : (n : ℕ) (p : ℕ → Bool) → every (n + 1) p ≡ every n p && p (n + 1)
unfolding every
every_more n p = rw add-one

pub every-at : (n : ℕ) (p : ℕ → Bool) (i : ℕ) → every n p ≡ true → 1 ≤ i → i ≤ n → p i ≡ true
unfolding every
every-at zero p i e l h = absurd (omega arith)
every-at (suc n) p i e l h =
    ⊎_elim (λ q. subst (λ (k : ℕ). p k ≡ true) (sym q) (and_right (every n p) (p (suc n)) e))
    (λ b. every-at n p i (and_left (every n p) (p (suc n)) e) l (le_of_suc-le-suc b)) (eq-or-lt_of_le h)

pub every_true : (n : ℕ) (p : ℕ → Bool) → ((i : ℕ) → 1 ≤ i → i ≤ n → p i ≡ true) → every n p ≡ true
unfolding every
every_true zero p f = refl
every_true (suc n) p f =
    and_true (every n p) (p (suc n)) (every_true n p (λ i a b. f i a (omega arith))) (f (suc n) (omega arith) (omega arith))

-- one that fails is enough
pub every_false : (n : ℕ) (p : ℕ → Bool) (i : ℕ) → p i ≡ false → 1 ≤ i → i ≤ n → every n p ≡ false
every_false n p i f l h = go (every n p) refl
  where
    go : (b : Bool) → every n p ≡ b → b ≡ false
    go true e = absurd (clash (every-at n p i e l h) f)
    go false e = refl

pub every_same : (n : ℕ) (p q : ℕ → Bool) → ((i : ℕ) → 1 ≤ i → i ≤ n → p i ≡ q i) → every n p ≡ every n q
unfolding every
every_same zero p q e = refl
every_same (suc n) p q e = ap₂ ◌&&◌ (every_same n p q (λ i a b. e i a (omega arith))) (e (suc n) (omega arith) (omega arith))

-- two tests at each, in one loop or in two
pub every-and : (n : ℕ) (p q : ℕ → Bool) → every n (λ i. p i && q i) ≡ every n p && every n q
every-and n p q =
    same_test (every n (λ i. p i && q i)) (every n p && every n q)
    (λ e. and_true (every n p) (every n q)
    (every_true n p (λ i a b. and_left (p i) (q i) (every-at n (λ i. p i && q i) i e a b)))
    (every_true n q (λ i a b. and_right (p i) (q i) (every-at n (λ i. p i && q i) i e a b))))
    (λ e. every_true n (λ i. p i && q i) (λ i a b. and_true (p i) (q i)
    (every-at n p i (and_left (every n p) (every n q) e) a b) (every-at n q i (and_right (every n p) (every n q) e) a b)))

-- n more, behind the first i
pub every_split : (i n : ℕ) (p : ℕ → Bool) → every (i + n) p ≡ every i p && every n (λ k. p (i + k))
unfolding every
every_split i zero p = ap (λ (k : ℕ). every k p) (add-zero i) ∙ alone (every i p)
  where
    alone : (b : Bool) → b ≡ b && true
    alone true = refl
    alone false = refl
every_split i (suc n) p =
    ap (λ (k : ℕ). every k p) (add-suc i n)
    ∙ ap₂ ◌&&◌ (every_split i n p) (ap p (sym (add-suc i n)))
    ∙ and_assoc (every i p) (every n (λ k. p (i + k))) (p (i + suc n))

-- the library's `all` over the numbers from a on, n of them
pub all_every : (a n : ℕ) (test p : ℕ → Bool) → ((i : ℕ) → i < n → test (a + i) ≡ p (i + 1)) → list_all test (range_with_len a n) ≡ every n p
unfolding every
all_every a zero test p same = refl
all_every a (suc n) test p same =
    ap₂ ◌&&◌ (ap test (sym (add-zero a)) ∙ same 0 (omega arith))
    (all_every (a + 1) n test (λ i. p (1 + i)) (λ i h. ap test (omega arith) ∙ same (i + 1) (omega arith) ∙ ap p (omega arith)))
    ∙ sym (every_split 1 n p) ∙ ap (λ (k : ℕ). every k p) (one-add n)

-- ---- the least: the greatest number that is at most `top` and each of them

pub least_more : (n top : ℕ) (f : ℕ → ℕ) → least (n + 1) top f ≡ min (least n top f) (f (n + 1))
unfolding least
least_more n top f = rw add-one

pub least_top : (n top : ℕ) (f : ℕ → ℕ) → least n top f ≤ top
unfolding least
least_top zero top f = le_refl top
least_top (suc n) top f = omega (arith, least_top n top f)

pub least-le : (n top : ℕ) (f : ℕ → ℕ) (i : ℕ) → 1 ≤ i → i ≤ n → least n top f ≤ f i
unfolding least
least-le zero top f i p h = absurd (omega arith)
least-le (suc n) top f i p h = go (least-le n top f i p) (eq-or-lt_of_le h)
  where
    go : (i ≤ n → least n top f ≤ f i) → (i ≡ suc n) ⊎ (i < suc n) → min (least n top f) (f (suc n)) ≤ f i
    go rest (inl e) = omega (arith, ap f e)
    go rest (inr l) = omega (arith, rest (omega arith))

pub le-least : (n top : ℕ) (f : ℕ → ℕ) (m : ℕ) → m ≤ top → ((i : ℕ) → 1 ≤ i → i ≤ n → m ≤ f i) → m ≤ least n top f
unfolding least
le-least zero top f m t h = t
le-least (suc n) top f m t h =
    omega (arith, le-least n top f m t (λ i p l. h i p (omega arith)), h (suc n) (omega arith) (le_refl (suc n)))

-- and it is `top` or one of them
pub least_at : (n top : ℕ) (f : ℕ → ℕ) → (least n top f ≡ top) ⊎ ((i : ℕ) × (1 ≤ i) × (i ≤ n) × (least n top f ≡ f i))
unfolding least
least_at zero top f = inl refl
least_at (suc n) top f = go (least_at n top f) (leb (least n top f) (f (suc n))) refl
  where
    go : (least n top f ≡ top) ⊎ ((i : ℕ) × (1 ≤ i) × (i ≤ n) × (least n top f ≡ f i))
        → (b : Bool) → leb (least n top f) (f (suc n)) ≡ b
        → (min (least n top f) (f (suc n)) ≡ top) ⊎ ((i : ℕ) × (1 ≤ i) × (i ≤ suc n) × (min (least n top f) (f (suc n)) ≡ f i))
    go rest false t = let l = leb-false (least n top f) (f (suc n)) t in inr (suc n, omega arith, le_refl (suc n), omega arith)
    go (inl e) true t = let l = leb-true (least n top f) (f (suc n)) t in inl (omega arith)
    go (inr w) true t =
        let l = leb-true (least n top f) (f (suc n)) t in
        let e = w.3 in
        let h = w.2 in
        inr (w.0, w.1, omega arith, omega arith)

pub least_same : (n top : ℕ) (f g : ℕ → ℕ) → ((i : ℕ) → 1 ≤ i → i ≤ n → f i ≡ g i) → least n top f ≡ least n top g
unfolding least
least_same zero top f g h = refl
least_same (suc n) top f g h =
    ap₂ min (least_same n top f g (λ i p l. h i p (omega arith))) (h (suc n) (omega arith) (le_refl (suc n)))

-- ---- the first that is not 0

pub first_nonzero_more : (n : ℕ) (f : ℕ → ℕ) → first_nonzero (n + 1) f ≡ first_nonzero n f or_else f (n + 1)
unfolding first_nonzero
first_nonzero_more n f = rw add-one

-- once found, found
pub first_nonzero_keeps : (m n : ℕ) (f : ℕ → ℕ) (v : ℕ) → first_nonzero m f ≡ suc v → m ≤ n → first_nonzero n f ≡ suc v
unfolding first_nonzero
first_nonzero_keeps m zero f v e h = let none : 0 ≡ m = omega arith in ap (λ (k : ℕ). first_nonzero k f) none ∙ e
first_nonzero_keeps m (suc n) f v e h = go (first_nonzero_keeps m n f v e) (eq-or-lt_of_le h)
  where
    go : (m ≤ n → first_nonzero n f ≡ suc v) → (m ≡ suc n) ⊎ (m < suc n) → first_nonzero (suc n) f ≡ suc v
    go rest (inl d) = ap (λ (k : ℕ). first_nonzero k f) (sym d) ∙ e
    go rest (inr l) = rw (rest (omega arith))

-- where the first is 0, all are
pub first_nonzero_none : (n : ℕ) (f : ℕ → ℕ) (i : ℕ) → first_nonzero n f ≡ 0 → 1 ≤ i → i ≤ n → f i ≡ 0
unfolding first_nonzero
first_nonzero_none zero f i e l h = absurd (omega arith)
first_nonzero_none (suc n) f i e l h =
    let both = or_else_zero (first_nonzero n f) (f (suc n)) e in
    ⊎_elim (λ q. ap f q ∙ both.1) (λ b. first_nonzero_none n f i both.0 l (le_of_suc-le-suc b)) (eq-or-lt_of_le h)

pub all_zero_first : (n : ℕ) (f : ℕ → ℕ) → ((i : ℕ) → 1 ≤ i → i ≤ n → f i ≡ 0) → first_nonzero n f ≡ 0
unfolding first_nonzero
all_zero_first zero f h = refl
all_zero_first (suc n) f h =
    ap₂ ◌or_else◌ (all_zero_first n f (λ i a b. h i a (omega arith))) (h (suc n) (omega arith) (le_refl (suc n)))

pub first_nonzero_same : (n : ℕ) (f g : ℕ → ℕ) → ((i : ℕ) → 1 ≤ i → i ≤ n → f i ≡ g i) → first_nonzero n f ≡ first_nonzero n g
unfolding first_nonzero
first_nonzero_same zero f g e = refl
first_nonzero_same (suc n) f g e =
    ap₂ ◌or_else◌ (first_nonzero_same n f g (λ i a b. e i a (omega arith))) (e (suc n) (omega arith) (omega arith))

-- a number other than 0 that none of them is
pub first_nonzero_not : (v n : ℕ) (f : ℕ → ℕ) → (0 ≡ v → ⊥) → ((i : ℕ) → f i ≡ v → ⊥) → first_nonzero n f ≡ v → ⊥
unfolding first_nonzero
first_nonzero_not v zero f z d e = z e
first_nonzero_not v (suc n) f z d e = or_else_not v (first_nonzero n f) (f (suc n)) (first_nonzero_not v n f z d) (d (suc n)) e

-- it is the first that is not 0, where those before are
pub first_nonzero_at : (i n : ℕ) (f : ℕ → ℕ) → first_nonzero i f ≡ 0 → (f (suc i) ≡ 0 → ⊥) → i < n → first_nonzero n f ≡ f (suc i)
unfolding first_nonzero
first_nonzero_at i n f e d h = go (f (suc i)) refl
  where
    go : (v : ℕ) → f (suc i) ≡ v → first_nonzero n f ≡ f (suc i)
    go zero q = absurd (d q)
    go (suc v) q = first_nonzero_keeps (suc i) n f v (ap₂ ◌or_else◌ e q) h ∙ sym q

-- one more that is 0
pub first_none_more : (n : ℕ) (f : ℕ → ℕ) → first_nonzero n f ≡ 0 → f (suc n) ≡ 0 → first_nonzero (n + 1) f ≡ 0
unfolding first_nonzero
first_none_more n f e z = rw add-one (ap₂ ◌or_else◌ e z)

-- ---- lists joined

pub joined_more : (n : ℕ) (f : ℕ → List ℕ) → joined (n + 1) f ≡ joined n f ++ f (n + 1)
unfolding joined
joined_more n f = rw add-one

-- ---- sums

pub sum_more : (n : ℕ) (f : ℕ → ℕ) → sum (n + 1) f ≡ sum n f + f (n + 1)
unfolding sum
sum_more n f = rw add-one

pub sum_same : (n : ℕ) (f g : ℕ → ℕ) → ((i : ℕ) → 1 ≤ i → i ≤ n → f i ≡ g i) → sum n f ≡ sum n g
unfolding sum
sum_same zero f g e = refl
sum_same (suc n) f g e = ap₂ ◌+◌ (sum_same n f g (λ i a b. e i a (omega arith))) (e (suc n) (omega arith) (le_refl (suc n)))

sum_zeros : (n : ℕ) → sum n (λ i. 0) ≡ 0
unfolding sum
sum_zeros zero = refl
sum_zeros (suc n) = omega (arith, sum_zeros n)

sum_plus : (n : ℕ) (f g : ℕ → ℕ) → sum n f + sum n g ≡ sum n (λ i. f i + g i)
unfolding sum
sum_plus zero f g = refl
sum_plus (suc n) f g = omega (arith, sum_plus n f g)

pub sum_times : (n k : ℕ) (f : ℕ → ℕ) → sum n (λ i. k * f i) ≡ k * sum n f
unfolding sum
sum_times zero k f = sym (mul-zero k)
sum_times (suc n) k f = ap (λ (x : ℕ). x + k * f (suc n)) (sum_times n k f) ∙ sym (mul-add k (sum n f) (f (suc n)))

-- the first apart
pub sum_first : (n : ℕ) (f : ℕ → ℕ) → sum (suc n) f ≡ f 1 + sum n (λ i. f (suc i))
unfolding sum
sum_first zero f = omega arith
sum_first (suc n) f = omega (arith, sum_first n f)

-- a sum of sums, by rows or by columns
pub sum_swap : (m n : ℕ) (f : ℕ → ℕ → ℕ) → sum m (λ i. sum n (f i)) ≡ sum n (λ j. sum m (λ i. f i j))
unfolding sum
sum_swap zero n f = sym (sum_zeros n)
sum_swap (suc m) n f = ap (λ (k : ℕ). k + sum n (f (suc m))) (sum_swap m n f) ∙ sum_plus n (λ j. sum m (λ i. f i j)) (f (suc m))

pub sum-at_most : (n most : ℕ) (f : ℕ → ℕ) → ((i : ℕ) → 1 ≤ i → i ≤ n → f i ≤ most) → sum n f ≤ most * n
unfolding sum
sum-at_most zero most f h = zero-le
sum-at_most (suc n) most f h =
    omega (arith, mul-suc most n, sum-at_most n most f (λ i a b. h i a (omega arith)), h (suc n) (omega arith) (le_refl (suc n)))

pub length-joined : (n : ℕ) (f : ℕ → List ℕ) → length (joined n f) ≡ sum n (λ i. length (f i))
unfolding joined sum
length-joined zero f = refl
length-joined (suc n) f = length-append (joined n f) (f (suc n)) ∙ ap (λ (k : ℕ). k + length (f (suc n))) (length-joined n f)
