-- The three elements of a list from an index on, and the rest.
-- Assumes nothing.
use Rattle.std.specs.Prelude.{ℕ, suc, ◌+◌, ◌≤◌, ◌≡◌, List, ◌∷◌, length, drop, get_or}
use Rattle.std.proofs.Common.{ap, ◌∙◌, arith, drop-cons}

pub drop_three : (l : List ℕ) (i : ℕ) → i + 3 ≤ length l → drop i l ≡ get_or l i 0 ∷ get_or l (i + 1) 0 ∷ get_or l (i + 2) 0 ∷ drop (i + 3) l
drop_three l i h =
    let one : suc i ≡ i + 1 = omega arith in
    let two : suc (i + 1) ≡ i + 2 = omega arith in
    let three : suc (i + 2) ≡ i + 3 = omega arith in
    drop-cons l i 0 (omega arith)
    ∙ ap (λ (k : ℕ). get_or l i 0 ∷ drop k l) one
    ∙ ap (λ (r : List ℕ). get_or l i 0 ∷ r) (drop-cons l (i + 1) 0 (omega arith) ∙ ap (λ (k : ℕ). get_or l (i + 1) 0 ∷ drop k l) two)
    ∙ ap (λ (r : List ℕ). get_or l i 0 ∷ get_or l (i + 1) 0 ∷ r) (drop-cons l (i + 2) 0 (omega arith) ∙ ap (λ (k : ℕ). get_or l (i + 2) 0 ∷ drop k l) three)
