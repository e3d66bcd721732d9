-- A list stored into another, and then more behind it.
-- Assumes nothing.
use Rattle.std.specs.Prelude.{ℕ, suc, ◌+◌, ◌≡◌, List, [], ◌∷◌, ◌++◌, length, set}
use Rattle.std.proofs.Common.{sym, ap, ap₂, ◌∙◌, add-zero, zero-add, arith}
use Rattle.std.proofs.lemmas.List.Edits.{sets}

pub sets_append : (old : List ℕ) (i : ℕ) (xs ys : List ℕ) → sets (sets old i xs) (i + length xs) ys ≡ sets old i (xs ++ ys)
sets_append old i [] ys = ap (λ (k : ℕ). sets old k ys) (add-zero i)
sets_append old i (x ∷ xs) ys =
    let next : i + suc (length xs) ≡ suc i + length xs = omega arith in
    ap (λ (k : ℕ). sets (sets (set old i x) (suc i) xs) k ys) next ∙ sets_append (set old i x) (suc i) xs ys

-- one element more behind those that are stored at the front
pub stored_more : (old new text : List ℕ) (i v : ℕ) → new ≡ sets old 0 text → length text ≡ i → set new i v ≡ sets old 0 (text ++ (v ∷ []))
stored_more old new text i v e long =
    ap₂ (λ (l : List ℕ) (k : ℕ). set l k v) e (sym (zero-add (length text) ∙ long)) ∙ sets_append old 0 text (v ∷ [])
