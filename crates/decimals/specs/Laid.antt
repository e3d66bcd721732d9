-- Texts laid into a buffer, one behind the other.
-- Assumes nothing.
use Rattle.std.specs.Prelude.{ℕ, ◌+◌, ◌≤◌, ◌≡◌, List, ◌++◌, length, take, drop}
use Rattle.std.proofs.Common.{sym, ap, ap₂, ◌∙◌, append_assoc, zero-add, arith, length-append, length-drop, take_at, drop_at, drop-drop}
use Rattle.std.proofs.lemmas.List.Edits.{sets, sets-eq}
use Rattle.std.proofs.Math.Seq.{length-sets, take-length}
use Rattle.basics.specs.Stores.{sets_append}

-- a buffer with a text at its front, and the bytes behind as they were
abbrev pub at_front : List ℕ → List ℕ → List ℕ
at_front text buffer = text ++ drop (length text) buffer

-- a text laid from index `start` on, up to `end`, in no more than `room` bytes
pub record Laid (before after : List ℕ) (start end room : ℕ) (text : List ℕ) : Type 0 where
  pub stored : after ≡ sets before start text
  pub stops : end ≡ start + length text
  pub within : end ≤ start + room

pub laid_then : {a b c : List ℕ} {i j k m n : ℕ} {xs ys : List ℕ} → Laid a b i j m xs → Laid b c j k n ys → Laid a c i k (m + n) (xs ++ ys)
laid_then {a} {b} {c} {i} {j} {k} {m} {n} {xs} {ys} p q =
    record {
      stored = q.stored ∙ ap₂ (λ (l : List ℕ) (z : ℕ). sets l z ys) p.stored p.stops ∙ sets_append a i xs ys;
      stops = omega (arith, length-append xs ys, p.stops, q.stops);
      within = omega (arith, p.within, q.within);
    }

-- another name of the text, and more room
pub laid_is : {a b : List ℕ} {i j m n : ℕ} {xs ys : List ℕ} → Laid a b i j m xs → xs ≡ ys → m ≤ n → Laid a b i j n ys
laid_is {a} {b} {i} {j} {m} {n} {xs} {ys} p e h =
    record {
      stored = p.stored ∙ ap (sets a i) e;
      stops = p.stops ∙ ap (λ (l : List ℕ). i + length l) e;
      within = omega (arith, p.within);
    }

-- the buffer keeps its length
pub laid_length : {a b : List ℕ} {i j m : ℕ} {xs : List ℕ} → Laid a b i j m xs → length b ≡ length a
laid_length {a} {b} {i} {j} {m} {xs} p = ap length p.stored ∙ length-sets a i xs

-- a text laid from index 0 on is at the front of the buffer, and stands there
pub laid_at_front : {a b : List ℕ} {j m : ℕ} {xs : List ℕ} → Laid a b 0 j m xs → length xs ≤ length a → b ≡ at_front xs a
laid_at_front {a} {b} {j} {m} {xs} p h = p.stored ∙ sets-eq xs a 0 (omega arith) ∙ ap (λ (n : ℕ). xs ++ drop n a) (zero-add (length xs))

pub laid_front : {a b : List ℕ} {j m : ℕ} {xs : List ℕ} → Laid a b 0 j m xs → length xs ≤ length a → take j b ≡ xs
laid_front {a} {b} {j} {m} {xs} p h =
    let stops : j ≡ length xs = p.stops ∙ zero-add (length xs) in
    ap (take j) (laid_at_front p h) ∙ take_at xs (drop (length xs) a) j (sym stops)

-- a text that fills the buffer is all there is
pub laid_whole : {a b : List ℕ} {j m : ℕ} {xs : List ℕ} → Laid a b 0 j m xs → length xs ≡ length a → b ≡ xs
laid_whole {a} {b} {j} {m} {xs} p e =
    let all : j ≡ length b = p.stops ∙ zero-add (length xs) ∙ e ∙ sym (laid_length p) in
    sym (take-length b) ∙ ap (λ (n : ℕ). take n b) (sym all) ∙ laid_front p (omega arith)

-- a text at the front, and another into the part behind it
pub front_more : (xs ys buffer : List ℕ) (i k : ℕ) → length xs ≡ i → length ys ≡ k
    → take i (at_front xs buffer) ++ (ys ++ drop k (drop i (at_front xs buffer))) ≡ at_front (xs ++ ys) buffer
front_more xs ys buffer i k e f =
    let rest = drop (length xs) buffer in
    let both : length xs + k ≡ length (xs ++ ys) = omega (arith, length-append xs ys) in
    ap₂ (λ (front behind : List ℕ). front ++ (ys ++ drop k behind)) (take_at xs rest i e) (drop_at xs rest i e)
    ∙ ap (λ (l : List ℕ). xs ++ (ys ++ l)) (drop-drop k (length xs) buffer ∙ ap (λ (n : ℕ). drop n buffer) both)
    ∙ sym (append_assoc xs ys (drop (length (xs ++ ys)) buffer))

-- where the text has room the buffer keeps its length
pub front_length : (xs buffer : List ℕ) → length xs ≤ length buffer → length (at_front xs buffer) ≡ length buffer
front_length xs buffer h = omega (arith, length-append xs (drop (length xs) buffer), length-drop (length xs) buffer)
