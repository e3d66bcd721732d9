-- A list laid over a buffer from an index on, `laid`: nothing, one list behind another, lengths.
-- Assumes nothing.
use Prim.Native.Nat.{ℕ, ◌+◌, ◌≤◌}
use mathlib.Core.Path.{◌≡◌, sym, ap, ap₂, ◌∙◌}
use mathlib.Core.List.{List, [], ◌++◌, append_assoc}
use native.Mathlib.Nat.{zero-add, add-zero, add_assoc, le_trans, le-add_right}
use native.Mathlib.Omega.{arith}
use lib.ListN.{length, take, drop, length-append, length-drop, take-append-drop}
use lib.Seq.{take_at, drop_at, drop-drop, length-take-le}
use Rattle.table_writer.specs.Laying.{laid}

pub laid_none : (old : List ℕ) (i : ℕ) → laid old i [] ≡ old
unfolding laid
laid_none old i = ap (λ (k : ℕ). take i old ++ drop k old) (add-zero i) ∙ take-append-drop i old

-- a list laid behind another
pub laid_more : (old : List ℕ) (i : ℕ) (xs ys : List ℕ) → i ≤ length old → laid (laid old i xs) (i + length xs) ys ≡ laid old i (xs ++ ys)
unfolding laid
laid_more old i xs ys h =
    let front : List ℕ = take i old ++ xs in
    let n : ℕ = i + length xs in
    let rest : List ℕ = drop n old in
    let end : List ℕ = drop (n + length ys) old in
    let long : length front ≡ n = length-append (take i old) xs ∙ ap (λ (k : ℕ). k + length xs) (length-take-le i old h) in
    ap (λ (l : List ℕ). take n l ++ (ys ++ drop (n + length ys) l)) (sym (append_assoc (take i old) xs rest))
    ∙ ap₂ (λ (a b : List ℕ). a ++ (ys ++ b)) (take_at front rest n long)
    (sym (drop-drop (length ys) n (front ++ rest)) ∙ ap (drop (length ys)) (drop_at front rest n long) ∙ drop-drop (length ys) n old)
    ∙ append_assoc (take i old) xs (ys ++ end)
    ∙ ap (λ (l : List ℕ). take i old ++ l) (sym (append_assoc xs ys end))
    ∙ ap (λ (k : ℕ). take i old ++ (xs ++ ys ++ drop k old)) (add_assoc i (length xs) (length ys) ∙ ap (λ (k : ℕ). i + k) (sym (length-append xs ys)))

pub laid_length : (old : List ℕ) (i : ℕ) (xs : List ℕ) → i + length xs ≤ length old → length (laid old i xs) ≡ length old
unfolding laid
laid_length old i xs h =
    let t = length-take-le i old (le_trans (le-add_right i (length xs)) h) in
    simp (length-append, length-drop) (omega (arith, t))

-- at the front
pub laid_front : (old xs : List ℕ) → laid old 0 xs ≡ xs ++ drop (length xs) old
unfolding laid
laid_front old xs = ap (λ (k : ℕ). xs ++ drop k old) (zero-add (length xs))

-- one list more behind those laid so far: how far, and what is laid
pub laid_on : (old before after : List ℕ) (i end next : ℕ) (sofar more : List ℕ) → i ≤ length old → (end ≡ i + length sofar) × (before ≡ laid old i sofar)
    → (next ≡ end + length more) × (after ≡ laid before end more) → (next ≡ i + length (sofar ++ more)) × (after ≡ laid old i (sofar ++ more))
laid_on old before after i end next sofar more h b a = (
  omega (arith, b.0, a.0, length-append sofar more),
  a.1 ∙ ap₂ (λ (l : List ℕ) (k : ℕ). laid l k more) b.1 b.0 ∙ laid_more old i sofar more h,
)

-- a turn of a loop that lays one list more behind those laid so far
pub laid_turn : (old before after : List ℕ) (i end next : ℕ) (sofar more all : List ℕ) → all ≡ sofar ++ more → i + length all ≤ length old
    → (end ≡ i + length sofar) × (before ≡ laid old i sofar) → (next ≡ end + length more) × (after ≡ laid before end more)
    → (next ≡ i + length all) × (after ≡ laid old i all) × (length after ≡ length old)
laid_turn old before after i end next sofar more all e h b a =
    let on = laid_on old before after i end next sofar more (omega arith) b a in
    let new = on.1 ∙ ap (laid old i) (sym e) in
    (on.0 ∙ ap (λ (l : List ℕ). i + length l) (sym e), new, ap length new ∙ laid_length old i all h)
