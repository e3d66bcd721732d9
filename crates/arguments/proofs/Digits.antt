-- Decimal digits as the library finds and reads them: a text of such digits alone is UTF-8, and `parse` gives the number that it says.
-- Assumes nothing.
use Rattle.std.specs.Prelude.{ℕ, zero, suc, ◌+◌, ◌*◌, ◌-◌, ◌^◌, ◌≤◌, ◌<◌, ◌≡◌, refl, Bool, true, List, [], ◌∷◌, ◌++◌, ltb, length, take, slice_index, EachIndex, IsTrue, ◌↔◌, get_or, Option, None, MatchOption, Result, Ok, Err, MatchResult}
use Rattle.std.specs.Char.{digit_value}
use Rattle.std.specs.Int.{IsInRange}
use Rattle.std.specs.Borrow.{Bor}
use Rattle.std.specs.Result.{OkIff, result_ok}
use Rattle.std.specs.Str.{IsUtf8}
use Rattle.std.specs.Str.Parse.{ParsesUnsigned, digits_value, digits_value_after}
use Rattle.std.proofs.Common.{sym, ap, ◌∙◌, arith, take-suc, lt-ltb, ltb-true}
use Rattle.std.proofs.lemmas.Bool.Decides.{nat_tests}
use Rattle.std.proofs.lemmas.Str.{IsUtf8-from_ascii}
use Rattle.std.proofs.lemmas.Str.Ascii.{IsAscii-from_reads}
use Rattle.std.proofs.lemmas.Str.Parse.{tells_by_index, numerals_by_value, parse_digits}
use Rattle.std.proofs.Math.Seq.{take-length}
use Rattle.basics.specs.Choice.{between_true, and_true, and_left, same_test}
use Rattle.basics.specs.Loops.{every_true}
use Rattle.basics.specs.Arrays.{at, at_next}
use Rattle.arguments.specs.Numbers.{is_digit, is_decimal, said_by, at_most, number_in, at_most_invalid, digit_at}

-- ---- the test of each byte is the test of the text

each_at : (text : List ℕ) → EachIndex text (λ i. is_digit (slice_index text i) ≡ true) → (i : ℕ) → 1 ≤ i → i ≤ length text → is_digit (at text i) ≡ true
each_at text f zero a b = absurd (omega arith)
each_at text f (suc k) a b = f k (omega arith)

pub decimal_is : (all : Bool) (text : List ℕ) → 0 < length text → IsTrue all ↔ EachIndex text (λ i. is_digit (slice_index text i) ≡ true)
    → all ≡ is_decimal text
unfolding is_decimal
decimal_is all text some e =
    same_test _ _
    (λ h. and_true _ _ (lt-ltb 0 (length text) some) (every_true (length text) (λ k. is_digit (at text k)) (each_at text (e.0 h))))
    (λ h. e.1 (λ i l. sym (ap is_digit (at_next text i)) ∙ digit_at text i h l))

-- ---- a text of digits alone

some_digit : (text : List ℕ) → is_decimal text ≡ true → 0 < length text
unfolding is_decimal
some_digit text h = ltb-true 0 (length text) (and_left (ltb 0 (length text)) _ h)

digit_in : (text : List ℕ) → is_decimal text ≡ true → (i : ℕ) → i < length text → IsInRange 48 57 (get_or text i 0)
digit_in text h i l = between_true 48 57 _ (sym (ap is_digit (at_next text i)) ∙ digit_at text i h l)

pub decimal_utf8 : (text : List ℕ) → is_decimal text ≡ true → IsUtf8 text
decimal_utf8 text h =
    IsUtf8-from_ascii text (IsAscii-from_reads text (length text) (omega arith) (λ k l. let d = digit_in text h k l in omega arith))

value_more : (n d : ℕ) (ds : List ℕ) → digits_value_after 10 n (ds ++ (d ∷ [])) ≡ digits_value_after 10 n ds * 10 + digit_value d
value_more n d [] = refl
value_more n d (x ∷ ds) = value_more (n * 10 + digit_value x) d ds

digit_is : (d : ℕ) → IsInRange 48 57 d → digit_value d ≡ d - 48
digit_is d h = grind (arith, nat_tests)

said_is : (text : List ℕ) → is_decimal text ≡ true → (k : ℕ) → k ≤ length text → said_by text k ≡ digits_value 10 (take k text)
unfolding said_by
said_is text h zero l = refl
said_is text h (suc k) l =
    let before = said_is text h k (omega arith) in
    let here = digit_is (get_or text k 0) (digit_in text h k (omega arith)) in
    let last = value_more 0 (get_or text k 0) (take k text) in
    omega (arith, ap (digits_value 10) (take-suc text k 0 l))

-- ---- what the library answers of a text of digits alone

module _ (text : List ℕ) (h : is_decimal text ≡ true) where
  -- it is a text
  pub text_read : {E : Type 0} (r : Result (Bor (List ℕ)) E) (o : Option (Bor (List ℕ))) (Q : E → Type 0) → o ≡ result_ok r
      → MatchResult r (λ s. (s.now ≡ text) × IsUtf8 text) (λ e. ¬ (IsUtf8 text) × Q e) → MatchOption o ⊥ (λ s. s.now ≡ text)
  text_read (Ok s) o Q e m = rw e m.0
  text_read (Err x) o Q e m = absurd (m.0 (decimal_utf8 text h))

  parsed : {E : Type 0} (r : Result ℕ E) (most : ℕ) → ParsesUnsigned 64 10 text r → most < 2 ^ 64
      → MatchOption (result_ok r) (None ≡ number_in most text) (λ n. at_most most n ≡ number_in most text)
  unfolding number_in
  parsed {E = E} r most p b = go r (parse_digits (numerals_by_value _ tells_by_index) 64 text r p (digit_in text h))
    where
      same : digits_value 10 text ≡ said_by text (length text)
      same = ap (digits_value 10) (sym (take-length text)) ∙ sym (said_is text h (length text) (omega arith))

      go : (r : Result ℕ E) → OkIff r ((0 < length text) × (digits_value 10 text < 2 ^ 64)) (digits_value 10 text)
          → MatchOption (result_ok r) (None ≡ number_in most text) (λ n. at_most most n ≡ number_in most text)
      go (Ok n) q = simp h (ap (at_most most) (q.1 ∙ same))
      go (Err e) q =
          let over : digits_value 10 text < 2 ^ 64 → ⊥ = λ l. q (some_digit text h, l) in
          simp h (sym (at_most_invalid most _ (omega (arith, over, same))))

  -- and says a number, which `parse` gives where 64 bits hold it
  pub number_read : {E : Type 0} (r : Result ℕ E) (o : Option ℕ) (most : ℕ) (s : List ℕ) → o ≡ result_ok r → ParsesUnsigned 64 10 s r → s ≡ text → most < 2 ^ 64
      → MatchOption o (None ≡ number_in most text) (λ n. at_most most n ≡ number_in most text)
  number_read r o most s e p same b = rw e (parsed r most (rw same at p) b)
