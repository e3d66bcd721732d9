-- Laws of a line: how long it and its fields are, and what stands in its columns.
-- Assumes nothing.
use Rattle.std.specs.Prelude.{◌≡◌, refl, Bool, true, false, List, [], ◌∷◌, ◌++◌, ℕ, suc, ◌+◌, ◌<◌, eqb, length, take, drop, if◌then◌else◌}
use Rattle.std.proofs.Common.{ap, ◌∙◌, arith, take_at}
use Rattle.std.proofs.Math.ListN.{length-append}
use Rattle.std.proofs.Math.Seq.{drop-append-add}
use Rattle.decimals.specs.Decimal.{decimal, decimal_length, byte_length}
use Rattle.decimals.specs.Fields.{right_aligned, aligned_length}
use Rattle.page.specs.Page.{named_field, line_of}

-- so many bytes of a text, from a column on, which counts from 0
abbrev pub column : List ℕ → ℕ → ℕ → List ℕ
column text start width = take width (drop start text)

-- ---- texts one behind the other

pub column_front : (xs ys : List ℕ) (n : ℕ) → length xs ≡ n → column (xs ++ ys) 0 n ≡ xs
column_front xs ys n e = take_at xs ys n e

pub column_behind : (xs ys : List ℕ) (n k i width : ℕ) → length xs ≡ n → i ≡ n + k → column (xs ++ ys) i width ≡ column ys k width
column_behind xs ys n k i width long e =
    let place : i ≡ length xs + k = omega arith in
    ap (λ (j : ℕ). column (xs ++ ys) j width) place ∙ ap (take width) (drop-append-add xs ys k)

-- ---- a line

-- numbers that fit their fields
pub record FitFields (rank processor inherited holder object : ℕ) : Type 0 where
  pub rank_fits : rank < 256
  pub processor_fits_lem : processor < 100
  pub inherited_fits : inherited < 256
  pub holder_fits_lem : holder < 256
  pub object_fits : object < 256

named_length : (holder n : ℕ) → n < 256 → length (right_aligned 3 (named_field holder n)) ≡ 3
named_length holder n h = go (eqb holder 0)
  where
    go : (b : Bool) → length (right_aligned 3 (if b then [] else decimal n)) ≡ 3
    go true = aligned_length 3 [] (omega arith)
    go false = aligned_length 3 (decimal n) (byte_length n h)

module _ (rank processor letter inherited holder object : ℕ) (fit : FitFields rank processor inherited holder object) where
  abbrev of_rank : List ℕ
  of_rank = right_aligned 3 (decimal rank)

  abbrev of_processor : List ℕ
  of_processor = right_aligned 2 (decimal processor)

  abbrev of_inherited : List ℕ
  of_inherited = right_aligned 3 (decimal inherited)

  abbrev of_holder : List ℕ
  of_holder = right_aligned 3 (named_field holder holder)

  abbrev of_object : List ℕ
  of_object = right_aligned 3 (named_field holder object)

  long_rank : length of_rank ≡ 3
  long_rank = aligned_length 3 (decimal rank) (byte_length rank fit.rank_fits)

  long_processor : length of_processor ≡ 2
  long_processor = aligned_length 2 (decimal processor) (decimal_length 1 processor fit.processor_fits_lem)

  long_inherited : length of_inherited ≡ 3
  long_inherited = aligned_length 3 (decimal inherited) (byte_length inherited fit.inherited_fits)

  long_holder : length of_holder ≡ 3
  long_holder = named_length holder holder fit.holder_fits_lem

  long_object : length of_object ≡ 3
  long_object = named_length holder object fit.object_fits

  -- "20 characters and a line feed"
  pub line_length : length (line_of rank processor letter inherited holder object) ≡ 21
  unfolding line_of
  line_length =
      let a = long_rank in
      let b = long_processor in
      let c = long_inherited in
      let d = long_holder in
      let e = long_object in
      simp length-append (omega arith)

  -- what stands behind each field's space
  abbrev from_object : List ℕ
  from_object = of_object ++ (10 ∷ [])

  abbrev from_holder : List ℕ
  from_holder = of_holder ++ (32 ∷ from_object)

  abbrev from_inherited : List ℕ
  from_inherited = of_inherited ++ (32 ∷ from_holder)

  abbrev from_processor : List ℕ
  from_processor = of_processor ++ (32 ∷ letter ∷ 32 ∷ from_inherited)

  abbrev whole : List ℕ
  whole = line_of rank processor letter inherited holder object

  -- what stands k bytes behind a field's space
  behind_rank : (k i width : ℕ) → i ≡ 4 + k → column whole i width ≡ column from_processor k width
  unfolding line_of
  behind_rank k i width e = column_behind of_rank (32 ∷ from_processor) 3 (suc k) i width long_rank (omega arith)

  behind_letter : (k i width : ℕ) → i ≡ 9 + k → column whole i width ≡ column from_inherited k width
  behind_letter k i width e =
      behind_rank (5 + k) i width (omega arith)
      ∙ column_behind of_processor (32 ∷ letter ∷ 32 ∷ from_inherited) 2 (suc (suc (suc k))) (5 + k) width long_processor (omega arith)

  behind_inherited : (k i width : ℕ) → i ≡ 13 + k → column whole i width ≡ column from_holder k width
  behind_inherited k i width e =
      behind_letter (4 + k) i width (omega arith) ∙ column_behind of_inherited (32 ∷ from_holder) 3 (suc k) (4 + k) width long_inherited (omega arith)

  behind_holder : (k i width : ℕ) → i ≡ 17 + k → column whole i width ≡ column from_object k width
  behind_holder k i width e =
      behind_inherited (4 + k) i width (omega arith) ∙ column_behind of_holder (32 ∷ from_object) 3 (suc k) (4 + k) width long_holder (omega arith)

  pub rank_column : column whole 0 3 ≡ of_rank
  unfolding line_of
  rank_column = column_front of_rank (32 ∷ from_processor) 3 long_rank

  pub processor_column : column whole 4 2 ≡ of_processor
  processor_column = behind_rank 0 4 2 refl ∙ column_front of_processor (32 ∷ letter ∷ 32 ∷ from_inherited) 2 long_processor

  pub letter_column : column whole 7 1 ≡ letter ∷ []
  letter_column = behind_rank 3 7 1 refl ∙ column_behind of_processor (32 ∷ letter ∷ 32 ∷ from_inherited) 2 1 3 1 long_processor refl

  pub inherited_column : column whole 9 3 ≡ of_inherited
  inherited_column = behind_letter 0 9 3 refl ∙ column_front of_inherited (32 ∷ from_holder) 3 long_inherited

  pub holder_column : column whole 13 3 ≡ of_holder
  holder_column = behind_inherited 0 13 3 refl ∙ column_front of_holder (32 ∷ from_object) 3 long_holder

  pub object_column : column whole 17 3 ≡ of_object
  object_column = behind_holder 0 17 3 refl ∙ column_front of_object (10 ∷ []) 3 long_object
