-- What a call that can be refused answers, as document 01 counts it: the refusal's number and the values.
-- Assumes nothing.
use Rattle.std.specs.Prelude.{ℕ, List, [], get_or}

-- a refusal's number, 0 where there is none, and the values
pub record Reply : Type 0 where
  pub refusal : ℕ
  pub values : List ℕ

-- refused: the number, and no values
abbrev pub refused : ℕ → Reply
refused n = record { refusal = n; values = [] }

-- answered: no refusal, and the values
abbrev pub told : List ℕ → Reply
told values = record { refusal = 0; values = values }

-- the value at an index, or another number where there is none
abbrev pub value : Reply → ℕ → ℕ → ℕ
value reply i otherwise = get_or reply.values i otherwise
