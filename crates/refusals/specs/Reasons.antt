-- Of two answers the first refusal decides, since a refusal's number is not 0.
-- Assumes nothing.
use Rattle.std.specs.Prelude.{◌≡◌, refl, Result, Ok, Err}
use Rattle.std.specs.Result.{result_and}
use Rattle.std.proofs.Common.{sym}
use Rattle.basics.specs.Choice.{◌or_else◌, or_else_first}
use Rattle.state.specs.declared.refusal.Refusal.{Refusal}
use Rattle.state.specs.RefusalNumbers.{number, refusal_number, number_positive}

pub first_refusal : (a b : Result Unit Refusal) → refusal_number (result_and a b) ≡ (refusal_number a or_else refusal_number b)
first_refusal (Ok x) b = refl
first_refusal (Err e) b = sym (or_else_first (number e) (refusal_number b) (number_positive e))
