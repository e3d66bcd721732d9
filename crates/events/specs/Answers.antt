-- The paper's number and values of each answer (01, "An event's answer is one of four: granted; waits, with holder, object and reason;
-- done, with the woken rank or 0; refused, with its number"). The promises are stated through this definition.
-- Assumes nothing.
use Rattle.std.specs.Prelude.{ℕ, List, [], ◌∷◌, Result, Ok, Err}
use Rattle.state.specs.declared.refusal.Refusal.{Refusal}
use Rattle.state.specs.RefusalNumbers.{number}
use Rattle.events.specs.declared.Answer.{Answer}
use Rattle.events.specs.declared.Answer.TheVariants.{Granted, Waits, Done, Refused}

-- 1 granted, 2 waits, 3 done, 4 refused: its place among the four; and its values
pub record Paper : Type 0 where
  pub number : ℕ
  pub values : List ℕ

abbrev pub paper : Answer → Paper
paper Granted = record { number = 1; values = [] }
paper (Waits holder object reason) = record { number = 2; values = holder ∷ object ∷ reason ∷ [] }
paper (Done woken) = record { number = 3; values = woken ∷ [] }
paper (Refused n) = record { number = 4; values = n ∷ [] }

-- the answer of an event that is refused or not
abbrev pub answer_of : Result Answer Refusal → Answer
answer_of (Ok answer) = answer
answer_of (Err refusal) = Refused (number refusal)
