-- `lines::lay::lay_answer` meets its contract: in each arm the letter, the values and the line feed stand one behind the other.
-- Assumes nothing.
use mathlib.Core.Path.{sym, ap}
use mathlib.Core.List.{List}
use Prim.Native.Nat.{ℕ}
use native.Mathlib.Omega.{arith}
use Rattle.events.specs.declared.Answer.{Answer}
use Rattle.events.specs.Answers.{paper}
use Rattle.decimals.specs.Fields.{behind}
use Rattle.lines.specs.Lines.{answer_fields}
use Rattle.decimals.specs.Laid.{laid_then, laid_is}
use Rattle.lines.proofs.lay.lay_answer.Goals as goal

abbrev fields : Answer → List ℕ
fields answer = behind (answer_fields (paper answer))

pub returns-in-Waits : goal.returns-in-Waits
returns-in-Waits c =
    laid_is (laid_then c.lay_letter-by.ensures
    (laid_then c.lay_field-on.ensures (laid_then c.lay_field-why.ensures c.lay_last.ensures)))
    (sym (ap fields c.in-Waits.is)) (omega arith)
