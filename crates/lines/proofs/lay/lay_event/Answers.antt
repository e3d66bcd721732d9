-- `lines::lay::lay_event` meets its contract: number, letter, rank, object and answer stand one behind the other.
-- Assumes nothing.
use mathlib.Core.Path.{ap}
use mathlib.Core.List.{[], ◌∷◌}
use Prim.Native.Nat.{ℕ}
use native.Mathlib.Nat.{le_refl}
use Rattle.decimals.specs.Fields.{space}
use Rattle.lines.specs.Lines.{event_line}
use Rattle.decimals.specs.Laid.{laid_then, laid_is}
use Rattle.lines.proofs.lay.lay_event.Goals as goal

pub returns : goal.returns
unfolding event_line
returns c =
    laid_then c.lay_number-of.ensures
    (laid_then (laid_is c.lay_letter-by.ensures (ap (λ (l : ℕ). space ∷ l ∷ []) c.kind_letter.ensures) (le_refl 2))
    (laid_then c.lay_field-on.ensures
    (laid_then c.lay_field-then.ensures
    c.lay_answer.ensures)))
