-- `?` hands on the refusal that it meets, so that the first of some steps that refuses decides.
-- Assumes nothing.
use Rattle.std.specs.Prelude.{ℕ, ◌≡◌, Result, Ok, Err, IsErrAnd}
use Rattle.std.proofs.Common.{sym, ap, ◌∙◌}
use Rattle.basics.specs.Choice.{◌or_else◌, or_else_first}
use Rattle.state.specs.declared.refusal.Refusal.{Refusal}
use Rattle.state.specs.RefusalNumbers.{number, refusal_number, number_positive}

-- what `?` hands on of any answer
pub handed_on : {T : Type 0} (r : Result T Refusal) (e : Refusal) → IsErrAnd r (λ x. x ≡ e) → r ≡ Err e
handed_on (Ok x) e same = absurd same
handed_on (Err x) e same = ap Err same

-- as one step of several
pub decides : (r : Result Unit Refusal) (e : Refusal) (a rest : ℕ) → IsErrAnd r (λ x. x ≡ e) → number e ≡ a → refusal_number r ≡ (a or_else rest)
decides r e a rest same q = ap refusal_number (handed_on r e same) ∙ q ∙ sym (or_else_first a rest (λ z. number_positive e (q ∙ z)))
