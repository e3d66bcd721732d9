-- Any events from a fresh state, each one a Step; proofs/Links shows that of them the words of demand 3 and the states say the same.
use Rattle.std.specs.Prelude.{ℕ, suc}
use Rattle.theory.specs.Words.{Label}
use Rattle.theory.specs.Machine.{View, Step, FreshView}

-- events from a fresh state: event i is a step from the state at time i to the one at time i + 1
pub record Trace (N : ℕ) (view : ℕ → View) (label : ℕ → Label) : Type 0 where
  pub fresh : FreshView N (view 0)
  pub step : (i : ℕ) → Step N (view i) (label i) (view (suc i))
