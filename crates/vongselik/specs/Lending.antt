-- What the C interface answers and leaves in lent memory: a refusal's number, or 0 and the values; a refusal leaves every lent byte as it was.
-- Assumes nothing.
use Rattle.std.specs.Prelude.{ℕ, ◌≡◌, eqb, if◌then◌else◌}
use Rattle.std.proofs.Common.{eq-eqb, ne_eqb}
use Rattle.state.specs.declared.State.{State}
use Rattle.table.specs.Reading.{TableRead}

-- ---- what a table read into a lent state leaves: the state and the used count of the table, or what was there before

abbrev pub state_read : TableRead → State → State
state_read t old = if eqb t.refusal 0 then t.state else old

abbrev pub used_read : TableRead → ℕ → ℕ
used_read t old = if eqb t.refusal 0 then t.used else old

module _ (t : TableRead) (old : State) (n : ℕ) where
  pub read_kept : (t.refusal ≡ 0 → ⊥) → (used_read t n ≡ n) × (state_read t old ≡ old)
  read_kept d = (simp (ne_eqb t.refusal 0 d), simp (ne_eqb t.refusal 0 d))

  pub read_filled : t.refusal ≡ 0 → (used_read t n ≡ t.used) × (state_read t old ≡ t.state)
  read_filled e = (simp (eq-eqb t.refusal 0 e), simp (eq-eqb t.refusal 0 e))
