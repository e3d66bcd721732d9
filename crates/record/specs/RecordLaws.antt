-- Laws of the record: its events one by one, cut into parts anywhere between two events, and the length of its table.
-- Assumes nothing.
use Rattle.std.specs.Prelude.{ℕ, zero, suc, ◌+◌, ◌*◌, ◌≤◌, ◌<◌, ◌≡◌, refl, List, [], ◌∷◌, ◌++◌, length}
use Rattle.std.proofs.Common.{sym, ap, ◌∙◌, append_assoc, add-zero, arith}
use Rattle.state.specs.declared.State.{State}
use Rattle.table.specs.Reading.{TableRead}
use Rattle.table_bytes.specs.Bytes.{table_length}
use Rattle.table_bytes.specs.Refusals.{table_refusal}
use Rattle.table.specs.Reading.{read_table}
use Rattle.table_bytes.specs.AcceptedTable.{accepted_table}
use Rattle.table.specs.Fresh.{read_refusal, read_accepted}
use Rattle.manager.specs.Step.{step}
use Rattle.lines.specs.Lines.{event_line}
use Rattle.manager.specs.EventList.{state_after}
use Rattle.record.specs.Record.{event_lines}

-- ---- an event, and what it leaves

pub event_lines_more : (s : State) (n kind rank object : ℕ) (bytes : List ℕ) → event_lines s n (kind ∷ rank ∷ object ∷ bytes)
    ≡ event_line s.counts.version (suc n) kind rank object (step s kind rank object).answer ++ event_lines (step s kind rank object).state (suc n) bytes
unfolding event_lines
event_lines_more s n kind rank object bytes = refl

-- fewer than three bytes are no event
pub event_lines_none : (s : State) (n : ℕ) (bytes : List ℕ) → length bytes < 3 → event_lines s n bytes ≡ []
unfolding event_lines
event_lines_none s n [] h = refl
event_lines_none s n (a ∷ []) h = refl
event_lines_none s n (a ∷ b ∷ []) h = refl
event_lines_none s n (a ∷ b ∷ c ∷ bytes) h = absurd (omega arith)

-- ---- k whole events, and more bytes behind them: their lines, and then the lines from the state that they leave

pub event_lines_join : (k : ℕ) (s : State) (n : ℕ) (xs ys : List ℕ) → length xs ≡ 3 * k
    → event_lines s n (xs ++ ys) ≡ event_lines s n xs ++ event_lines (state_after s xs) (n + k) ys
unfolding event_lines state_after
event_lines_join zero s n [] ys h = ap (λ (m : ℕ). event_lines s m ys) (sym (add-zero n))
event_lines_join zero s n (a ∷ xs) ys h = absurd (omega arith)
event_lines_join (suc k) s n [] ys h = absurd (omega arith)
event_lines_join (suc k) s n (a ∷ []) ys h = absurd (omega arith)
event_lines_join (suc k) s n (a ∷ b ∷ []) ys h = absurd (omega arith)
event_lines_join (suc k) s n (a ∷ b ∷ c ∷ xs) ys h =
    let next : State = (step s a b c).state in
    let line : List ℕ = event_line s.counts.version (suc n) a b c (step s a b c).answer in
    let count : suc n + k ≡ n + suc k = omega arith in
    ap (λ (l : List ℕ). line ++ l) (event_lines_join k next (suc n) xs ys (omega arith))
    ∙ ap (λ (m : ℕ). line ++ (event_lines next (suc n) xs ++ event_lines (state_after next xs) m ys)) count
    ∙ sym (append_assoc line (event_lines next (suc n) xs) (event_lines (state_after next xs) (n + suc k) ys))

-- ---- a table that is accepted stands inside its bytes

pub used_within : (b : List ℕ) → (read_table b).refusal ≡ 0 → (read_table b).used ≤ length b
used_within b e =
    let none : table_refusal b ≡ 0 = sym (read_refusal b) ∙ e in
    let used : (read_table b).used ≡ table_length b = ap (λ (t : TableRead). t.used) (read_accepted b none) in
    omega (arith, (accepted_table b none).table_within)
