-- A step by where the bench is (`advance_cases`), what it uses, and the law that all rests on: the lines that it lays, and then what is
-- left to be laid behind it, are what was left before it (`advance_lays`).
-- Assumes nothing.
use Prim.Native.Nat.{ℕ, zero, suc, ◌+◌, ◌*◌, ◌/◌, ◌%◌, ◌≤◌, min}
use Rattle.std.specs.Prelude.{◌≡◌, ◌⊎◌, Bool, length, take, if◌then◌else◌}
use Rattle.std.proofs.Math.Path.{refl, sym, ap, ap₂}
use Rattle.std.proofs.Common.{subst, ◌∙◌, inl, inr, arith, zero-add, length-append, length-drop, take-append-drop, length-take-le}
use Rattle.std.proofs.Math.Bool.{true, false}
use mathlib.Core.List.{List, [], ◌++◌, append_assoc, append-nil}
use Rattle.std.proofs.Math.Dec.{eqb}
use Rattle.std.proofs.Math.ListN.{drop}
use Rattle.std.proofs.lemmas.List.{drop-append-le}
use borrow.Author.Tests.{eq-eqb, ne_eqb}
use Rattle.state.specs.declared.State.{State}
use Rattle.table_bytes.specs.Bytes.{table_length}
use Rattle.table.specs.Reading.{TableRead}
use Rattle.table.specs.Reading.{read_table}
use Rattle.table.specs.Fresh.{read_refusal, read_accepted, read_refused}
use Rattle.table.specs.Decided.{table_decided}
use Rattle.lines.specs.Lines.{header_line, end_line, short_line}
use Rattle.manager.specs.EventList.{state_after}
use Rattle.record.specs.Record.{event_lines, last_line, record_behind, record_of}
use Rattle.record.specs.RecordLaws.{event_lines_join, used_within}
use Rattle.stream.specs.declared.Bench.{Bench}
use Rattle.stream.specs.Parts.{Advance, opened, opening, answering, unchanged, advance}

-- ---- a step by where the bench is

module _ (most : ℕ) (r : Bench) (bytes : List ℕ) where
  pub advance_none : (most ≡ 0) ⊎ (2 ≤ r.refusal) → advance most r bytes ≡ unchanged r
  unfolding advance
  advance_none (inl e) = simp (eq-eqb most 0 e)
  advance_none (inr h) = go (eqb most 0) refl
    where
      go : (t : Bool) → eqb most 0 ≡ t → advance most r bytes ≡ unchanged r
      go true e = simp (e)
      go false e = simp (e, ne_eqb r.refusal 1 (λ q. omega arith), ne_eqb r.refusal 0 (λ q. omega arith))

  pub advance_open : 1 ≤ most → r.refusal ≡ 1 → advance most r bytes ≡ opening (read_table bytes)
  unfolding advance
  advance_open m e = simp (ne_eqb most 0 (λ q. omega arith), eq-eqb r.refusal 1 e)

  pub advance_events : 1 ≤ most → r.refusal ≡ 0 → advance most r bytes ≡ answering (min most (length bytes / 3)) r bytes
  unfolding advance
  advance_events m e = simp (ne_eqb most 0 (λ q. omega arith), ne_eqb r.refusal 1 (λ q. omega arith), eq-eqb r.refusal 0 e)

  pub advance_cases : (P : Advance → Type 0)
      → ((most ≡ 0) ⊎ (2 ≤ r.refusal) → P (unchanged r))
      → (1 ≤ most → r.refusal ≡ 1 → P (opening (read_table bytes)))
      → (1 ≤ most → r.refusal ≡ 0 → P (answering (min most (length bytes / 3)) r bytes))
      → P (advance most r bytes)
  advance_cases P none table events = go most refl r.refusal refl
    where
      go : (m : ℕ) → most ≡ m → (v : ℕ) → r.refusal ≡ v → P (advance most r bytes)
      go zero m v e = subst P (sym (advance_none (inl m))) (none (inl m))
      go (suc n) m zero e = subst P (sym (advance_events (omega arith) e)) (events (omega arith) e)
      go (suc n) m (suc zero) e = subst P (sym (advance_open (omega arith) e)) (table (omega arith) e)
      go (suc n) m (suc (suc v)) e = subst P (sym (advance_none (inr (omega arith)))) (none (inr (omega arith)))

-- ---- what a step uses

-- a table that is not accepted uses nothing
pub refused_used : (bytes : List ℕ) → ((read_table bytes).refusal ≡ 0 → ⊥) → (read_table bytes).used ≡ 0
refused_used bytes d = ap (λ (t : TableRead). t.used) (read_refused bytes (λ e. d (read_refusal bytes ∙ e)))

-- an accepted table has bytes
pub accepted_used : (bytes : List ℕ) → (read_table bytes).refusal ≡ 0 → 1 ≤ (read_table bytes).used
accepted_used bytes e =
    let used : (read_table bytes).used ≡ table_length bytes = ap (λ (t : TableRead). t.used) (read_accepted bytes (sym (read_refusal bytes) ∙ e)) in
    omega arith

table_within : (bytes : List ℕ) → (read_table bytes).used ≤ length bytes
table_within bytes = go (read_table bytes).refusal refl
  where
    go : (v : ℕ) → (read_table bytes).refusal ≡ v → (read_table bytes).used ≤ length bytes
    go zero e = used_within bytes e
    go (suc v) e = omega (arith, refused_used bytes (λ q. omega arith))

-- a step uses no more than there is
pub advance_within : (most : ℕ) (r : Bench) (bytes : List ℕ) → (advance most r bytes).used ≤ length bytes
advance_within most r bytes =
    advance_cases most r bytes (λ (t : Advance). t.used ≤ length bytes) (λ e. omega arith) (λ m e. table_within bytes) (λ m e. omega arith)

-- it answers no more events than it uses bytes
pub advance_count : (most : ℕ) (r : Bench) (bytes : List ℕ) → (advance most r bytes).bench.events + length (drop (advance most r bytes).used bytes) ≤ r.events + length bytes
advance_count most r bytes =
    advance_cases most r bytes (λ (t : Advance). t.bench.events + length (drop t.used bytes) ≤ r.events + length bytes)
    (λ e. omega arith)
    (λ m e. omega (arith, length-drop (read_table bytes).used bytes))
    (λ m e. omega (arith, length-drop (3 * min most (length bytes / 3)) bytes))

-- room for all events is room enough
pub advance_enough : (m n : ℕ) (r : Bench) (bytes : List ℕ) → 1 ≤ m → 1 ≤ n → length bytes / 3 ≤ m → length bytes / 3 ≤ n → advance m r bytes ≡ advance n r bytes
advance_enough m n r bytes a b p q =
    let same : min n (length bytes / 3) ≡ min m (length bytes / 3) = omega arith in
    advance_cases n r bytes (λ (t : Advance). advance m r bytes ≡ t)
    none
    (λ l e. advance_open m r bytes a e)
    (λ l e. advance_events m r bytes a e ∙ ap (λ (k : ℕ). answering k r bytes) (sym same))
  where
    none : (n ≡ 0) ⊎ (2 ≤ r.refusal) → advance m r bytes ≡ unchanged r
    none (inl e) = absurd (omega arith)
    none (inr h) = advance_none m r bytes (inr h)

-- ---- what is left to be laid, where these bytes are all that is left of the input

-- the last line behind so many events, where so many bytes are left
abbrev pub last_behind : ℕ → ℕ → List ℕ
last_behind n size = if eqb (size % 3) 0 then end_line (n + size / 3) else short_line

unfoldable pub left : Bench → List ℕ → List ℕ
left r bytes =
    if eqb r.refusal 1 then record_of bytes else
    if eqb r.refusal 0 then event_lines r.state r.events bytes ++ last_behind r.events (length bytes) else
    []

pub left_open : (r : Bench) (bytes : List ℕ) → r.refusal ≡ 1 → left r bytes ≡ record_of bytes
unfolding left
left_open r bytes e = simp (eq-eqb r.refusal 1 e)

pub left_events : (r : Bench) (bytes : List ℕ) → r.refusal ≡ 0
    → left r bytes ≡ event_lines r.state r.events bytes ++ last_behind r.events (length bytes)
unfolding left
left_events r bytes e = simp (ne_eqb r.refusal 1 (λ q. omega arith), eq-eqb r.refusal 0 e)

pub left_refused : (r : Bench) (bytes : List ℕ) → 2 ≤ r.refusal → left r bytes ≡ []
unfolding left
left_refused r bytes h = simp (ne_eqb r.refusal 1 (λ q. omega arith), ne_eqb r.refusal 0 (λ q. omega arith))

-- ---- a step lays the front of what is left

-- what is laid by a step, and then what is left behind it with more bytes to come
abbrev Lays : Advance → List ℕ → List ℕ → List ℕ → Type 0
Lays t bytes more all = t.lines ++ left t.bench (drop t.used bytes ++ more) ≡ all

module _ (bytes more : List ℕ) where
  open_cut : (read_table bytes).refusal ≡ 1 → Lays (opening (read_table bytes)) bytes more (record_of (bytes ++ more))
  open_cut e =
      let t : TableRead = read_table bytes in
      let none : t.used ≡ 0 = refused_used bytes (λ q. omega arith) in
      ap₂ (λ (l : List ℕ) (n : ℕ). l ++ left (opened t) (drop n bytes ++ more)) no_line none
      ∙ left_open (opened t) (bytes ++ more) e
    where
      no_line : (opening (read_table bytes)).lines ≡ []
      no_line = simp (e)

  open_refused : 2 ≤ (read_table bytes).refusal → Lays (opening (read_table bytes)) bytes more (record_of (bytes ++ more))
  unfolding record_of
  open_refused h =
      let same : read_table (bytes ++ more) ≡ read_table bytes = table_decided bytes more (λ q. omega arith) in
      let zero' : eqb (read_table bytes).refusal 0 ≡ false = ne_eqb (read_table bytes).refusal 0 (λ q. omega arith) in
      let one' : eqb (read_table bytes).refusal 1 ≡ false = ne_eqb (read_table bytes).refusal 1 (λ q. omega arith) in
      simp (same, zero', one', left_refused (opened (read_table bytes)) (drop (read_table bytes).used bytes ++ more) h, append-nil)

  open_accepted : (read_table bytes).refusal ≡ 0 → Lays (opening (read_table bytes)) bytes more (record_of (bytes ++ more))
  unfolding record_of
  open_accepted e =
      let t : TableRead = read_table bytes in
      let same : read_table (bytes ++ more) ≡ read_table bytes = table_decided bytes more (λ q. omega arith) in
      let header : List ℕ = header_line t.state.counts in
      let rest : List ℕ = drop t.used bytes ++ more in
      let yes' : eqb t.refusal 0 ≡ true = eq-eqb t.refusal 0 e in
      let line : (opening t).lines ≡ header = simp (yes') in
      let behind : record_behind t rest ≡ header ++ event_lines t.state 0 rest ++ last_line (length rest) = simp (yes') in
      ap₂ ◌++◌ line (left_events (opened t) rest e ∙ ap (λ (n : ℕ). event_lines t.state 0 rest ++ (if eqb (length rest % 3) 0 then end_line n else short_line)) (zero-add (length rest / 3)))
      ∙ sym (append_assoc header (event_lines t.state 0 rest) (last_line (length rest)))
      ∙ sym behind
      ∙ ap (record_behind t) (sym (drop-append-le t.used bytes more (used_within bytes e)))
      ∙ ap (λ (x : TableRead). record_behind x (drop x.used (bytes ++ more))) (sym same)

  open_lays : Lays (opening (read_table bytes)) bytes more (record_of (bytes ++ more))
  open_lays = go (read_table bytes).refusal refl
    where
      go : (v : ℕ) → (read_table bytes).refusal ≡ v → Lays (opening (read_table bytes)) bytes more (record_of (bytes ++ more))
      go zero e = open_accepted e
      go (suc zero) e = open_cut e
      go (suc (suc v)) e = open_refused (omega arith)

  events_lay : (r : Bench) (n : ℕ) → 3 * n ≤ length bytes
      → Lays (answering n r bytes) bytes more (event_lines r.state r.events (bytes ++ more) ++ last_behind r.events (length (bytes ++ more)))
  events_lay r n h =
      let front : List ℕ = take (3 * n) bytes in
      let rest : List ℕ = drop (3 * n) bytes ++ more in
      let next : State = state_after r.state front in
      let cut : front ++ rest ≡ bytes ++ more = sym (append_assoc front (drop (3 * n) bytes) more) ∙ ap (λ (l : List ℕ). l ++ more) (take-append-drop (3 * n) bytes) in
      let size : length (bytes ++ more) ≡ 3 * n + length rest =
      sym (ap length cut) ∙ length-append front rest ∙ ap (λ (k : ℕ). k + length rest) (length-take-le (3 * n) bytes h) in
      let parity : length rest % 3 ≡ length (bytes ++ more) % 3 = omega arith in
      let count : r.events + n + length rest / 3 ≡ r.events + length (bytes ++ more) / 3 = omega arith in
      ap (λ (l : List ℕ). event_lines r.state r.events front ++ l) (left_events (answering n r bytes).bench rest refl)
      ∙ sym (append_assoc (event_lines r.state r.events front) (event_lines next (r.events + n) rest) (last_behind (r.events + n) (length rest)))
      ∙ ap (λ (l : List ℕ). l ++ last_behind (r.events + n) (length rest)) (sym (event_lines_join n r.state r.events front rest (length-take-le (3 * n) bytes h)))
      ∙ ap₂ (λ (l : List ℕ) (k : ℕ). event_lines r.state r.events l ++ (if eqb (length rest % 3) 0 then end_line k else short_line)) cut count
      ∙ ap (λ (k : ℕ). event_lines r.state r.events (bytes ++ more) ++ (if eqb k 0 then end_line (r.events + length (bytes ++ more) / 3) else short_line)) parity

  pub advance_lays : (most : ℕ) (r : Bench) → Lays (advance most r bytes) bytes more (left r (bytes ++ more))
  advance_lays most r =
      advance_cases most r bytes (λ (t : Advance). Lays t bytes more (left r (bytes ++ more)))
      (λ e. refl)
      (λ m e. open_lays ∙ sym (left_open r (bytes ++ more) e))
      (λ m e. events_lay r (min most (length bytes / 3)) (omega arith) ∙ sym (left_events r (bytes ++ more) e))
