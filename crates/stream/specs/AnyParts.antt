-- However the input is cut, inside the table too: all that is laid, in order, is the record of the parts joined (`record_of_parts`).
-- From `advance_lays`: what is laid and what is left to be laid make the whole record at each part. Behind the last part the bench is
-- settled, so that what is left is the last line.
-- Assumes nothing.
use Rattle.std.specs.Prelude.{ℕ, zero, suc, ◌+◌, ◌*◌, ◌/◌, ◌%◌, ◌≤◌, ◌<◌, min, ◌≡◌, refl, ◌⊎◌, List, [], ◌∷◌, ◌++◌, eqb, length, drop, if◌then◌else◌}
use Rattle.std.proofs.Common.{sym, ap, ap₂, subst, ◌∙◌, inl, inr, append_assoc, append-nil, arith, length-drop, drop-drop, eq-eqb, ne_eqb}
use Rattle.std.proofs.Math.Decide.{ℕ_discrete}
use Rattle.table_bytes.specs.Decided.{longest_table, cut_header, cut_short}
use Rattle.table.specs.Reading.{read_table}
use Rattle.table.specs.Fresh.{read_refusal}
use Rattle.lines.specs.Lines.{end_line, short_line, refused_line}
use Rattle.record.specs.Record.{record_of}
use Rattle.record.specs.RecordLaws.{event_lines_none}
use Rattle.stream.specs.declared.Bench.{Bench}
use Rattle.stream.specs.Parts.{Advance, opened, unread, unchanged, advance, last_line_of, feed, Progress, begun, fed, fed_all, closed, joined_parts}
use Rattle.stream.specs.Advancing.{advance_cases, advance_open, refused_used, accepted_used, advance_within, advance_count, left, left_open, left_events, left_refused, last_behind, advance_lays}

-- ---- a bench that waits for more bytes, or for none

pub data Settled (r : Bench) (bytes : List ℕ) : Type 0 where
  cut : r.refusal ≡ 1 → (read_table bytes).refusal ≡ 1 → Settled r bytes
  few : r.refusal ≡ 0 → length bytes < 3 → Settled r bytes
  refused : 2 ≤ r.refusal → Settled r bytes

-- what is left of it is the last line
pub settled_last : (r : Bench) (bytes : List ℕ) → Settled r bytes → left r bytes ≡ last_line_of r (length bytes)
unfolding last_line_of record_of
settled_last r bytes (cut e q) =
    left_open r bytes e ∙ early ∙ sym (simp (eq-eqb r.refusal 1 e))
  where
    early : record_of bytes ≡ refused_line 1
    early = simp (q)
settled_last r bytes (few e l) =
    left_events r bytes e
    ∙ ap (λ (k : List ℕ). k ++ last_behind r.events (length bytes)) (event_lines_none r.state r.events bytes l)
    ∙ ap₂ (λ (x y : ℕ). if eqb x 0 then end_line y else short_line) same count
    ∙ sym (simp (ne_eqb r.refusal 1 (λ z. omega arith), eq-eqb r.refusal 0 e))
  where
    same : length bytes % 3 ≡ length bytes
    same = omega arith

    count : r.events + length bytes / 3 ≡ r.events
    count = omega arith
settled_last r bytes (refused h) =
    left_refused r bytes h ∙ sym (simp (ne_eqb r.refusal 1 (λ z. omega arith), ne_eqb r.refusal 0 (λ z. omega arith)))

-- as long as its table is not refused, it holds fewer bytes than a table has
pub settled_short : (r : Bench) (bytes : List ℕ) → Settled r bytes → r.refusal ≤ 1 → length bytes < longest_table
settled_short r bytes (cut e q) h = cut_short bytes (sym (read_refusal bytes) ∙ q)
settled_short r bytes (few e l) h = omega arith
settled_short r bytes (refused l) h = absurd (omega arith)

-- so is the bench before the first byte
pub begun_settled : Settled unread []
begun_settled = cut refl (read_refusal [] ∙ cut_header [] (omega arith))

-- a step with room for a line that uses nothing leaves a settled bench
pub unused_settled : (most : ℕ) (r : Bench) (bytes : List ℕ) → 1 ≤ most → (advance most r bytes).used ≡ 0 → Settled (advance most r bytes).bench bytes
unused_settled most r bytes m =
    advance_cases most r bytes (λ (t : Advance). t.used ≡ 0 → Settled t.bench bytes) none (λ l e u. table (read_table bytes).refusal refl u) (λ l e u. few refl (omega arith))
  where
    none : (most ≡ 0) ⊎ (2 ≤ r.refusal) → (unchanged r).used ≡ 0 → Settled r bytes
    none (inl e) u = absurd (omega arith)
    none (inr h) u = refused h

    table : (v : ℕ) → (read_table bytes).refusal ≡ v → (read_table bytes).used ≡ 0 → Settled (opened (read_table bytes)) bytes
    table zero q u = absurd (no_used q u)
      where
        no_used : (read_table bytes).refusal ≡ 0 → (read_table bytes).used ≡ 0 → ⊥
        no_used q u = omega (arith, accepted_used bytes q)
    table (suc zero) q u = cut q q
    table (suc (suc v)) q u = refused (omega arith)

-- ---- a part is fed in two steps

pub feed_lays : (r : Bench) (bytes more : List ℕ) → (feed r bytes).lines ++ left (feed r bytes).bench (drop (feed r bytes).used bytes ++ more) ≡ left r (bytes ++ more)
unfolding feed
feed_lays r bytes more =
    let most : ℕ = suc (length bytes) in
    let first : Advance = advance most r bytes in
    let rest : List ℕ = drop first.used bytes in
    let second : Advance = advance most first.bench rest in
    append_assoc first.lines second.lines (left second.bench (drop (first.used + second.used) bytes ++ more))
    ∙ ap (λ (l : List ℕ). first.lines ++ (second.lines ++ left second.bench (l ++ more))) (sym (drop-drop second.used first.used bytes))
    ∙ ap (λ (l : List ℕ). first.lines ++ l) (advance_lays rest more most first.bench)
    ∙ advance_lays bytes more most r

-- both use no more than there is, and answer no more events than they use bytes
pub feed_within : (r : Bench) (bytes : List ℕ) → (feed r bytes).used ≤ length bytes
unfolding feed
feed_within r bytes =
    let first : Advance = advance (suc (length bytes)) r bytes in
    omega (arith, advance_within (suc (length bytes)) r bytes, advance_within (suc (length bytes)) first.bench (drop first.used bytes), length-drop first.used bytes)

pub feed_count : (r : Bench) (bytes : List ℕ) → (feed r bytes).bench.events + length (drop (feed r bytes).used bytes) ≤ r.events + length bytes
unfolding feed
feed_count r bytes =
    let most : ℕ = suc (length bytes) in
    let first : Advance = advance most r bytes in
    let second : Advance = advance most first.bench (drop first.used bytes) in
    omega (
      arith,
      advance_count most r bytes,
      advance_count most first.bench (drop first.used bytes),
      ap length (drop-drop second.used first.used bytes),
    )

-- a step over a table that is cut
cut_settled : (most : ℕ) (r : Bench) (bytes : List ℕ) → 1 ≤ most → r.refusal ≡ 1 → (read_table bytes).refusal ≡ 1
    → Settled (advance most r bytes).bench (drop (advance most r bytes).used bytes)
cut_settled most r bytes m e one =
    let none : (read_table bytes).used ≡ 0 = refused_used bytes (λ z. omega arith) in
    subst (λ (t : Advance). Settled t.bench (drop t.used bytes)) (sym (advance_open most r bytes m e))
    (subst (λ (n : ℕ). Settled (opened (read_table bytes)) (drop n bytes)) (sym none) (cut one one))

-- a step with room for all events, where the table is decided
all_settled : (most : ℕ) (r : Bench) (bytes : List ℕ) → 1 ≤ most → length bytes ≤ most → (r.refusal ≡ 1 → ⊥)
    → Settled (advance most r bytes).bench (drop (advance most r bytes).used bytes)
all_settled most r bytes m h d =
    advance_cases most r bytes (λ (t : Advance). Settled t.bench (drop t.used bytes))
    none
    (λ l e. absurd (d e))
    (λ l e. few refl (omega (arith, length-drop (3 * min most (length bytes / 3)) bytes)))
  where
    none : (most ≡ 0) ⊎ (2 ≤ r.refusal) → Settled r bytes
    none (inl e) = absurd (omega arith)
    none (inr l) = refused l

-- a step behind which the table is still undecided
still_cut : (most : ℕ) (r : Bench) (bytes : List ℕ) → 1 ≤ most → (advance most r bytes).bench.refusal ≡ 1
    → Settled (advance most r bytes).bench (drop (advance most r bytes).used bytes)
still_cut most r bytes m =
    advance_cases most r bytes (λ (t : Advance). t.bench.refusal ≡ 1 → Settled t.bench (drop t.used bytes))
    none
    (λ l e one. subst (λ (t : Advance). Settled t.bench (drop t.used bytes)) (advance_open most r bytes m e) (cut_settled most r bytes m e one))
    (λ l e one. absurd (omega arith))
  where
    none : (most ≡ 0) ⊎ (2 ≤ r.refusal) → r.refusal ≡ 1 → Settled r bytes
    none (inl e) one = absurd (omega arith)
    none (inr h) one = absurd (omega arith)

pub feed_settled : (r : Bench) (bytes : List ℕ) → Settled (feed r bytes).bench (drop (feed r bytes).used bytes)
unfolding feed
feed_settled r bytes =
    subst (Settled second.bench) (drop-drop second.used first.used bytes) (go (ℕ_discrete first.bench.refusal 1))
  where
    most : ℕ
    most = suc (length bytes)

    first : Advance
    first = advance most r bytes

    rest : List ℕ
    rest = drop first.used bytes

    second : Advance
    second = advance most first.bench rest

    go : Dec (first.bench.refusal ≡ 1) → Settled second.bench (drop second.used rest)
    go (yes e) = again (still_cut most r bytes (omega arith) e)
      where
        again : Settled first.bench rest → Settled second.bench (drop second.used rest)
        again (cut q one) = cut_settled most first.bench rest (omega arith) q one
        again (few q l) = absurd (omega arith)
        again (refused h) = absurd (omega arith)
    go (no d) = all_settled most first.bench rest (omega arith) (omega (arith, length-drop first.used bytes)) d

-- ---- all parts

-- what is laid, and then what is left, with more bytes to come
abbrev pub total : Progress → List ℕ → List ℕ
total p more = p.laid ++ left p.bench (p.held ++ more)

fed_total : (part : List ℕ) (p : Progress) (more : List ℕ) → total (fed part p) more ≡ total p (part ++ more)
fed_total part p more =
    let bytes : List ℕ = p.held ++ part in
    let t : Advance = feed p.bench bytes in
    append_assoc p.laid t.lines (left t.bench (drop t.used bytes ++ more))
    ∙ ap (λ (l : List ℕ). p.laid ++ l) (feed_lays p.bench bytes more)
    ∙ ap (λ (l : List ℕ). p.laid ++ left p.bench l) (append_assoc p.held part more)

all_total : (parts : List (List ℕ)) (p : Progress) → total (fed_all parts p) [] ≡ total p (joined_parts parts)
unfolding fed_all joined_parts
all_total [] p = refl
all_total (part ∷ parts) p = all_total parts (fed part p) ∙ fed_total part p (joined_parts parts)

all_parts_settled : (parts : List (List ℕ)) (p : Progress) → Settled p.bench p.held → Settled (fed_all parts p).bench (fed_all parts p).held
unfolding fed_all
all_parts_settled [] p q = q
all_parts_settled (part ∷ parts) p q = all_parts_settled parts (fed part p) (feed_settled p.bench (p.held ++ part))

-- where the bench is settled, the last line closes the record
pub settled_closed : (p : Progress) → Settled p.bench p.held → closed p ≡ total p []
settled_closed p q =
    ap (λ (l : List ℕ). p.laid ++ l) (sym (settled_last p.bench p.held q))
    ∙ ap (λ (l : List ℕ). p.laid ++ left p.bench l) (sym (append-nil p.held))

-- however the input is cut
pub record_of_parts : (parts : List (List ℕ)) → closed (fed_all parts begun) ≡ record_of (joined_parts parts)
record_of_parts parts =
    settled_closed (fed_all parts begun) (all_parts_settled parts begun begun_settled)
    ∙ all_total parts begun
    ∙ left_open unread (joined_parts parts) refl
