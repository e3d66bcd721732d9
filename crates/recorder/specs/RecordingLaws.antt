-- What holds of the bench and the bytes held behind each part: they are as the parts leave them (`after_fed`), the bytes are fewer than a
-- table has (`fed_short`), and the events and the bytes are no more than have come (`fed_count`).
-- Assumes nothing.
use Rattle.std.specs.Prelude.{ℕ, ◌+◌, ◌≤◌, ◌<◌, ◌≡◌, refl, List, [], ◌∷◌, ◌++◌, length, take, drop, Result}
use Rattle.std.proofs.Common.{sym, ap, ap₂, subst, ◌∙◌, add-zero, zero-add, arith, length-append, length-drop, take-append-drop, take-take, length-take-le}
use Rattle.std.proofs.lemmas.List.Edits.{sets}
use Rattle.table_bytes.specs.Decided.{longest_table}
use Rattle.decimals.specs.Laid.{laid_front}
use Rattle.stream.specs.declared.Bench.{Bench}
use Rattle.stream.specs.Parts.{Advance, unread, feed, Progress, begun, fed, fed_all, joined_parts}
use Rattle.stream.specs.AnyParts.{settled_short, feed_count, feed_settled}
use Rattle.recorder.specs.declared.RecordError.{RecordError}
use Rattle.recorder.specs.declared.Recorded.{Recorded}
use Rattle.recorder.specs.Recording.{Fed, Feeds, overlaid, AfterParts, MayEnd, Records}

pub after_none : (r : Bench) (lines : List ℕ) → r ≡ unread → AfterParts r [] 0 lines lines
unfolding fed_all joined_parts overlaid
after_none r lines e = record { parts = []; bench_is = e; held_is = refl; received_is = refl; lines_are = refl }

-- the same bytes held, under another name
pub after_same : {r : Bench} {held held' : List ℕ} {received : ℕ} {lines lines' : List ℕ} → AfterParts r held received lines lines' → held' ≡ held
    → AfterParts r held' received lines lines'
after_same d e =
    record { parts = d.parts; bench_is = d.bench_is; held_is = e ∙ d.held_is; received_is = d.received_is; lines_are = d.lines_are }

fed_all_more : (parts : List (List ℕ)) (part : List ℕ) (p : Progress) → fed_all (parts ++ (part ∷ [])) p ≡ fed part (fed_all parts p)
unfolding fed_all
fed_all_more [] part p = refl
fed_all_more (first ∷ parts) part p = fed_all_more parts part (fed first p)

joined_more : (parts : List (List ℕ)) (part : List ℕ) → length (joined_parts (parts ++ (part ∷ []))) ≡ length (joined_parts parts) + length part
unfolding joined_parts
joined_more [] part = length-append part [] ∙ add-zero (length part) ∙ sym (zero-add (length part))
joined_more (first ∷ parts) part =
    omega (arith, joined_more parts part, length-append first (joined_parts (parts ++ (part ∷ []))), length-append first (joined_parts parts))

overlaid_more : (parts : List (List ℕ)) (part : List ℕ) (p : Progress) (lines : List ℕ)
    → overlaid (parts ++ (part ∷ [])) p lines ≡ sets (overlaid parts p lines) 0 (feed (fed_all parts p).bench ((fed_all parts p).held ++ part)).lines
unfolding fed_all overlaid
overlaid_more [] part p lines = refl
overlaid_more (first ∷ parts) part p lines = overlaid_more parts part (fed first p) (sets lines 0 (feed p.bench (p.held ++ first)).lines)

-- one part more
after_more : (r : Bench) (held part : List ℕ) (received : ℕ) (lines lines' : List ℕ) → AfterParts r held received lines lines'
    → AfterParts (feed r (held ++ part)).bench (drop (feed r (held ++ part)).used (held ++ part)) (received + length part) lines (sets lines' 0 (feed r (held ++ part)).lines)
after_more r held part received lines lines' d =
    let more = fed_all_more d.parts part begun in
    let is : feed r (held ++ part) ≡ feed (fed_all d.parts begun).bench ((fed_all d.parts begun).held ++ part) =
    ap₂ (λ (x : Bench) (l : List ℕ). feed x (l ++ part)) d.bench_is d.held_is in
    record {
      parts = d.parts ++ (part ∷ []);
      bench_is = ap (λ (t : Advance). t.bench) is ∙ sym (ap (λ (p : Progress). p.bench) more);
      held_is =
          ap₂ (λ (t : Advance) (l : List ℕ). drop t.used (l ++ part)) is d.held_is ∙ sym (ap (λ (p : Progress). p.held) more);
      received_is = ap (λ (n : ℕ). n + length part) d.received_is ∙ sym (joined_more d.parts part);
      lines_are = ap₂ (λ (l : List ℕ) (t : Advance). sets l 0 t.lines) d.lines_are is ∙ sym (overlaid_more d.parts part begun lines);
    }

module _ (r : Bench) (filled : ℕ) (input after a b : List ℕ) (f : Fed) (h : filled ≤ length input)
    (g : Feeds f (take filled input) (feed r (take filled input)) input after a b) where
  abbrev bytes : List ℕ
  bytes = take filled input

  abbrev rest : List ℕ
  rest = drop (feed r bytes).used bytes

  size : length bytes ≡ filled
  size = length-take-le filled input h

  count : f.held ≡ length rest
  count = g.held.stops ∙ zero-add (length rest)

  pub fed_short : f.bench.refusal ≤ 1 → f.held < longest_table
  fed_short few =
      omega (arith, count, settled_short (feed r bytes).bench rest (feed_settled r bytes) (subst (λ (x : Bench). x.refusal ≤ 1) g.bench few))

  pub fed_count : f.bench.events + f.held ≤ r.events + filled
  fed_count = omega (arith, count, size, feed_count r bytes, ap (λ (x : Bench). x.events) g.bench)

  pub held_within : f.held ≤ filled
  held_within = omega (arith, count, size, length-drop (feed r bytes).used bytes)

  -- so many bytes were read behind those held, and fed
  pub after_fed : (held came received : ℕ) (before lines : List ℕ) → AfterParts r (take held before) received lines a → take held input ≡ take held before → filled ≡ held + came
      → AfterParts f.bench (take f.held after) (received + came) lines b
  after_fed held came received before lines d kept l =
      let part : List ℕ = drop held bytes in
      let joined : take held before ++ part ≡ bytes =
      ap (λ (l : List ℕ). l ++ part) (sym kept ∙ sym (take-take held filled input (omega arith))) ∙ take-append-drop held bytes in
      let there : AfterParts (feed r bytes).bench rest (received + length part) lines (sets a 0 (feed r bytes).lines) =
      subst (λ (l : List ℕ). AfterParts (feed r l).bench (drop (feed r l).used l) (received + length part) lines (sets a 0 (feed r l).lines)) joined
      (after_more r (take held before) part received lines a d) in
      let long : length part ≡ came = omega (arith, length-drop held bytes, size) in
      let front : take f.held after ≡ rest = laid_front g.held (omega (arith, size, length-drop (feed r bytes).used bytes)) in
      record {
        parts = there.parts;
        bench_is = g.bench ∙ there.bench_is;
        held_is = front ∙ there.held_is;
        received_is = ap (λ (n : ℕ). received + n) (sym long) ∙ there.received_is;
        lines_are = g.laid.stored ∙ there.lines_are;
      }

-- what is handed back, by its parts
pub records_is : {r : Recorded} {e : Result (Unit {0}) RecordError} {received held : ℕ} {bench : Bench} {input lines lines' : List ℕ}
    → r ≡ record { ended = e; received = received; bench = bench; held = held }
    → AfterParts bench (take held input) received lines lines' → held ≤ length input → MayEnd e received bench → Records r input lines lines'
records_is {r} {e} {received} {held} {bench} {input} {lines} {lines'} is d h k =
    subst (λ (x : Recorded). Records x input lines lines') (sym is) (record { after_parts = d; inside = h; ends = k })
