-- `stream::advance` meets its contract: the room and the refusal say which step it is.
-- Assumes nothing.
use mathlib.Core.Path.{sym, ap, ◌∙◌}
use mathlib.Core.Logic.{inl, inr}
use mathlib.Core.List.{List}
use Prim.Native.Nat.{ℕ, ◌≤◌, ◌/◌, min}
use native.Mathlib.Omega.{arith}
use lib.ListN.{length}
use Rattle.stream.specs.declared.Bench.{Bench}
use Rattle.stream.specs.Parts.{answering, most_lines}
use Rattle.stream.specs.Advancing.{advance_none, advance_open, advance_events}
use Rattle.stream.proofs.LayLaws.{nothing_done, advances_is}
use Rattle.stream.proofs.advance.Goals as goal

pub returns-then-bench-eq1 : goal.returns-then-bench-eq1
returns-then-bench-eq1 c =
    let r : Bench = c.args.bench in
    let bytes : List ℕ = c.args.bytes.now in
    let most : ℕ = most_lines (length c.args.lines.now) r in
    let some : 1 ≤ most = omega (arith, c.most_lines-most.ensures, c.if-most-ne0.true) in
    advances_is c.open_table.ensures (advance_open most r bytes some c.if-bench-eq1.true)

pub returns-then-bench-eq0 : goal.returns-then-bench-eq0
returns-then-bench-eq0 c =
    let r : Bench = c.args.bench in
    let bytes : List ℕ = c.args.bytes.now in
    let most : ℕ = most_lines (length c.args.lines.now) r in
    let some : 1 ≤ most = omega (arith, c.most_lines-most.ensures, c.if-most-ne0.true) in
    let count = c.min-count.ensures ∙ ap (λ (n : ℕ). min n (length bytes / 3)) c.most_lines-most.ensures in
    advances_is c.answer.ensures (advance_events most r bytes some c.if-bench-eq0.true ∙ ap (λ (n : ℕ). answering n r bytes) (sym count))

pub returns-else-bench-eq0 : goal.returns-else-bench-eq0
returns-else-bench-eq0 c =
    let r : Bench = c.args.bench in
    let nonzero = c.if-bench-eq0.false in
    let not-one = c.if-bench-eq1.false in
    advances_is (nothing_done r c.args.lines.now) (advance_none (most_lines (length c.args.lines.now) r) r c.args.bytes.now (inr (omega arith)))

pub returns-else-most-ne0 : goal.returns-else-most-ne0
returns-else-most-ne0 c =
    let r : Bench = c.args.bench in
    advances_is (nothing_done r c.args.lines.now) (advance_none (most_lines (length c.args.lines.now) r) r c.args.bytes.now (inl (omega (arith, c.most_lines-most.ensures, c.if-most-ne0.false))))
