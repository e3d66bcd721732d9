-- `page::lines::lay_lines` meets its contract. The loop's invariant: the lines of the ranks passed stand at the front, up to `end`, and the bytes behind are as
-- they were. A turn lays the line of an active rank into the 21 bytes behind them.
-- Assumes nothing.
use mathlib.Core.Path.{◌≡◌, sym, ap, ◌∙◌}
use mathlib.Core.Bool.{true}
use mathlib.Core.List.{List, ◌++◌}
use Prim.Native.Nat.{ℕ, ◌≤◌, ◌<◌, ◌-◌, ◌+◌}
use native.Mathlib.Omega.{arith}
use lib.ListN.{length, take, drop, length-append}
use Rattle.basics.specs.Arrays.{at}
use Rattle.ranks.specs.Ranks.{member}
use Rattle.state.specs.State.{most_processors}
use Rattle.state.specs.Clauses.{Within}
use Rattle.state.specs.declared.lent.Parts.{Parts}
use Rattle.decimals.specs.Laid.{at_front, front_more}
use Rattle.page.specs.Parts.{ProcessorsFit, line_by, lines_by, line_by_length, lines_more, lines_same, room_for_line}
use borrow.Author.Rules.{rules}
use Rattle.page.proofs.lines.lay_lines.Goals as goal
use Rattle.page.proofs.lines.lay_lines.Goals.{then-contains, else-contains}

-- where the page has room, the line of the next rank, n + 1, if it is active
module _ (p : Parts) (named running buffer : List ℕ) (n : ℕ) (within : Within p.counts) (fit : ProcessorsFit p.counts p.processor_of.now)
    (fits : length (lines_by p.counts.jobs p.counts.jobs named running p.processor_of.now p.active p.sleeping p.request.now) ≤ length buffer)
    (below : n < p.counts.jobs) (is_active : member p.active (n + 1) ≡ true) where
  abbrev lines : ℕ → List ℕ
  lines k = lines_by k p.counts.jobs named running p.processor_of.now p.active p.sleeping p.request.now

  abbrev line : List ℕ
  line = line_by p.counts.jobs named running p.processor_of.now p.sleeping p.request.now (n + 1)

  processor-small : at p.processor_of.now (n + 1) < most_processors
  processor-small = omega (arith, fit (n + 1) (omega arith) (omega arith), within.processors)

  long : length line ≡ 21
  long = line_by_length _ _ _ _ p.active _ _ (n + 1) (omega (arith, within.jobs)) processor-small

  pub room : length (lines n) + 21 ≤ length buffer
  room = room_for_line _ _ _ _ _ _ _ n (length buffer) below (within.jobs.1) processor-small is_active fits

  more : lines (n + 1) ≡ lines n ++ line
  more = lines_more p.counts.jobs named running p.processor_of.now p.active p.sleeping p.request.now n is_active

  both : length (lines n) + 21 ≡ length (lines (n + 1))
  both = omega (arith, length-append (lines n) line, long, ap length more)

  pub laid : (end : ℕ) (before text : List ℕ) → end ≡ length (lines n) → before ≡ at_front (lines n) buffer → text ≡ line
      → take end before ++ (text ++ drop (end + 21 - end) (drop end before)) ≡ at_front (lines (n + 1)) buffer
  laid end before text e is same =
      let back : end + 21 - end ≡ 21 = omega arith in
      (λ i. take end (is i) ++ (same i ++ drop (back i) (drop end (is i))))
      ∙ front_more (lines n) line buffer end 21 (sym e) long
      ∙ ap (λ (l : List ℕ). at_front l buffer) (sym more)

  pub stops : (end : ℕ) → end ≡ length (lines n) → end + 21 ≡ length (lines (n + 1))
  stops end e = omega (arith, e, both)

pub slice_bounds-lay_rank-end : goal.slice_bounds-lay_rank-end
slice_bounds-lay_rank-end c =
    let a = c.args in
    let active = sym c.contains.ensures ∙ c.if-contains.true in
    let fits = room a.parts.now a.named.now a.running.now a.buf.now c.loop-i.i c.requires.0 c.requires.1 c.requires.2 (omega arith) active in
    omega (arith, fits, c.loop-i.invariant.1, c.loop-i.invariant.2)

pub loop-i-preserved : goal.loop-i-preserved
loop-i-preserved c = elim c.if-contains.branch [
  | then-contains w ↦
      let a = c.args in
      let n = c.loop-i.i in
      let active = sym c.contains.ensures ∙ w.if-contains.true in
      let stands = w.buf-is ∙ laid a.parts.now a.named.now a.running.now a.buf.now n c.requires.0 c.requires.1 c.requires.2 (omega arith) active
      c.loop-i.end c.loop-i.buf w.lay_rank.new.line c.loop-i.invariant.2 c.loop-i.invariant.3 w.lay_rank.ensures in (
        search rules,
        c.if-contains.auto.buf ∙ c.loop-i.invariant.1,
        w.end-is ∙ stops a.parts.now a.named.now a.running.now a.buf.now n c.requires.0 c.requires.1 c.requires.2 (omega arith) active c.loop-i.end c.loop-i.invariant.2,
        stands,
      )
  | else-contains w ↦
      let p = c.args.parts.now in
      let same = sym (lines_same p.counts.jobs c.args.named.now c.args.running.now p.processor_of.now p.active p.sleeping p.request.now c.loop-i.i
      (sym c.contains.ensures ∙ w.if-contains.false)) in (
        search rules,
        c.if-contains.auto.buf ∙ c.loop-i.invariant.1,
        w.end-is ∙ c.loop-i.invariant.2 ∙ ap length same,
        w.buf-is ∙ c.loop-i.invariant.3 ∙ ap (λ (text : List ℕ). at_front text c.args.buf.now) same,
      )
]
