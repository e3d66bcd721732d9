-- `recorder::run` meets its contract: a turn feeds one part more, and each way out hands back what the parts that came leave.
-- Assumes nothing.
use Rattle.std.proofs.Common.{ap, inr, refl, arith, rules}
use Rattle.stream.specs.declared.Bench.{Bench}
use Rattle.recorder.specs.RecordingLaws.{after_none}
use Rattle.recorder.proofs.TurnLaws.{turned}
use Rattle.recorder.proofs.run.Goals as goal

pub loop-recorded-init : goal.loop-recorded-init
loop-recorded-init g c =
    let begun = c.requires.begun in
    record {
      short = omega arith;
      counted = omega (arith, ap (λ (r : Bench). r.events) begun.1);
      input_size = refl;
      lines_size = refl;
      after_parts = rw (begun.0, begun.2) (after_none _ _ begun.1);
    }

pub returns-in_err-write_lines : goal.returns-in_err-write_lines
returns-in_err-write_lines g c =
    let t = turned c.loop-recorded.invariant.after_parts (rw c.in-Some.is at c.in_ok-count.ensures) c.feed-laid.ensures.fed in
    record { after_parts = rw c.feed-laid.ensures.received t.parts; inside = t.inside; ends = search rules }

pub returns-then-recorded-gt1 : goal.returns-then-recorded-gt1
returns-then-recorded-gt1 g c =
    let t = turned c.loop-recorded.invariant.after_parts (rw c.in-Some.is at c.in_ok-count.ensures) c.feed-laid.ensures.fed in
    record { after_parts = rw c.feed-laid.ensures.received t.parts; inside = t.inside; ends = inr c.if-recorded-gt1.true }

pub loop-recorded-preserved : goal.loop-recorded-preserved
loop-recorded-preserved g c =
    let came = rw c.in-Some.is at c.in_ok-count.ensures in
    let t = turned c.loop-recorded.invariant.after_parts came c.feed-laid.ensures.fed in
    record {
      short = t.short c.if-recorded-gt1.false;
      counted = omega (arith, t.counted, c.feed-laid.ensures.received);
      input_size = omega (arith, came.size);
      lines_size = omega arith;
      after_parts = rw c.feed-laid.ensures.received t.parts;
    }
