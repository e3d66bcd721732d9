-- `stream::lay_last` meets its contract: each test lays its line.
-- Assumes nothing.
use native.Mathlib.Omega.{arith}
use Rattle.decimals.specs.Laid.{laid_is}
use Rattle.stream.proofs.LayLaws.{last_cut, last_refused, last_end, last_short, nothing_laid}
use Rattle.stream.proofs.lay_last.Goals as goal

pub returns-then-bench-eq1 : goal.returns-then-bench-eq1
returns-then-bench-eq1 c = laid_is c.lay_refused.ensures (last_cut c.args.bench c.args.left c.if-bench-eq1.true) (omega arith)

pub returns-then-bench-ne0 : goal.returns-then-bench-ne0
returns-then-bench-ne0 c = laid_is (nothing_laid c.args.lines.now 45) (last_refused c.args.bench c.args.left c.if-bench-ne0.true c.if-bench-eq1.false) (omega arith)

pub returns-then-left-eq0 : goal.returns-then-left-eq0
returns-then-left-eq0 c = laid_is c.lay_end.ensures (last_end c.args.bench c.args.left c.if-bench-ne0.false c.if-left-eq0.true) (omega arith)

pub returns : goal.returns
returns c = laid_is c.lay_short.ensures (last_short c.args.bench c.args.left c.if-bench-ne0.false c.if-left-eq0.false) (omega arith)
