-- `well_formed::four_fit` meets its contract. Where none waits, each fits. The loop's invariant: each of the first k may wait for what it waits for;
-- a turn tests one more, and leaves the loop with the first that fails.
-- Assumes nothing.
use Prim.Native.Nat.{◌+◌}
use mathlib.Core.Path.{◌≡◌, sym, ap, ◌∙◌}
use native.Mathlib.Omega.{arith}
use Rattle.basics.specs.Choice.{and_true}
use Rattle.basics.specs.Loops.{every_more, every_false}
use Rattle.state.specs.Lent.{state_in}
use Rattle.state.specs.WellFormed.{wait_fits}
use Rattle.well_formed.specs.Survey.{with_marked}
use Rattle.well_formed.proofs.WaitLaws.{none_wait}
use Rattle.well_formed.proofs.jobs.four_fit.Goals as goal

pub returns-then-none_waits : goal.returns-then-none_waits
returns-then-none_waits c =
    sym (none_wait (with_marked (state_in c.args.parts.now) c.args.marked) 4 c.args.from (sym c.none_waits.ensures ∙ c.if-none_waits.true))

pub returns-then-not-wait_fits : goal.returns-then-not-wait_fits
returns-then-not-wait_fits c =
    let fits = wait_fits (with_marked (state_in c.args.parts.now) c.args.marked) in
    let here : c.args.from + (c.loop-k.k + 1) ≡ c.args.from + c.loop-k.k + 1 = omega arith in
    sym (every_false 4 (λ j. fits (c.args.from + j)) (c.loop-k.k + 1) (ap fits here ∙ sym c.wait_fits.ensures ∙ c.if-not-wait_fits.true) (omega arith) (omega arith))

pub loop-k-preserved : goal.loop-k-preserved
loop-k-preserved c =
    let fits = wait_fits (with_marked (state_in c.args.parts.now) c.args.marked) in
    let here : c.args.from + (c.loop-k.k + 1) ≡ c.args.from + c.loop-k.k + 1 = omega arith in
    every_more c.loop-k.k (λ j. fits (c.args.from + j)) ∙ and_true _ _ c.loop-k.invariant (ap fits here ∙ sym c.wait_fits.ensures ∙ c.if-not-wait_fits.false)
