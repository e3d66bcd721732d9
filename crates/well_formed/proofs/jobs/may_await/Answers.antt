-- `well_formed::may_await` meets its contract: where the mode and the object are in range, the object's sets are those at its index.
-- Assumes nothing.
use Rattle.well_formed.proofs.WaitLaws.{may_await_is}
use Prim.Native.Nat.{◌+◌}
use mathlib.Core.Bool.{◌&&◌}
use Rattle.basics.specs.Choice.{between, and_right, between_true}
use Rattle.state.specs.State.{mode_of_request, object_of_request}
use Rattle.state.specs.Lent.{state_in}
use Rattle.well_formed.specs.Survey.{with_marked}
use mathlib.Core.Path.{sym, ap, ap₂, ◌∙◌}
use Rattle.well_formed.proofs.jobs.may_await.Goals as goal

pub returns : goal.returns
returns c =
    let p = c.args.parts.now in
    let s = with_marked (state_in p) c.args.marked in
    let mode = mode_of_request c.args.request in
    let object = object_of_request c.args.request in
    let mode_fits = sym (c.within.ensures ∙ ap (between 1 (p.counts.version + 1)) c.mode_of_request-mode.ensures) in
    let object_fits = sym (c.within-2.ensures ∙ ap (between 1 p.counts.objects) c.object_of_request-object.ensures) in
    let tests = ap₂ ◌&&◌ mode_fits object_fits ∙ c.if-not-within.false in
    let in_table = between_true 1 p.counts.objects object (and_right (between 1 (p.counts.version + 1) mode) _ tests) in
    let whole = may_await_is s mode c.args.rank object in_table.0 tests in
    cc
