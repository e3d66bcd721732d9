-- `events::end_run` meets its contract: the parts that it changes are those of the state after the run's end, and that of the wake follows.
-- Assumes nothing.
use mathlib.Core.Path.{◌≡◌, sym, subst, ◌∙◌}
use Prim.Native.Nat.{◌≤◌}
use Rattle.state.specs.declared.State.{State}
use Rattle.state.specs.State.{most_jobs, with_locks, end_run}
use Rattle.state.specs.Lent.{state_in_mut}
use Rattle.state.specs.Holders.{HolderFacts, end_run_holders}
use Rattle.refusals.specs.Accepting.{RequestsFit}
use Rattle.events.specs.Events as E
use Rattle.events.proofs.EventLaws as L
use Rattle.events.proofs.end_run.Goals as goal

pub wake-requires : goal.wake-requires
unfolding end_run
wake-requires c =
    let a = c.args in
    let s = state_in_mut a.state.now in
    let H = c.requires.4 in
    let carried = c.most_urgent-state.ensures ∙ L.last_holder s H a.rank c.union.result c.release_sets-reading.result c.release_sets-writing.result c.union.ensures c.release_sets-reading.ensures.1 c.release_sets-writing.ensures.1 in
    let is : with_locks s c.without-state.result c.without-state-2.result c.without-state-3.result c.most_urgent-state.result c.release_sets-reading.new.sets c.release_sets-writing.new.sets c.drop_marks.new.marks c.store_request.new.requests ≡ end_run s a.rank =
    (λ i. with_locks s (c.without-state.ensures i) (c.without-state-2.ensures i) (c.without-state-3.ensures i) (carried i) (c.release_sets-reading.ensures.0 i) (c.release_sets-writing.ensures.0 i) (c.drop_marks.ensures i) (c.store_request.ensures i)) in
    subst (λ (x : State). (x.counts.jobs ≤ most_jobs) × RequestsFit x.request × HolderFacts x) (sym is)
    (c.requires.0, L.dropped_fits s.request a.rank c.requires.1 c.requires.3, end_run_holders s H a.rank)

pub returns-clause-next : goal.returns-clause-next
unfolding end_run
returns-clause-next c =
    let a = c.args in
    let s = state_in_mut a.state.now in
    let H = c.requires.4 in
    let carried = c.most_urgent-state.ensures ∙ L.last_holder s H a.rank c.union.result c.release_sets-reading.result c.release_sets-writing.result c.union.ensures c.release_sets-reading.ensures.1 c.release_sets-writing.ensures.1 in
    c.wake.ensures.next
    ∙ (λ i. E.wake (with_locks s (c.without-state.ensures i) (c.without-state-2.ensures i) (c.without-state-3.ensures i) (carried i) (c.release_sets-reading.ensures.0 i) (c.release_sets-writing.ensures.0 i) (c.drop_marks.ensures i) (c.store_request.ensures i)))
