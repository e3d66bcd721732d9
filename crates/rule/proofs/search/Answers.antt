-- `rule::search` meets its contract. The outer loop's invariant: no rank counted so far waits with a request that passes. The inner loop's: the
-- rank is the holder, or more urgent than every lock of the holder that is passed (LetBy). A lock that stops the rank stops whoever is less urgent, but for the
-- holder, which is tried next; where no lock is left the rank is the first that wakes. The numbers of ranks and of locks left fall.
-- Assumes nothing.
use mathlib.Core.Path.{◌≡◌, refl, sym, subst, ap, ap₂, ◌∙◌}
use Prim.Native.Nat.{ℕ, ◌+◌}
use native.Mathlib.Omega.{arith}
use Rattle.basics.specs.Arrays.{at, at_next}
use Rattle.basics.specs.Loops.{first_nonzero}
use Rattle.state.specs.Holders.{carried_small}
use Rattle.one_holder.specs.OneHolder.{holder_key_at, passes_lock}
use Rattle.std.specs.Prelude.{slice_index}
use Rattle.rule.specs.Granting.{passes_below, wakes, wakeable}
use Rattle.state.specs.Lent.{state_in}
use Rattle.rule.specs.WakeLaws.{all_stopped, found_next, found_none}
use Rattle.rule.proofs.Searching.{LetBy, passes_gathered, all_stopped_lem, let_none, let_other, let_more, pass_stopped, found, none_left}
use Rattle.rule.proofs.search.Goals as goal

pub locked_by-locked-requires : goal.locked_by-locked-requires
locked_by-locked-requires c = (let H = c.requires.1 in (H.few, omega (arith, carried_small _ H)))

pub search-init : goal.search-init
unfolding first_nonzero
search-init c = (omega arith, refl)

pub loop-done-init : goal.loop-done-init
loop-done-init c =
    let s = state_in c.args.parts.now in
    let next = (found_next s.request c.search.rank s.counts.jobs c.next_waiting-rank.result c.next_waiting-rank.ensures c.if-rank-eq0.false) in (
      refl,
      subst (LetBy (holder_key_at s s.holder) c.locked_by-locked.result.objects s.holder c.locked_by-locked.result.count c.next_waiting-rank.result) (sym c.not_counting-done.ensures)
          (let_none (holder_key_at s s.holder) c.locked_by-locked.result.objects s.holder c.locked_by-locked.result.count c.next_waiting-rank.result (omega (arith, next.1, c.requires.0))),
    )

pub passes_lock-passed-requires : goal.passes_lock-passed-requires
passes_lock-passed-requires c =
    let w = c.locked_by-locked.ensures.locks.locks.inside (c.loop-done.done + 1) (omega arith) (omega (arith, c.loop-done-test.true)) in
    let H = c.requires.1 in
    let next = (found_next (state_in c.args.parts.now).request c.search.rank (state_in c.args.parts.now).counts.jobs c.next_waiting-rank.result c.next_waiting-rank.ensures c.if-rank-eq0.false) in
    let here = at_next c.locked_by-locked.result.objects c.loop-done.done in
    (omega (arith, here, w.0), omega (arith, here, w.1, H.few), c.locked_by-locked.ensures.locks.rank (omega (arith, c.loop-done-test.true)), carried_small _ H, omega (arith, c.loop-done.invariant.0, next.1, c.requires.0))

-- whether the holder's key at the next lock lets the waiting rank pass is what the code asks of that lock
passed_is : (c : goal.After-passes_lock-arg-1)
    → passes_below c.next_waiting-rank.result (holder_key_at (state_in c.args.parts.now) c.args.parts.now.holder (at c.locked_by-locked.result.objects (c.loop-done.done + 1)))
    ≡ passes_lock c.args.parts.now.counts.version c.args.parts.now.may_read.now c.args.parts.now.may_write.now c.args.parts.now.writers.now c.args.parts.now.certified.now
    (slice_index c.locked_by-locked.result.objects c.loop-done.done) c.args.parts.now.holder c.loop-done.rank
passed_is c =
    let s = state_in c.args.parts.now in
    let list = c.locked_by-locked.result.objects in
    let w = c.next_waiting-rank.result in
    let next = (found_next s.request c.search.rank s.counts.jobs w c.next_waiting-rank.ensures c.if-rank-eq0.false) in
    passes_gathered s c.requires.1 list c.locked_by-locked.result.count c.locked_by-locked.ensures.locks w (c.loop-done.done + 1) next.1 c.requires.0 (omega arith) (omega (arith, c.loop-done-test.true)) c.locked_by-locked.ensures.held
    ∙ ap₂ (λ (o j : ℕ). passes_lock s.counts.version s.may_read s.may_write s.writers s.certified o s.holder j) (at_next list c.loop-done.done) (sym c.loop-done.invariant.0)

pub search-preserved : goal.search-preserved
search-preserved c =
    let s = state_in c.args.parts.now in
    let w = c.next_waiting-rank.result in
    let next = (found_next s.request c.search.rank s.counts.jobs w c.next_waiting-rank.ensures c.if-rank-eq0.false) in
    let stops = passed_is c.before.before.before ∙ sym c.passes_lock-passed.ensures ∙ c.if-not-passed.true in
    let last = c.all_stopped-rank.ensures ∙ ap (λ (r : ℕ). all_stopped s.holder r s.counts.jobs) c.loop-done.invariant.0 in (
      omega (arith, last, all_stopped_lem s.holder w s.counts.jobs next.1),
      ap (λ (n : ℕ). first_nonzero n (wakes s)) last
          ∙ pass_stopped s c.requires.1 c.locked_by-locked.result.objects c.locked_by-locked.result.count c.locked_by-locked.ensures.locks c.search.rank w c.requires.0 c.search.invariant.1 next (c.loop-done.done + 1) (let_other c.loop-done.invariant.1 c.loop-done-test.true) (omega arith) (omega (arith, c.loop-done-test.true)) stops,
    )

pub loop-done-preserved : goal.loop-done-preserved
loop-done-preserved c =
    let s = state_in c.args.parts.now in
    let passed = passed_is c.before.before ∙ sym c.passes_lock-passed.ensures ∙ c.if-not-passed.false in
    (c.loop-done.invariant.0, let_more (holder_key_at s s.holder) c.locked_by-locked.result.objects s.holder c.locked_by-locked.result.count c.next_waiting-rank.result c.loop-done.done c.loop-done.invariant.1 c.loop-done-test.true passed)

pub returns-then-rank-eq0 : goal.returns-then-rank-eq0
unfolding wakeable
returns-then-rank-eq0 c =
    let s = state_in c.args.parts.now in
    none_left s c.requires.1 c.search.rank c.search.invariant.1 (found_none s.request c.search.rank s.counts.jobs c.next_waiting-rank.result c.next_waiting-rank.ensures c.if-rank-eq0.true)

pub returns-after-loop-done : goal.returns-after-loop-done
unfolding wakeable
returns-after-loop-done c =
    let s = state_in c.args.parts.now in
    let w = c.next_waiting-rank.result in
    let next = (found_next s.request c.search.rank s.counts.jobs c.next_waiting-rank.result c.next_waiting-rank.ensures c.if-rank-eq0.false) in
    let all : c.loop-done.done ≡ c.locked_by-locked.result.count = omega (arith, c.loop-done.invariant.1.few, c.loop-done-test.false) in
    c.loop-done.invariant.0 ∙ found s c.requires.1 c.locked_by-locked.result.objects c.locked_by-locked.result.count c.locked_by-locked.ensures.locks c.search.rank w c.requires.0 c.search.invariant.1 next
    (subst (LetBy (holder_key_at s s.holder) c.locked_by-locked.result.objects s.holder c.locked_by-locked.result.count w) all c.loop-done.invariant.1)
