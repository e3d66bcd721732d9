-- `table_writer::lay::lay_entries` meets its contract. The loop's invariant: the entries of the ranks passed are laid from the index on, and `end`
-- stands behind them. A turn lays the next rank's entries behind. Assumes nothing.
use Prim.Native.Nat.{◌+◌}
use mathlib.Core.Path.{◌≡◌, refl, sym, ap, ◌∙◌}
use native.Mathlib.Nat.{add-zero}
use native.Mathlib.Omega.{arith}
use Rattle.basics.specs.Loops.{joined}
use Rattle.table_writer.specs.Writing.{rank_bytes, entries_bytes}
use Rattle.table_writer.specs.Laying.{declared_modes, entries_of_rank, entries_of_ranks, laid}
use Rattle.table_writer.specs.EntryLaws.{ranks_more, ranks_more_length, ranks_grow}
use Rattle.table_writer.proofs.LaidLaws.{laid_none, laid_turn}
use Rattle.table_writer.proofs.lay.lay_entries.Goals as goal

pub loop-k-init : goal.loop-k-init
unfolding entries_of_ranks joined
loop-k-init c = (omega arith, sym (add-zero _), sym (laid_none _ _), refl)

pub lay_rank-end-requires : goal.lay_rank-end-requires
unfolding entries_bytes rank_bytes entries_of_ranks entries_of_rank
lay_rank-end-requires c =
    let parts = c.args.parts.now in
    let modes = declared_modes parts.may_read.now parts.may_write.now in
    let k = c.loop-k.k in
    let long = ranks_more_length modes parts.counts.objects k in
    let room = ranks_grow modes parts.counts.objects (k + 1) parts.counts.jobs (omega arith) in
    (omega arith, omega arith, omega arith, omega arith)

pub loop-k-preserved : goal.loop-k-preserved
unfolding entries_bytes rank_bytes entries_of_ranks entries_of_rank
loop-k-preserved c =
    let parts = c.args.parts.now in
    let objects = parts.counts.objects in
    let modes = declared_modes parts.may_read.now parts.may_write.now in
    let loop = c.loop-k in
    let k = loop.k in
    let room = ranks_grow modes objects (k + 1) parts.counts.jobs (omega arith) in
    let more = ranks_more modes objects k in
    let turn = laid_turn c.args.buf.now _ _ c.args.at _ _ _ _ _ more (omega arith) (loop.invariant.1, loop.invariant.2) c.lay_rank-end.ensures in
    (omega arith, turn.0, turn.1, turn.2)

pub returns : goal.returns
unfolding entries_bytes rank_bytes entries_of_ranks entries_of_rank
returns c =
    let parts = c.args.parts.now in
    let all : c.loop-k.k ≡ parts.counts.jobs = omega arith in
    let modes = declared_modes parts.may_read.now parts.may_write.now in
    c.loop-k.invariant.2 ∙ ap (λ n. laid c.args.buf.now c.args.at (entries_of_ranks modes parts.counts.objects n)) all
