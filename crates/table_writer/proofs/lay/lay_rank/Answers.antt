-- `table_writer::lay::lay_rank` meets its contract. The loop's invariant: the rank's entries for the objects passed are laid from the index on, and
-- `end` stands behind them. A turn lays the next object's entry behind. Assumes nothing.
use Prim.Native.Nat.{ℕ, ◌+◌}
use mathlib.Core.Path.{◌≡◌, refl, sym, ap, ◌∙◌}
use mathlib.Core.List.{List, ◌++◌}
use native.Mathlib.Nat.{add-zero}
use native.Mathlib.Numerals.{add-one}
use native.Mathlib.Omega.{arith}
use lib.ListN.{get_or, length}
use Rattle.basics.specs.Loops.{joined}
use Rattle.table_writer.specs.Writing.{entry_bytes}
use Rattle.table_writer.specs.Laying.{declared_mode_of, declared_modes, entries_of_rank, laid}
use Rattle.table_writer.specs.EntryLaws.{rank_more, rank_more_length, rank_grows}
use Rattle.table_writer.proofs.LaidLaws.{laid_none, laid_turn}
use Rattle.table_writer.proofs.lay.lay_rank.Goals as goal

pub loop-i-init : goal.loop-i-init
unfolding entries_of_rank joined
loop-i-init c = (omega arith, sym (add-zero _), sym (laid_none _ _), refl)

-- the mode that is laid for the next object
next-mode : (reads writes : List ℕ) (rank i place mode : ℕ) → place ≡ i → mode ≡ declared_mode_of (get_or reads place 0) (get_or writes place 0) rank
    → mode ≡ declared_modes reads writes rank (i + 1)
next-mode reads writes rank i place mode p e =
    let same : declared_mode_of (get_or reads i 0) (get_or writes i 0) rank ≡ declared_modes reads writes rank (i + 1) = rw add-one in
    e ∙ ap (λ (w : ℕ). declared_mode_of (get_or reads w 0) (get_or writes w 0) rank) p ∙ same

pub lay_entry-end-requires : goal.lay_entry-end-requires
unfolding entries_of_rank
lay_entry-end-requires c =
    let a = c.args in
    let modes = declared_modes a.reads.now a.writes.now in
    let rank = c.args.rank in
    let k = c.loop-i.i in
    let long = rank_more_length modes rank k in
    let room = rank_grows modes rank (k + 1) a.objects (omega arith) in
    rw (next-mode a.reads.now a.writes.now rank k _ _ c.from-place.ensures c.declared_mode-mode.ensures) (omega arith)

pub loop-i-preserved : goal.loop-i-preserved
unfolding entries_of_rank
loop-i-preserved c =
    let a = c.args in
    let modes = declared_modes a.reads.now a.writes.now in
    let rank = c.args.rank in
    let loop = c.loop-i in
    let k = loop.i in
    let m = next-mode a.reads.now a.writes.now rank k _ _ c.from-place.ensures c.declared_mode-mode.ensures in
    let more = rank_more modes rank k ∙ ap (λ (n : ℕ). entries_of_rank modes rank k ++ entry_bytes rank (k + 1) n) (sym m) in
    let room = rank_grows modes rank (k + 1) a.objects (omega arith) in
    let turn = laid_turn c.args.buf.now _ _ c.args.at _ _ _ _ _ more (omega arith) (loop.invariant.1, loop.invariant.2) c.lay_entry-end.ensures in
    (omega arith, turn.0, turn.1, turn.2)

pub returns : goal.returns
unfolding entries_of_rank
returns c =
    let a = c.args in
    let all : c.loop-i.i ≡ a.objects = omega arith in
    let entries = ap (entries_of_rank (declared_modes a.reads.now a.writes.now) c.args.rank) all in
    (c.loop-i.invariant.1 ∙ ap (λ (l : List ℕ). c.args.at + length l) entries, c.loop-i.invariant.2 ∙ ap (laid c.args.buf.now c.args.at) entries)
