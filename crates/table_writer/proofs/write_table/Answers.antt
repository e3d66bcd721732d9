-- `table_writer::write_table` meets its contract: refused by 8 where the test of the state fails; else the sizes of the declared sets count the entries,
-- so that `length` is the table's; refused by 20 where the buffer is shorter; else the table is laid at the front.
-- Assumes nothing.
use Rattle.std.proofs.Common.{◌≡◌, ℕ, ◌+◌, ◌*◌, [], ◌∷◌, length, true, arith, sym, ap, ◌∙◌}
use Rattle.basics.specs.Replies.{told}
use Rattle.state.specs.declared.State.{State}
use Rattle.state.specs.Facts.{Sized}
use Rattle.state.specs.State.{most_jobs}
use Rattle.state.specs.WellFormed.{well_formed}
use Rattle.table_writer.specs.Writing.{entries_bytes, table_bytes}
use Rattle.table_writer.specs.Laying.{entry_total, laid}
use Rattle.table_writer.specs.TableFits.{TableFits, table_fits}
use Rattle.table_writer.specs.TableLaws.{entries_total, whole_length}
use Rattle.table_writer.specs.Outcomes.{refused_by_8, refused_by_20, table_written}
use Rattle.table_writer.proofs.LaidLaws.{laid_front}
use Rattle.table_writer.proofs.write_table.Goals as goal

-- of the parts s of a well-formed state, of which n entries are counted
module _ (state s : State) (n : ℕ) (same : s ≡ state) (good : well_formed state ≡ true) (sized : Sized state)
    (count : n ≡ entry_total s.may_read s.may_write s.counts.objects) where
  fits : TableFits s
  fits = table_fits s (ap well_formed same ∙ good)

  processors : length s.processor_of ≡ most_jobs
  processors = ap (λ (t : State). length t.processor_of) same ∙ sized.processor_of

  counted : 3 * n ≡ length (entries_bytes s)
  counted = ap (λ (k : ℕ). 3 * k) count ∙ entries_total s fits

  whole : length (table_bytes state) ≡ 10 + s.counts.jobs + 3 * n
  whole = ap (λ (t : State). length (table_bytes t)) (sym same) ∙ whole_length s fits processors ∙ ap (λ (k : ℕ). 10 + s.counts.jobs + 3 * k) (sym count)

pub returns-then-not-is_well_formed : goal.returns-then-not-is_well_formed
returns-then-not-is_well_formed c =
    let r = refused_by_8 c.args.state c.args.buf.now (sym c.is_well_formed.ensures.0 ∙ c.if-not-is_well_formed.true) in
    (sym r.0, sym r.1, c.is_well_formed.ensures.1)

pub entry_count-count-requires : goal.entry_count-count-requires
entry_count-count-requires c =
    (table_fits _ (ap well_formed c.parts-parts.ensures ∙ sym c.is_well_formed.ensures.0 ∙ c.if-not-is_well_formed.false)).objects_high

pub returns-then-buf-length : goal.returns-then-buf-length
returns-then-buf-length c =
    let s = c.args.state in
    let good = sym c.is_well_formed.ensures.0 ∙ c.if-not-is_well_formed.false in
    let long = whole s _ _ c.parts-parts.ensures good c.is_well_formed.ensures.1 c.entry_count-count.ensures.0 in
    let r = refused_by_20 s c.args.buf.now good (omega arith) in
    (sym r.0, sym r.1, c.is_well_formed.ensures.1)

pub lay_table-requires : goal.lay_table-requires
lay_table-requires c =
    let good = sym c.is_well_formed.ensures.0 ∙ c.if-not-is_well_formed.false in
    let same = c.parts-parts.ensures in
    let sized = c.is_well_formed.ensures.1 in
    let count = c.entry_count-count.ensures.0 in
    let f = fits c.args.state _ _ same good sized count in
    (f.jobs_high, f.objects_high, processors c.args.state _ _ same good sized count, counted c.args.state _ _ same good sized count, omega arith, omega arith)

pub returns : goal.returns
returns c =
    let s = c.args.state in
    let buffer = c.args.buf.now in
    let good = sym c.is_well_formed.ensures.0 ∙ c.if-not-is_well_formed.false in
    let long = whole s _ _ c.parts-parts.ensures good c.is_well_formed.ensures.1 c.entry_count-count.ensures.0 in
    let r = table_written s buffer good (omega arith) in
    let told_length : 10 + c.from.result + 3 * c.entry_count-count.result ≡ length (table_bytes s) = omega arith in (
      ap (λ (n : ℕ). told (n ∷ [])) told_length ∙ sym r.0,
      c.lay_table.ensures ∙ ap (λ (t : State). laid buffer 0 (table_bytes t)) c.parts-parts.ensures ∙ laid_front buffer (table_bytes s) ∙ sym r.1,
      c.is_well_formed.ensures.1,
    )
