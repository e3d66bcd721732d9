-- `generator::make_load` meets its contract: the counts of a well-formed state are in range, and a third of the buffer is at least the count just where the buffer
-- is no shorter than three times the count.
-- Assumes nothing.
use Rattle.std.proofs.Common.{sym, ◌∙◌, arith}
use Rattle.state.specs.Lent.{state_in}
use Rattle.state.specs.Clauses.{clauses, counts_within_lem}
use Rattle.generator.proofs.make_load.Goals as goal

pub lay_load-requires : goal.lay_load-requires
lay_load-requires c =
    let well = sym c.fits.ensures ∙ c.if-not-fits.false in
    (counts_within_lem c.args.parts.now.counts (clauses (state_in c.args.parts.now) well).counts, omega (arith, c.if-buf-count.false))
