-- `page::write_page` meets its contract: what is known of a well-formed state is what `lay_page` asks, and there the page has room.
-- Assumes nothing.
use mathlib.Core.Path.{sym, ◌∙◌}
use native.Mathlib.Omega.{arith}
use Rattle.state.specs.Lent.{state_in}
use Rattle.state.specs.WellFormedFacts.{facts}
use Rattle.state.specs.Holders.{holder_facts}
use Rattle.page.specs.PageLaws.{page_length}
use Rattle.page.proofs.write_page.Goals as goal

pub lay_page-requires : goal.lay_page-requires
lay_page-requires c =
    let s = state_in c.args.parts.now in
    let known = facts s c.fits_sized.ensures.1 (sym c.fits_sized.ensures.0 ∙ c.if-not-fits_sized.false) in
    (known.counts, known.processors, holder_facts s known, omega (arith, page_length s known, c.size-length.ensures, c.if-buf-length.false))
