-- `page::lines::lay_line` meets its contract: its fields stand one behind the other and fill the 21 bytes.
-- Assumes nothing.
use mathlib.Core.Path.{sym, ap, ◌∙◌}
use mathlib.Core.List.{List, [], ◌∷◌, ◌++◌}
use native.Mathlib.Nat.{le_refl}
use native.Mathlib.Omega.{arith}
use Rattle.decimals.specs.Decimal.{decimal, decimal_length}
use Rattle.decimals.specs.Fields.{space, line_feed, right_aligned, aligned_wider}
use Rattle.decimals.specs.Laid.{laid_then, laid_is, laid_whole}
use Rattle.page.specs.Page.{named_field, line_of}
use Rattle.page.specs.LineLaws.{line_length}
use Rattle.page.proofs.lines.lay_line.Goals as goal

pub returns : goal.returns
unfolding line_of
returns c =
    let f = c.args.fields in
    let rest = space ∷ f.letter ∷ space ∷ (right_aligned 3 (decimal f.inherited) ++ space ∷ (right_aligned 3 (named_field f.holder f.holder)
    ++ space ∷ (right_aligned 3 (named_field f.holder f.object) ++ line_feed ∷ []))) in
    laid_whole
    (laid_is
    (laid_then c.lay_aligned-by.ensures
    (laid_then c.lay_aligned-on.ensures
    (laid_then c.lay_letter-then.ensures
    (laid_then c.lay_field-own.ensures
    (laid_then c.lay_named-named.ensures
    (laid_then c.lay_named-last.ensures
    c.lay_byte.ensures))))))
    (ap (λ (text : List _). right_aligned 3 (decimal f.rank) ++ (text ++ rest)) (sym (aligned_wider 2 (decimal f.processor) (decimal_length 1 f.processor (omega arith)))))
    (le_refl 21))
    (line_length _ _ _ _ _ _
    (record {
      rank_fits = omega arith;
      processor_fits_lem = omega arith;
      inherited_fits = omega arith;
      holder_fits_lem = omega arith;
      object_fits = omega arith;
    }) ∙ sym c.requires.0)
