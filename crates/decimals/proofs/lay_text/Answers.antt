-- `decimals::lay_text` meets its contract: the part of the buffer that takes the text is the text.
-- Assumes nothing.
use Rattle.std.proofs.Common.{◌+◌, length, refl, sym, ap, ◌∙◌, ◌++◌, take, drop, arith}
use Rattle.std.proofs.lemmas.List.Edits.{sets-eq}
use Rattle.std.proofs.lemmas.Slice.{put_mid-paste}
use Rattle.std.proofs.Math.Seq.{take-length}
use Rattle.decimals.proofs.lay_text.Goals as goal

pub returns : goal.returns
returns c =
    let buf = c.args.buf.now in
    let at = c.args.at in
    let text = c.args.text.now in
    record {
      stored =
          put_mid-paste _ _ _ _ text (length text) c.copy_from_slice.ensures.after (omega arith) refl
          ∙ ap (λ l. take at buf ++ l ++ drop (at + length text) buf) (take-length text)
          ∙ sym (sets-eq text buf at c.requires);
      stops = refl;
      within = omega arith;
    }
