-- `recorder::move_to_front` meets its contract: the library copies the bytes within their buffer; those that begin at its front stand there.
-- Assumes nothing.
use Rattle.std.proofs.Common.{◌≡◌, ◌+◌, ◌-◌, ap, ap₂, sym, ◌∙◌, ◌++◌, length, take, drop, arith, length-drop, length-take-le, take-append-drop}
use Rattle.std.proofs.lemmas.List.{drop-take}
use Rattle.std.proofs.lemmas.List.Edits.{sets-eq}
use Rattle.recorder.proofs.move_to_front.Goals as goal
use Rattle.recorder.proofs.move_to_front.Goals.{then-from-ne0, else-from-ne0}

pub returns : goal.returns
returns c =
    let buf = c.args.buf.now in
    let from = c.args.from in
    let to = c.args.to in
    let text = drop from (take to buf) in
    let size : length text ≡ to - from = length-drop from (take to buf) ∙ ap (λ n. n - from) (length-take-le to buf c.requires.1) in
    let laid = sym (sets-eq text buf 0 (omega arith)) in
    record {
      stored = elim c.if-from-ne0.branch [
        | then-from-ne0 w ↦
            let upto : from + (to - from) ≡ to = omega arith in
            let part : take (to - from) (drop from buf) ≡ text = sym (drop-take from (to - from) buf) ∙ ap (λ n. drop from (take n buf)) upto in
            let behind : 0 + (to - from) ≡ 0 + length text = omega arith in
            w.buf-is ∙ w.copy_within.ensures.after ∙ ap₂ (λ front n. front ++ drop n buf) part behind ∙ laid
        | else-from-ne0 w ↦
            let none : from ≡ 0 = w.if-from-ne0.false in
            let part : take to buf ≡ text = ap (λ n. drop n (take to buf)) (sym none) in
            let behind : to ≡ 0 + length text = omega (arith, size, none) in
            w.buf-is ∙ sym (take-append-drop to buf) ∙ ap₂ (λ front n. front ++ drop n buf) part behind ∙ laid
      ];
      stops = omega arith;
      within = omega arith;
    }
