-- `recorder::feed` meets its contract: both steps over the bytes at hand, and what they did not use is held at the front.
-- Assumes nothing.
use Rattle.std.proofs.Common.{◌≡◌, refl, ap, ℕ, List, ◌+◌, length, take, drop, arith, length-take-le}
use Rattle.decimals.specs.Laid.{laid_is}
use Rattle.recorder.proofs.StepLaws.{fed_within}
use Rattle.recorder.proofs.feed.Goals as goal

pub move_to_front-recorded-requires : goal.move_to_front-recorded-requires
move_to_front-recorded-requires c =
    let filled : ℕ = c.args.recorded.now.held + c.args.count in
    let bytes : List ℕ = take filled c.args.input.now in
    let size : length bytes ≡ filled = length-take-le filled c.args.input.now c.requires.0 in
    let w = fed_within c.args.recorded.now.bench bytes _ _ _ c.take_steps-advanced.ensures in
    (omega (arith, w, size), c.requires.0)

pub returns-clause-fed : goal.returns-clause-fed
returns-clause-fed c =
    let filled : ℕ = c.args.recorded.now.held + c.args.count in
    let bytes : List ℕ = take filled c.args.input.now in
    let size : length bytes ≡ filled = length-take-le filled c.args.input.now c.requires.0 in
    let t = c.take_steps-advanced.ensures in
    let w = fed_within c.args.recorded.now.bench bytes _ _ _ t in
    record {
      bench = t.bench;
      held = laid_is c.move_to_front-recorded.ensures (ap (λ (n : ℕ). drop n bytes) t.used) (omega (arith, size));
      laid = laid_is t.laid refl (omega (arith, t.used, w));
    }
