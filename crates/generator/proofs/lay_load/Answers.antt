-- `generator::lay_load` meets its contract. The loop's invariant: the events made so far stand at the front, and the seed is the one behind them. A turn lays
-- one event more behind them. Assumes nothing.
use Rattle.std.proofs.Common.{◌≡◌, ℕ, ◌+◌, ◌*◌, ◌++◌, sym, ap, ◌∙◌, arith}
use Rattle.decimals.specs.Laid.{at_front, laid_then, laid_is, laid_at_front}
use Rattle.generator.specs.Load.{step, event_from, seed_after, load}
use Rattle.generator.proofs.LoadLaws.{load_length, seed_more, load_more}
use Rattle.generator.proofs.lay_load.Goals as goal

pub loop-made-preserved : goal.loop-made-preserved
loop-made-preserved c =
    let a = c.args in
    let made = c.loop-made.made in
    let next = c.loop-made.invariant.1 in
    let more = load_more a.counts made a.seed in
    let laid =
    laid_is {n = 3 * (made + 1)} (laid_then c.loop-made.invariant.2 c.lay_event-next.ensures.1) (ap (λ (s : ℕ). load a.counts made a.seed ++ event_from a.counts s) next ∙ sym more) (omega arith) in (
      omega arith,
      c.lay_event-next.ensures.0 ∙ ap (λ (s : ℕ). step (step (step s))) next ∙ sym (seed_more made a.seed),
      record { stored = laid.stored; stops = omega (arith, laid.stops); within = omega arith },
    )

pub returns : goal.returns
returns c =
    let a = c.args in
    let all : c.loop-made.made ≡ a.count = omega arith in (
      c.loop-made.invariant.1 ∙ ap (λ (n : ℕ). seed_after n a.seed) all,
      laid_at_front c.loop-made.invariant.2 (omega (arith, load_length a.counts c.loop-made.made a.seed, c.requires.1))
          ∙ ap (λ (n : ℕ). at_front (load a.counts n a.seed) a.buf.now) all,
    )
