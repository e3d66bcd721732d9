-- `rule::idle_ranks` meets its contract, in each of the three cases.
-- Assumes nothing.
use mathlib.Core.Path.{refl, sym, ◌∙◌}
use mathlib.Core.Logic.{inr}
use native.Mathlib.Omega.{arith}
use Rattle.rule.specs.WakeLaws.{idle_block}
use Rattle.rule.proofs.idle_ranks.Goals as goal

pub returns-then-none_waits : goal.returns-then-none_waits
returns-then-none_waits c = inr (refl, omega (arith, c.if-from-ne0.false, c.requires), idle_block c.args.request.now c.args.from (sym c.none_waits.ensures ∙ c.if-none_waits.true))
