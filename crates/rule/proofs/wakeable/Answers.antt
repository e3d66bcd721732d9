-- `rule::wakeable` meets its contract: where nobody waits nobody is woken, nor where all who do are less urgent than the most urgent holder; else the search finds who is.
-- Assumes nothing.
use mathlib.Core.Path.{sym, ap, ◌∙◌}
use mathlib.Core.Bool.{not}
use Prim.Native.Nat.{ℕ, ◌+◌}
use native.Mathlib.Nat.{zero-add}
use lib.Dec.{eqb, ltb}
use borrow.Author.Tests.{eqb-false, ltb-true, not-true}
use Rattle.basics.specs.Choice.{and_left, and_right}
use Rattle.basics.specs.Arrays.{at}
use Rattle.basics.specs.Loops.{every_same}
use Rattle.state.specs.State.{most_jobs}
use Rattle.state.specs.Lent.{state_in}
use Rattle.rule.specs.Granting.{wakeable}
use Rattle.rule.proofs.Searching.{none_woken, none_above}
use Rattle.rule.proofs.wakeable.Goals as goal

pub returns-then-none_waits : goal.returns-then-none_waits
unfolding wakeable
returns-then-none_waits c =
    let s = state_in c.args.parts.now in
    none_woken s c.requires.1 c.requires.0 (every_same most_jobs (λ (k : ℕ). eqb (at s.request k) 0) (λ (k : ℕ). eqb (at s.request (0 + k)) 0) (λ k l h. ap (λ (n : ℕ). eqb (at s.request n) 0) (sym (zero-add k))) ∙ sym c.none_waits.ensures ∙ c.if-none_waits.true)

pub returns-then-parts-first : goal.returns-then-parts-first
unfolding wakeable
returns-then-parts-first c =
    let s = state_in c.args.parts.now in
    let pre = c.requires in
    let first = c.next_waiting-first.result in
    none_above s pre.1 pre.0 first c.next_waiting-first.ensures
    (eqb-false s.holder 0 (not-true (eqb s.holder 0) (and_left (not (eqb s.holder 0)) (ltb s.holder first) c.if-parts-first.true)))
    (ltb-true s.holder first (and_right (not (eqb s.holder 0)) (ltb s.holder first) c.if-parts-first.true))
