-- `inheritance::named_locks` meets its contract. The loop's invariant: the element of each rank passed is the lock that it names, and the others are 0. A turn
-- stores one more.
-- Assumes nothing.
use mathlib.Core.Path.{◌≡◌, sym, subst, ap, ap₂, ◌∙◌}
use Prim.Native.Nat.{ℕ, ◌+◌, ◌%◌}
use native.Mathlib.Omega.{arith}
use Rattle.basics.specs.Arrays.{at, at_next, FilledTo, filled_none, filled_more, filled_same}
use Rattle.state.specs.State.{most_jobs}
use Rattle.state.specs.Lent.{state_in}
use Rattle.state.specs.Weights.{weight}
use Rattle.state.specs.Holders.{held_facts, carried_small}
use Rattle.weights.specs.Keys.{others_key, object_key, lowest_key_by}
use Rattle.one_holder.specs.OneHolder.{key_against, holder_key}
use Rattle.rule.specs.Granting.{named_key_of, named_key}
use Rattle.rule.specs.Decided.{named_decided}
use borrow.Author.Rules.{rules}
use Rattle.inheritance.proofs.named_locks.Goals as goal

pub loop-before-init : goal.loop-before-init
loop-before-init c = (search rules, search rules, filled_none most_jobs _)

pub holder_key-key-requires : goal.holder_key-key-requires
holder_key-key-requires c = (let H = c.requires.1 in (H.few, carried_small _ H))

pub loop-before-preserved : goal.loop-before-preserved
loop-before-preserved c =
    let a = c.args in
    let rank = c.loop-before.before in
    let f : ℕ → ℕ = λ j. named_key_of (at a.parts.now.request.now j) (key_against a.parts.now.holder c.holder_key-key.result j) j % 65536 in
    let named = c.named_key-lock.ensures ∙ ap₂ (λ (q k : ℕ). named_key_of q k (rank + 1)) (sym (at_next a.parts.now.request.now rank)) c.key_against.ensures in (
      search rules,
      search rules,
      filled_more c.loop-before.named rank (c.named_key-lock.result % 65536) f (omega (arith, c.loop-before.invariant.1)) (ap (λ (k : ℕ). k % 65536) named) c.loop-before.invariant.2,
    )

pub returns : goal.returns
unfolding lowest_key_by object_key others_key holder_key weight named_key
returns c =
    let a = c.args in
    let t = state_in a.parts.now in
    let all : c.loop-before.before ≡ a.parts.now.counts.jobs = omega (arith, c.loop-before.invariant.0, c.loop-before-test.false) in
    let key = c.holder_key-key.ensures in
    filled_same c.loop-before.named a.parts.now.counts.jobs _ (λ j. named_key t j % 65536)
    (λ j l h. ap (λ (k : ℕ). k % 65536)
    (ap (λ (k : ℕ). named_key_of (at a.parts.now.request.now j) (key_against a.parts.now.holder k j) j) key ∙ named_decided t (held_facts t c.requires.1) (at a.parts.now.request.now j) j (omega (arith, c.requires.0))))
    (subst (λ (n : ℕ). FilledTo c.loop-before.named n (λ j. named_key_of (at a.parts.now.request.now j) (key_against a.parts.now.holder c.holder_key-key.result j) j % 65536)) all c.loop-before.invariant.2)
