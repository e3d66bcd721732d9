-- `events::grant_or_wait` meets its contract: the key of the most urgent holder decides as the lowest of all keys does; where it stops the request, it is a
-- lock's, so its holder and object are in range; where it lets it pass, the requester is then the most urgent holder.
-- Assumes nothing.
use mathlib.Core.Bool.{◌||◌}
use mathlib.Core.Path.{◌≡◌, sym, ap, ◌∙◌}
use Prim.Native.Nat.{ℕ}
use lib.Dec.{eqb}
use native.Mathlib.Omega.{arith}
use Rattle.basics.specs.Arrays.{at, put}
use Rattle.state.specs.declared.State.{State}
use Rattle.state.specs.State.{marked, grant_readers, grant_writers, grant_marks, with_locks, grant, await}
use Rattle.state.specs.Lent.{state_in, state_in_mut}
use Rattle.state.specs.Weights.{ceiling_of}
use Rattle.state.specs.Holders.{carried_small}
use Rattle.weights.specs.Keys.{key_holder, key_object}
use Rattle.one_holder.specs.OneHolder.{deciding_key}
use Rattle.rule.specs.Granting.{reason, reason_of}
use Rattle.rule.specs.Parts.{reason_parts}
use Rattle.events.specs.declared.Answer.TheVariants.{Granted, Waits}
use Rattle.events.specs.Events.{outcome}
use Rattle.events.proofs.EventLaws as L
use Rattle.events.proofs.grant_or_wait.Goals as goal

pub deciding_key-key-requires : goal.deciding_key-key-requires
deciding_key-key-requires c =
    let H = c.requires.6 in
    (omega (arith, ap (λ (s : State). s.counts.objects) c.read-parts.ensures, H.few), omega (arith, ap (λ (s : State). s.holder) c.read-parts.ensures, carried_small _ H))

pub returns-then-passes-clause-next : goal.returns-then-passes-clause-next
unfolding grant
returns-then-passes-clause-next c =
    let a = c.args in
    let s = state_in_mut a.state.now in
    let H = c.requires.6 in
    let k = c.deciding_key-key.result in
    let is = c.deciding_key-key.ensures ∙ ap (λ (x : State). deciding_key x a.rank) c.read-parts.ensures in
    let pass = sym c.passes.ensures ∙ c.if-passes.true in
    ap (λ (x : State). outcome Granted (with_locks x x.active x.unlocked x.sleeping a.rank x.readers x.writers x.certified x.request)) c.grant.ensures.next
    ∙ ap (λ (h : ℕ). outcome Granted (with_locks s s.active s.unlocked s.sleeping h (grant_readers a.mode a.rank a.object s.readers) (grant_writers a.mode a.rank a.object s.writers) (grant_marks a.mode a.object s.certified) (put s.request a.rank 0)))
    (L.carries s H a.mode a.rank a.object c.requires.3 k is c.requires.2 c.requires.4 c.requires.5 pass)
    ∙ sym (L.granted s a.mode a.rank a.object k pass)
    ∙ L.decided s H a.mode a.rank a.object c.requires.3 k is

pub shares_with_none-requires : goal.shares_with_none-requires
shares_with_none-requires c =
    let a = c.args in
    let is = c.deciding_key-key.ensures ∙ ap (λ (x : State). deciding_key x a.rank) c.read-parts.ensures in
    let r = L.named (state_in_mut a.state.now) c.requires.6 a.mode a.rank a.object c.requires.3 c.deciding_key-key.result is (sym c.passes.ensures ∙ c.if-passes.false) in
    (omega (arith, r.2, c.key_object-named.ensures), omega (arith, r.3, c.key_object-named.ensures))

pub set_of-requires : goal.set_of-requires
set_of-requires c =
    let a = c.args in
    let is = c.deciding_key-key.ensures ∙ ap (λ (x : State). deciding_key x a.rank) c.read-parts.ensures in
    let r = L.named (state_in_mut a.state.now) c.requires.6 a.mode a.rank a.object c.requires.3 c.deciding_key-key.result is (sym c.passes.ensures ∙ c.if-passes.false) in
    omega (arith, r.3, c.key_object-named.ensures)

pub set_of-requires-2 : goal.set_of-requires-2
set_of-requires-2 c =
    let a = c.args in
    let is = c.deciding_key-key.ensures ∙ ap (λ (x : State). deciding_key x a.rank) c.read-parts.ensures in
    let r = L.named (state_in_mut a.state.now) c.requires.6 a.mode a.rank a.object c.requires.3 c.deciding_key-key.result is (sym c.passes.ensures ∙ c.if-passes.false) in
    omega (arith, r.3, c.key_object-named.ensures)

pub reason-reason-requires : goal.reason-reason-requires
reason-reason-requires c =
    let a = c.args in
    let is = c.deciding_key-key.ensures ∙ ap (λ (x : State). deciding_key x a.rank) c.read-parts.ensures in
    let r = L.named (state_in_mut a.state.now) c.requires.6 a.mode a.rank a.object c.requires.3 c.deciding_key-key.result is (sym c.passes.ensures ∙ c.if-passes.false) in
    (c.requires.0, omega (arith, r.0, c.key_holder-holder.ensures), omega (arith, r.1, c.key_holder-holder.ensures))

pub returns-clause-next : goal.returns-clause-next
unfolding await
returns-clause-next c =
    let a = c.args in
    let s = state_in_mut a.state.now in
    let p = c.read-parts.result in
    let H = c.requires.6 in
    let k = c.deciding_key-key.result in
    let is = c.deciding_key-key.ensures ∙ ap (λ (x : State). deciding_key x a.rank) c.read-parts.ensures in
    let n = c.key_holder-holder.ensures in
    let o = c.key_object-named.ensures in
    let why : c.reason-reason.result ≡ reason s a.mode a.object (key_holder k) (key_object k) =
    c.reason-reason.ensures
    ∙ (λ i. reason_of p.counts.version a.mode a.object (n i) (o i)
    ((c.shares_with_none.ensures ∙ ap (λ (p' : ℕ). eqb p.counts.version 1 || marked p.certified.now p') o) i) ((c.set_of.ensures ∙ ap (at p.writers.now) o) i) ((c.ceiling.ensures ∙ ap (ceiling_of p.counts) (c.set_of-2.ensures ∙ ap (at p.may_write.now) o)) i))
    ∙ sym (reason_parts (state_in p) a.mode a.object (key_holder k) (key_object k))
    ∙ ap (λ (x : State). reason x a.mode a.object (key_holder k) (key_object k)) c.read-parts.ensures in
    (λ i. outcome (Waits (n i) (o i) (why i)) (with_locks s s.active s.unlocked s.sleeping s.holder s.readers s.writers s.certified (c.store_request.ensures i)))
    ∙ sym (L.waits s a.mode a.rank a.object k (sym c.passes.ensures ∙ c.if-passes.false))
    ∙ L.decided s H a.mode a.rank a.object c.requires.3 k is
