-- `table_bytes::table_refusals::processor_byte_refusal` meets its contract. The loop's invariant: none of the first `i` processor bytes is too large.
-- A turn adds the byte that its test passed; where the test fails, that byte is the first.
-- Assumes nothing.
use mathlib.Core.Path.{◌≡◌, refl, sym, ap, ◌∙◌}
use Prim.Native.Nat.{ℕ, suc}
use native.Mathlib.Omega.{arith}
use borrow.Author.Tests.{lt-ltb, le-ltb}
use Rattle.table_bytes.specs.Bytes.{jobs_in}
use Rattle.table_bytes.specs.Refusals.{processor_byte_refusal_of, processor_byte_refusal}
use Rattle.basics.specs.Loops.{first_nonzero, first_nonzero_at, first_none_more}
use Rattle.table_bytes.proofs.table_refusals.processor_byte_refusal.Goals as goal

pub loop-i-init : goal.loop-i-init
unfolding first_nonzero
loop-i-init c = (omega arith, refl)

pub returns-then-processors-bytes : goal.returns-then-processors-bytes
unfolding processor_byte_refusal
returns-then-processors-bytes c =
    let b = c.args.bytes.now in
    let i = c.loop-i.i in
    let five : processor_byte_refusal_of b (suc i) ≡ 5 = simp (le-ltb _ _ c.if-processors-bytes.true) in
    sym (first_nonzero_at i (jobs_in b) (processor_byte_refusal_of b) c.loop-i.invariant.1 (λ z. omega arith) (omega arith) ∙ five)

pub loop-i-preserved : goal.loop-i-preserved
loop-i-preserved c =
    let b = c.args.bytes.now in
    let i = c.loop-i.i in
    let none : processor_byte_refusal_of b (suc i) ≡ 0 = simp (lt-ltb _ _ c.if-processors-bytes.false) in
    (omega arith, first_none_more i (processor_byte_refusal_of b) c.loop-i.invariant.1 none)

pub returns : goal.returns
unfolding processor_byte_refusal
returns c =
    let b = c.args.bytes.now in
    let all : c.loop-i.i ≡ jobs_in b = omega arith in
    sym (ap (λ (n : ℕ). first_nonzero n (processor_byte_refusal_of b)) (sym all) ∙ c.loop-i.invariant.1)
