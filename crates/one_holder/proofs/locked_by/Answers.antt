-- `one_holder::locked_by` meets its contract. The loop's invariant: the list has the objects that the rank holds of the first i. A turn passes a block over, or looks
-- at one object. It ends because what is left of the objects falls.
-- Assumes nothing.
use mathlib.Core.Path.{◌≡◌, refl, sym, subst, ap, ◌∙◌}
use Prim.Native.Nat.{ℕ, ◌+◌}
use native.Mathlib.Omega.{arith}
use mathlib.Core.Bool.{Bool, true, false}
use Prim.Native.Nat.{◌≤◌}
use lib.ListN.{set, length-set}
use mir.Val.{bool_byte}
use Rattle.basics.specs.Loops.{one_if}
use Rattle.basics.specs.Arrays.{at_next}
use Rattle.ranks.specs.Ranks.{member, union}
use Rattle.one_holder.specs.Gathering.{held_by, LocksTo, HeldTo, held_next, locks_passed, locks_next, nobody_locks}
use Rattle.one_holder.proofs.locked_by.Goals as goal

-- what a test adds, 1 or 0
as_one : (test : Bool) → (one_if test ≡ bool_byte test) × (bool_byte test ≤ 1)
as_one true = (refl, omega arith)
as_one false = (refl, omega arith)

pub loop-i-preserved-then-free-ne0 : goal.loop-i-preserved-then-free-ne0
loop-i-preserved-then-free-ne0 c =
    let a = c.args in
    let inv = c.loop-i.invariant in
    let next = locks_passed a.parts.now.readers.now a.parts.now.writers.now a.rank a.parts.now.counts.objects c.loop-i.i c.passed_over-free.result c.loop-i.count c.loop-i.objects c.if-free-ne0.true c.passed_over-free.ensures inv.3 in
    (next.0, omega (arith, inv.1), inv.2, next.1, inv.4)

pub loop-i-preserved : goal.loop-i-preserved
loop-i-preserved c =
    let a = c.args in
    let rd = a.parts.now.readers.now in
    let wr = a.parts.now.writers.now in
    let i = c.loop-i.i in
    let inv = c.loop-i.invariant in
    let held : c.contains-held.result ≡ held_by rd wr a.rank (i + 1) = c.contains-held.ensures ∙ ap (λ (set : ℕ). member set a.rank) (c.union.ensures ∙ sym (λ p. union (at_next rd i p) (at_next wr i p))) in
    let next = locks_next rd wr a.rank a.parts.now.counts.objects i c.loop-i.count c.loop-i.objects c.contains-held.result held (omega (arith, inv.1, inv.2)) (omega (arith, c.loop-i-test.true)) inv.3 in (
      omega (arith, c.loop-i-test.true, c.requires),
      omega (arith, as_one c.contains-held.result, inv.1),
      length-set c.loop-i.objects c.loop-i.count (i + 1) ∙ inv.2,
      subst (λ (n : ℕ). LocksTo rd wr a.rank a.parts.now.counts.objects (i + 1) (set c.loop-i.objects c.loop-i.count (i + 1)) (c.loop-i.count + n)) (as_one c.contains-held.result).0 next,
      subst (λ (n : ℕ). HeldTo rd wr a.rank (set c.loop-i.objects c.loop-i.count (i + 1)) (c.loop-i.count + n)) (as_one c.contains-held.result).0
          (held_next rd wr a.rank i c.loop-i.count c.loop-i.objects c.contains-held.result held (omega (arith, inv.1, inv.2)) inv.4),
    )

pub returns-then-rank-eq0-clause-locks : goal.returns-then-rank-eq0-clause-locks
returns-then-rank-eq0-clause-locks c = nobody_locks c.args.parts.now.readers.now c.args.parts.now.writers.now c.args.rank c.args.parts.now.counts.objects _ c.if-rank-eq0.true
