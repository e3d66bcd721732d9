-- `table_bytes::table_refusals::entries_refusal` meets its contract. The loop's invariant: none of the first `k` entries is faulty, and `before`
-- is the order of the last of them. A turn adds the entry that it looked at; where that is faulty, it is the first.
-- Assumes nothing.
use mathlib.Core.Path.{◌≡◌, refl, sym, ap, ap₂, ◌∙◌}
use Prim.Native.Nat.{ℕ, suc}
use mathlib.Core.List.{List}
use native.Mathlib.Omega.{arith}
use native.Mathlib.Numerals.{add-one}
use Rattle.state.specs.RefusalNumbers.{number, refusal_number, number_positive}
use Rattle.table_bytes.specs.declared.bytes.Entry.{Entry}
use Rattle.table_bytes.specs.Bytes.{jobs_in, objects_in, entry_count, entry_rank, entry_object, entry_mode, order, order_before}
use Rattle.table_bytes.specs.Refusals.{entry_refusal, entry_refusal_of, entries_refusal}
use Rattle.table_bytes.specs.Steps.{handed_on}
use Rattle.basics.specs.Loops.{first_nonzero, first_nonzero_at, first_none_more}
use Rattle.table_bytes.proofs.table_refusals.entries_refusal.Goals as goal

own-refusal : (b : List ℕ) (i before r : ℕ) (e : Entry) → before ≡ order_before b i
    → (e.rank ≡ entry_rank b i) × (e.object ≡ entry_object b i) × (e.mode ≡ entry_mode b i)
    → r ≡ entry_refusal (jobs_in b) (objects_in b) before e.rank e.object e.mode → r ≡ entry_refusal_of b (suc i)
own-refusal b i before r e p q h = h ∙ (λ j. entry_refusal (jobs_in b) (objects_in b) (p j) (q.0 j) (q.1 j) (q.2 j))

pub loop-k-init : goal.loop-k-init
unfolding first_nonzero
loop-k-init c = (omega arith, refl, refl)

pub returns-in_err-entry_refusal : goal.returns-in_err-entry_refusal
unfolding entries_refusal
returns-in_err-entry_refusal c =
    let b = c.args.bytes.now in
    let i = c.loop-k.k in
    let e = c.in_err-entry_refusal.field-0.0 in
    let own : number e ≡ entry_refusal_of b (suc i) = own-refusal b i _ _ _ c.loop-k.invariant.1 c.entry_at-entry.ensures c.in_err-entry_refusal.ensures in
    ap refusal_number (handed_on _ e c.from_residual.ensures.1) ∙ own
    ∙ sym (first_nonzero_at i (entry_count b) (entry_refusal_of b) c.loop-k.invariant.2 (λ z. number_positive e (own ∙ z)) (omega arith))

pub loop-k-preserved : goal.loop-k-preserved
loop-k-preserved c =
    let b = c.args.bytes.now in
    let i = c.loop-k.k in
    let e = c.entry_at-entry.ensures in
    let own = own-refusal b i _ 0 _ c.loop-k.invariant.1 e c.in_ok-entry_refusal.ensures in (
      omega arith,
      c.order-before.ensures ∙ ap₂ order e.0 e.1 ∙ ap (order_before b) (sym (add-one i)),
      first_none_more i (entry_refusal_of b) c.loop-k.invariant.2 (sym own),
    )

pub returns : goal.returns
unfolding entries_refusal
returns c =
    let b = c.args.bytes.now in
    let all : c.loop-k.k ≡ entry_count b = omega arith in
    sym (ap (λ (n : ℕ). first_nonzero n (entry_refusal_of b)) (sym all) ∙ c.loop-k.invariant.2)
