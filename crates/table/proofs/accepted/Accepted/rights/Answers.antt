-- `table::accepted::Accepted::rights` meets its contract. The loop's invariant: the two arrays are what the first `k` entries declare.
-- A turn adds the rights of one entry more, which is within range since the bytes are accepted.
-- Assumes nothing.
use mathlib.Core.Path.{◌≡◌, refl, sym, ap, ◌∙◌}
use Prim.Native.Nat.{ℕ, ◌+◌}
use mathlib.Core.List.{List}
use native.Mathlib.Omega.{arith}
use native.Mathlib.Numerals.{add-one}
use Rattle.state.specs.State.{read, write}
use Rattle.table_bytes.specs.declared.bytes.Entry.{Entry}
use Rattle.table_bytes.specs.Bytes.{entry_rank, entry_object, entry_mode}
use Rattle.table.specs.Reading.{with_right, declared_in}
use Rattle.table.proofs.accepted.Accepted.rights.Goals as goal

-- a turn: the rights of an entry put into what the entries before it declare
turn : (m : ℕ) (b : List ℕ) (n : ℕ) (e : Entry) (sets new : List ℕ) → (e.rank ≡ entry_rank b n) × (e.object ≡ entry_object b n) × (e.mode ≡ entry_mode b n)
    → sets ≡ declared_in m b n → new ≡ with_right m e.rank e.object e.mode sets → new ≡ declared_in m b (n + 1)
unfolding declared_in
turn m b n e sets new p q h = h ∙ (λ i. with_right m (p.0 i) (p.1 i) (p.2 i) (q i)) ∙ ap (declared_in m b) (sym (add-one n))

pub loop-k-init : goal.loop-k-init
unfolding declared_in
loop-k-init c = (omega arith, refl, refl)

pub loop-k-preserved : goal.loop-k-preserved
loop-k-preserved c =
    let b = c.args.self.now.bytes.now in
    let n = c.loop-k.k in
    let e = c.entry_at-entry.ensures in
    (omega arith, turn read b n _ _ _ e c.loop-k.invariant.1 c.add_right.ensures, turn write b n _ _ _ e c.loop-k.invariant.2 c.add_right-in-loop-k.ensures)
