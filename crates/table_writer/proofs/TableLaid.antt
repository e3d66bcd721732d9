-- The parts of a table, laid one behind the other, are the table laid at the front.
-- Assumes nothing.
use mathlib.Core.Path.{◌≡◌, refl, sym, ap, ◌∙◌}
use mathlib.Core.List.{List, ◌++◌}
use Prim.Native.Nat.{ℕ, ◌+◌, ◌*◌, ◌/◌, ◌≤◌}
use native.Mathlib.Omega.{arith}
use lib.ListN.{length, take}
use Rattle.state.specs.declared.State.{State}
use Rattle.table_writer.specs.Writing.{header_bytes, word_bytes, entries_bytes, table_bytes}
use Rattle.table_writer.specs.Laying.{laid}
use Rattle.table_writer.specs.TableLaws.{entry_third}
use Rattle.table_writer.proofs.LaidLaws.{laid_on}

-- the bytes are laid over b from index i on, up to index e, which makes b'
abbrev pub Lays : List ℕ → List ℕ → ℕ → ℕ → List ℕ → Type 0
Lays b b' i e bytes = (e ≡ i + length bytes) × (b' ≡ laid b i bytes)

module _ (s : State) (n : ℕ) (processors : s.counts.jobs ≤ length s.processor_of) (count : 3 * n ≡ length (entries_bytes s)) where
  pub table_laid : (old b1 b2 b3 b4 homes word : List ℕ) (e1 e2 e3 : ℕ) → homes ≡ take s.counts.jobs s.processor_of → word ≡ word_bytes n
      → Lays old b1 0 e1 (header_bytes s) → Lays b1 b2 e1 e2 homes → Lays b2 b3 e2 e3 word → b4 ≡ laid b3 e3 (entries_bytes s) → b4 ≡ laid old 0 (table_bytes s)
  unfolding table_bytes
  table_laid old b1 b2 b3 b4 homes word e1 e2 e3 hs w one two three four =
      let l2 = laid_on old b1 b2 0 e1 e2 (header_bytes s) homes (omega arith) one two in
      let l3 = laid_on old b2 b3 0 e2 e3 (header_bytes s ++ homes) word (omega arith) l2 three in
      let l4 = laid_on old b3 b4 0 e3 (e3 + length (entries_bytes s)) (header_bytes s ++ homes ++ word) (entries_bytes s) (omega arith) l3 (refl, four) in
      let third : word ≡ word_bytes (length (entries_bytes s) / 3) = w ∙ ap word_bytes (sym (entry_third s n processors count)) in
      l4.1 ∙ (λ i. laid old 0 (header_bytes s ++ hs i ++ third i ++ entries_bytes s))
