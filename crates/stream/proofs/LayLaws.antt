-- The lines that the code lays, by the tests that it makes.
-- Assumes nothing.
use Prim.Native.Nat.{ℕ}
use mathlib.Core.Path.{◌≡◌, refl, sym, subst}
use mathlib.Core.List.{List, []}
use native.Mathlib.Omega.{arith}
use borrow.Author.Tests.{eq-eqb, ne_eqb}
use Rattle.state.specs.declared.Counts.{Counts}
use Rattle.decimals.specs.Laid.{Laid}
use Rattle.lines.specs.Lines.{header_line, end_line, short_line, refused_line}
use Rattle.stream.specs.declared.Bench.{Bench}
use Rattle.stream.specs.declared.Advanced.{Advanced}
use Rattle.stream.specs.Parts.{Advance, opening_line, unchanged, last_line_of, Advances}

module _ (refusal : ℕ) (counts : Counts) where
  pub opening_accepted : refusal ≡ 0 → header_line counts ≡ opening_line refusal counts
  opening_accepted e = simp (eq-eqb refusal 0 e)

  pub opening_cut : refusal ≡ 1 → [] ≡ opening_line refusal counts
  opening_cut e = simp (ne_eqb refusal 0 (λ q. omega arith), eq-eqb refusal 1 e)

  pub opening_refused : (refusal ≡ 0 → ⊥) → (refusal ≡ 1 → ⊥) → refused_line refusal ≡ opening_line refusal counts
  opening_refused d f = simp (ne_eqb refusal 0 d, ne_eqb refusal 1 f)

module _ (r : Bench) (left : ℕ) where
  pub last_cut : r.refusal ≡ 1 → refused_line 1 ≡ last_line_of r left
  unfolding last_line_of
  last_cut e = simp (eq-eqb r.refusal 1 e)

  pub last_refused : (r.refusal ≡ 0 → ⊥) → (r.refusal ≡ 1 → ⊥) → [] ≡ last_line_of r left
  unfolding last_line_of
  last_refused d f = simp (ne_eqb r.refusal 0 d, ne_eqb r.refusal 1 f)

  pub last_end : r.refusal ≡ 0 → left ≡ 0 → end_line r.events ≡ last_line_of r left
  unfolding last_line_of
  last_end e z = simp (ne_eqb r.refusal 1 (λ q. omega arith), eq-eqb r.refusal 0 e, eq-eqb left 0 z)

  pub last_short : r.refusal ≡ 0 → (left ≡ 0 → ⊥) → short_line ≡ last_line_of r left
  unfolding last_line_of
  last_short e z = simp (ne_eqb r.refusal 1 (λ q. omega arith), eq-eqb r.refusal 0 e, ne_eqb left 0 z)

pub nothing_laid : (b : List ℕ) (room : ℕ) → Laid b b 0 0 room []
nothing_laid b room = record { stored = refl; stops = refl; within = omega arith }

-- a step that does nothing
pub nothing_done : (r : Bench) (b : List ℕ) → Advances (record { bench = r; used = 0; laid = 0 }) (unchanged r) 45 b b
nothing_done r b = record { bench = refl; used = refl; laid = nothing_laid b 45 }

-- another name of what a step does
pub advances_is : {r : Advanced} {t u : Advance} {room : ℕ} {a b : List ℕ} → Advances r t room a b → u ≡ t → Advances r u room a b
advances_is {r} {t} {u} {room} {a} {b} p e = subst (λ (x : Advance). Advances r x room a b) (sym e) p
