-- Laws of the lines: the letters of event 7 and of an unknown kind; a text laid at the front of 64 bytes is a line.
-- Assumes nothing.
use Rattle.std.specs.Prelude.{ℕ, ◌+◌, ◌≤◌, ◌≡◌, refl, Bool, true, false, ◌&&◌, List, ◌++◌, eqb, leb, length, drop}
use Rattle.std.proofs.Common.{sym, ap, ◌∙◌, arith, leb-true, le-leb, eqb-true, eq-eqb}
use Rattle.std.proofs.lemmas.List.Edits.{sets-eq}
use Rattle.std.proofs.Math.Seq.{length-sets}
use Rattle.basics.specs.Choice.{clash, and_true, and_left, and_right}
use Rattle.decimals.specs.Laid.{Laid}
use Rattle.lines.specs.Lines.{kind_letter, LineLaid}

-- ---- letters

pub other_kind : (version kind : ℕ) → 10 ≤ kind → kind_letter version kind ≡ 63
other_kind version kind h = go (leb kind 9) refl
  where
    go : (t : Bool) → leb kind 9 ≡ t → kind_letter version kind ≡ 63
    go true e = absurd (omega (arith, leb-true kind 9 e))
    go false e = let one = le-leb 1 kind (omega arith) in simp (one, e)

-- event 7 has its letter where there are certify locks
pub no_certify_letter : (version kind : ℕ) → eqb version 1 && eqb kind 7 ≡ true → 63 ≡ kind_letter version kind
no_certify_letter version kind e =
    let first = and_left (eqb version 1) (eqb kind 7) e in
    let seven = eqb-true kind 7 (and_right (eqb version 1) (eqb kind 7) e) in
    sym (ap (kind_letter version) seven ∙ simp first)

pub certify_letter : (version kind : ℕ) → eqb version 1 && eqb kind 7 ≡ false → kind ≡ 7 → 67 ≡ kind_letter version kind
certify_letter version kind e seven = sym (ap (kind_letter version) seven ∙ go (eqb version 1) refl)
  where
    go : (first : Bool) → eqb version 1 ≡ first → kind_letter version 7 ≡ 67
    go true f = absurd (clash (and_true (eqb version 1) (eqb kind 7) f (eq-eqb kind 7 seven)) e)
    go false f = simp f

-- a text laid from index 0 on in 64 bytes is a line laid
pub line_laid : {a b : List ℕ} {end room : ℕ} {xs : List ℕ} → Laid a b 0 end room xs → room ≤ 64 → 64 ≡ length a → LineLaid xs a b end
line_laid {a} {b} {end} {room} {xs} p h e =
    let stops = p.stops in
    let within = p.within in
    let none : 0 + length xs ≡ length xs = omega arith in
    record {
      counted = omega arith;
      front = p.stored ∙ sets-eq xs a 0 (omega arith) ∙ ap (λ (k : ℕ). xs ++ drop k a) none;
      room = e ∙ sym (ap length p.stored ∙ length-sets a 0 xs);
      within = omega arith;
    }
