-- What loops find: before the first turn, with one more, with several more behind the first i, and where some of all fail.
-- Assumes nothing.
use mathlib.Core.Path.{◌≡◌, refl, sym, ap, ap₂, ◌∙◌}
use mathlib.Core.Bool.{Bool, true, false, ◌&&◌}
use Prim.Native.Nat.{ℕ, ◌+◌, ◌≤◌}
use native.Mathlib.Omega.{arith}
use Rattle.basics.specs.Choice.{clash}
use Rattle.basics.specs.Loops.{every, every_more, every-at, every_true, every_split}
use Rattle.ranks.specs.Ranks.{is_empty, union, unions}
use Rattle.ranks.specs.UnionLaws.{empty_union}

pub every_none : (p : ℕ → Bool) → every 0 p ≡ true
unfolding every
every_none p = refl

pub unions_none : (f : ℕ → ℕ) → unions 0 f ≡ 0
unfolding unions
unions_none f = refl

-- a set that is empty if the first i are well, joined with one that is empty if the next is, or each of the next n
pub one_more : (i wrong one : ℕ) (p : ℕ → Bool) → is_empty wrong ≡ every i p → is_empty one ≡ p (i + 1) → is_empty (union wrong one) ≡ every (i + 1) p
one_more i wrong one p e f = empty_union wrong one ∙ ap₂ ◌&&◌ e f ∙ sym (every_more i p)

pub block_more : (i n m wrong block : ℕ) (p : ℕ → Bool) → i + n ≡ m → is_empty wrong ≡ every i p → is_empty block ≡ every n (λ k. p (i + k))
    → is_empty (union wrong block) ≡ every m p
block_more i n m wrong block p end e f = empty_union wrong block ∙ ap₂ ◌&&◌ e f ∙ sym (every_split i n p) ∙ ap (λ (k : ℕ). every k p) end

-- some of n, from an index on, fail
pub part_fails : (m from n : ℕ) (p : ℕ → Bool) → from + n ≤ m → every n (λ k. p (from + k)) ≡ false → every m p ≡ false
part_fails m from n p h fails = go (every m p) refl
  where
    go : (b : Bool) → every m p ≡ b → b ≡ false
    go true e = absurd (clash (every_true n (λ k. p (from + k)) (λ k a b. every-at m p (from + k) e (omega arith) (omega arith))) fails)
    go false e = refl
