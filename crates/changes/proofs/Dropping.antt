-- The objects of one word of a set, one by one: what is kept of the word once those in the rest are looked at too.
-- Assumes nothing.
use mathlib.Core.Path.{◌≡◌, refl, sym, subst, ap, ap₂, ◌∙◌}
use mathlib.Core.Bool.{Bool, true, false, not, ◌&&◌, ◌||◌}
use mathlib.Core.List.{List}
use Prim.Native.Nat.{ℕ, ◌+◌, ◌^◌, ◌<◌}
use native.Mathlib.Decide.{ℕ_discrete}
use Rattle.basics.specs.Choice.{clash}
use Rattle.basics.specs.Arrays.{at}
use Rattle.ranks.specs.Ranks.{member, without}
use Rattle.ranks.specs.RankLaws.{member_empty, member-without_same, member-without_other, without-lt, same_members}
use Rattle.state.specs.State.{kept_in}
use Rattle.state.specs.Marks.{kept_lt, kept_member}

module _ (r : ℕ) (writers : List ℕ) (from word : ℕ) where
  abbrev written : ℕ → Bool
  written p = member (at writers (from + p)) r

  -- the rest is a part of the word, and of the others those are kept that r does not write
  pub record Kept (rest kept : ℕ) : Type 0 where
    pub rest_small : rest < 2 ^ 64
    pub kept_small : kept < 2 ^ 64
    pub part : (p : ℕ) → member rest p ≡ true → member word p ≡ true
    pub is : (p : ℕ) → member kept p ≡ member word p && (member rest p || not (written p))

  pub all_left : word < 2 ^ 64 → Kept word word
  all_left h = record { rest_small = h; kept_small = h; part = λ p m. m; is = λ p. whole (member word p) (not (written p)) }
    where
      whole : (b c : Bool) → b ≡ b && (b || c)
      whole true c = refl
      whole false c = refl

  module _ (rest kept f : ℕ) (K : Kept rest kept) (m : member rest f ≡ true) where
    part_left : (p : ℕ) → member (without rest f) p ≡ true → member word p ≡ true
    part_left p i = elim (ℕ_discrete f p) [
      | yes e ↦ absurd (clash i (subst (λ q. member (without rest f) q ≡ false) e (member-without_same rest f)))
      | no d ↦ K.part p (sym (member-without_other rest f p d) ∙ i)
    ]

    -- r writes the object
    pub one_dropped : written f ≡ true → Kept (without rest f) (without kept f)
    one_dropped w = record {
      rest_small = without-lt 64 rest f K.rest_small;
      kept_small = without-lt 64 kept f K.kept_small;
      part = part_left;
      is = λ p. elim (ℕ_discrete f p) [
        | yes e ↦ subst (λ q. member (without kept f) q ≡ member word q && (member (without rest f) q || not (written q))) e
            (member-without_same kept f
            ∙ sym (ap₂ (λ (x y : Bool). x && y) (K.part f m) (ap₂ (λ (x y : Bool). x || not y) (member-without_same rest f) w)))
        | no d ↦ member-without_other kept f p d ∙ K.is p
            ∙ ap (λ (x : Bool). member word p && (x || not (written p))) (sym (member-without_other rest f p d))
      ];
    }

    -- it does not
    pub one_kept : written f ≡ false → Kept (without rest f) kept
    one_kept w = record {
      rest_small = without-lt 64 rest f K.rest_small;
      kept_small = K.kept_small;
      part = part_left;
      is = λ p. elim (ℕ_discrete f p) [
        | yes e ↦ subst (λ q. member kept q ≡ member word q && (member (without rest f) q || not (written q))) e
            (K.is f ∙ ap₂ (λ (x y : Bool). x && (y || not (written f))) (K.part f m) m
            ∙ sym (ap₂ (λ (x y : Bool). x && y) (K.part f m) (ap₂ (λ (x y : Bool). x || not y) (member-without_same rest f) w)))
        | no d ↦ K.is p ∙ ap (λ (x : Bool). member word p && (x || not (written p))) (sym (member-without_other rest f p d))
      ];
    }

  -- nothing is left
  pub none_left : (rest kept : ℕ) → Kept rest kept → rest ≡ 0 → word < 2 ^ 64 → kept ≡ kept_in r writers from 64 word
  none_left rest kept K z h =
      same_members 64 kept (kept_in r writers from 64 word) K.kept_small (kept_lt r writers from word 64 h)
      (λ p a b. K.is p ∙ ap (λ (x : Bool). member word p && (x || not (written p))) (ap (λ v. member v p) z ∙ member_empty p)
      ∙ sym (kept_member r writers from word p a b))
