-- The search through the objects of one word of a set: what is left of the word, and that each object before is written and not read. Then both words:
-- the certified objects are those of version 2 and may be certified.
-- Assumes nothing.
use mathlib.Core.Path.{◌≡◌, refl, sym, subst, ap, ap₂, ◌∙◌}
use mathlib.Core.Bool.{Bool, true, false, not, ◌&&◌, ◌||◌}
use Prim.Native.Nat.{ℕ, ◌+◌, ◌^◌, ◌≤◌, ◌<◌}
use native.Mathlib.Nat.{zero-add}
use native.Mathlib.Omega.{arith}
use native.Mathlib.Decide.{ℕ_discrete}
use lib.Dec.{eqb}
use borrow.Author.Tests.{eqb-true}
use Rattle.basics.specs.Choice.{clash, and_true, and_left, and_right}
use Rattle.basics.specs.Loops.{every, every_true, every_false, every_same, every_split}
use Rattle.basics.specs.Arrays.{at}
use Rattle.ranks.specs.Ranks.{is_empty, member, without, first, union}
use Rattle.ranks.specs.RankLaws.{member_empty, member-without_same, member-without_other, without-lt, first_there}
use Rattle.ranks.specs.UnionLaws.{empty_union}
use Rattle.state.specs.declared.State.{State}
use Rattle.state.specs.State.{most_objects, word_of, place_of}
use Rattle.well_formed.specs.Survey.{certifiable, word_fits, certified_well}

-- object o may be certified
abbrev pub well : State → ℕ → Bool
well s o = certifiable (at s.readers o) (at s.writers o)

module _ (s : State) (word from : ℕ) where
  -- the rest is a part of the word, and the objects of the word that are not in it are well
  pub record Seen (rest : ℕ) : Type 0 where
    pub small : rest < 2 ^ 64
    pub part : (p : ℕ) → member rest p ≡ true → member word p ≡ true
    pub seen : (p : ℕ) → member word p ≡ true → member rest p ≡ false → well s (from + p) ≡ true

  pub one_seen : (rest f : ℕ) → Seen rest → well s (from + f) ≡ true → Seen (without rest f)
  one_seen rest f S w = record {
    small = without-lt 64 rest f S.small;
    part = λ p m. elim (ℕ_discrete f p) [
      | yes e ↦ absurd (clash m (subst (λ q. member (without rest f) q ≡ false) e (member-without_same rest f)))
      | no d ↦ S.part p (sym (member-without_other rest f p d) ∙ m)
    ];
    seen = λ p m n. elim (ℕ_discrete f p) [
      | yes e ↦ subst (λ q. well s (from + q) ≡ true) e w
      | no d ↦ S.seen p m (sym (member-without_other rest f p d) ∙ n)
    ];
  }

  -- the first place that is left
  pub first_left : (rest f : ℕ) → Seen rest → is_empty rest ≡ false → f ≡ first 64 rest → (1 ≤ f) × (f ≤ 64) × (member rest f ≡ true)
  first_left rest f S e here =
      subst (λ p. (1 ≤ p) × (p ≤ 64) × (member rest p ≡ true)) (sym here) (first_there 64 rest e S.small)

  -- one that is not well is found
  pub not_well : (rest f : ℕ) → Seen rest → 1 ≤ f → f ≤ 64 → member rest f ≡ true → well s (from + f) ≡ false → false ≡ word_fits word from s
  not_well rest f S a b m w =
      sym (every_false 64 (λ p. not (member word p) || well s (from + p)) f (ap₂ (λ (x y : Bool). not x || y) (S.part f m) w) a b)

  -- nothing is left
  pub all_seen : (rest : ℕ) → Seen rest → rest ≡ 0 → true ≡ word_fits word from s
  all_seen rest S z = sym (every_true 64 _ (λ p a b. go p (member word p) refl))
    where
      go : (p : ℕ) (b : Bool) → member word p ≡ b → not b || well s (from + p) ≡ true
      go p false e = refl
      go p true e = S.seen p e (ap (λ v. member v p) z ∙ member_empty p)

-- ---- both words

module _ (s : State) where
  abbrev low : ℕ
  low = at s.certified 1

  abbrev high : ℕ
  high = at s.certified 2

  abbrev second : Bool
  second = eqb s.counts.version 2

  -- the objects of a word, whose places stand behind an index, are well, and this is version 2
  abbrev word_well : (second : Bool) (word from : ℕ) → Bool
  word_well second word from = every 64 (λ p. not (member word p) || (second && well s (from + p)))

  -- the objects of word i are those of the set whose places stand behind an index
  placed : (from i : ℕ) → ((p : ℕ) → 1 ≤ p → p ≤ 64 → (word_of (from + p) ≡ i) × (place_of (from + p) ≡ p))
      → every 64 (λ p. certified_well s (from + p)) ≡ word_well second (at s.certified i) from
  placed from i places =
      every_same 64 _ _ (λ p a b. let here = places p a b in
      ap₂ (λ w q. not (member (at s.certified w) q) || (second && well s (from + p))) here.0 here.1)

  by_words : every most_objects (certified_well s) ≡ word_well second low 0 && word_well second high 64
  by_words =
      every_split 64 64 (certified_well s)
      ∙ ap₂ ◌&&◌ (every_same 64 _ _ (λ p a b. ap (certified_well s) (sym (zero-add p))) ∙ placed 0 1 (λ p a b. (omega arith, omega arith)))
      (placed 64 2 (λ p a b. (omega arith, omega arith)))

  -- a word without a mark is well, and in another version than 2 no other
  empty_word : (second : Bool) (word from : ℕ) → is_empty word ≡ true → word_well second word from ≡ true
  empty_word second word from e =
      every_true 64 _ (λ p a b. ap (λ (x : Bool). not x || (second && well s (from + p))) (ap (λ v. member v p) (eqb-true word 0 e) ∙ member_empty p))

  only_empty : (word from : ℕ) → word < 2 ^ 64 → word_well false word from ≡ is_empty word
  only_empty word from h = go (is_empty word) refl
    where
      go : (x : Bool) → is_empty word ≡ x → word_well false word from ≡ x
      go true e = empty_word false word from e
      go false e = let f = first_there 64 word e h in every_false 64 _ (first 64 word) (ap (λ (x : Bool). not x || false) f.2) f.0 f.1

  -- no object is marked
  pub none_marked : is_empty (union low high) ≡ true → true ≡ every most_objects (certified_well s)
  none_marked e =
      let both = sym (empty_union low high) ∙ e in
      sym (by_words ∙ and_true _ _ (empty_word second low 0 (and_left _ _ both)) (empty_word second high 64 (and_right (is_empty low) _ both)))

  -- some object is marked: the version is 2, and the objects of each word are well
  pub both : is_empty (union low high) ≡ false → low < 2 ^ 64 → high < 2 ^ 64
      → second && word_fits low 0 s && word_fits high 64 s ≡ every most_objects (certified_well s)
  both e l h = go second ∙ sym by_words
    where
      go : (b : Bool) → b && word_fits low 0 s && word_fits high 64 s ≡ word_well b low 0 && word_well b high 64
      go true = refl
      go false = sym (ap₂ ◌&&◌ (only_empty low 0 l) (only_empty high 64 h) ∙ sym (empty_union low high) ∙ e)
