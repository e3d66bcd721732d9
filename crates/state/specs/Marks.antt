-- Sets of objects: a mark that is set is that of its object and no other's, and the end of a run clears those of the objects that it writes.
-- Assumes nothing.
use Rattle.std.specs.Prelude.{◌≡◌, ◌≢◌, Bool, ◌&&◌, List, length, if◌then◌else◌}
use Rattle.std.proofs.Math.Path.{refl, sym, subst, ap, ap₂}
use Rattle.std.proofs.Common.{◌∙◌, arith}
use Rattle.std.proofs.Math.Bool.{true, false, not, and-false}
use Prim.Native.Nat.{ℕ, zero, suc, ◌+◌, ◌^◌, ◌≤◌, ◌<◌}
use Rattle.std.proofs.Math.Decide.{ℕ_discrete, dec_le}
use Rattle.basics.specs.Arrays.{at, put, at-put_same, at-put_other, at_out, length-put}
use Rattle.ranks.specs.Ranks.{member, with, without}
use Rattle.ranks.specs.RankLaws.{member-with_same, member-with_other, member-without_same, member-without_other, without-lt}
use Rattle.state.specs.State.{most_objects, mark_words, word_of, place_of, marked, mark, kept_in, drop_marks}

and_true_right : (b : Bool) → b && true ≡ b
and_true_right true = refl
and_true_right false = refl

module _ (o : ℕ) (low : 1 ≤ o) (high : o ≤ most_objects) (words : List ℕ) (z : length words ≡ mark_words) where
  -- another word at o's place, of which the other places say the same
  put_other : (v p : ℕ) → ((q : ℕ) → place_of o ≢ q → member v q ≡ member (at words (word_of o)) q) → o ≢ p
      → marked (put words (word_of o) v) p ≡ marked words p
  put_other v p same d = elim (ℕ_discrete (word_of o) (word_of p)) [
    | yes e ↦ subst (λ w. member (at (put words (word_of o) v) w) (place_of p) ≡ member (at words w) (place_of p)) e
        (ap (λ x. member x (place_of p)) (at-put_same words (word_of o) v (omega arith) (omega (arith, z))) ∙ same (place_of p) (λ q. d (omega arith)))
    | no n ↦ ap (λ x. member x (place_of p)) (at-put_other words (word_of o) v (word_of p) n)
  ]

  pub mark_same : marked (mark o words) o ≡ true
  unfolding mark
  mark_same =
      ap (λ x. member x (place_of o)) (at-put_same words (word_of o) (with (at words (word_of o)) (place_of o)) (omega arith) (omega (arith, z)))
      ∙ member-with_same (at words (word_of o)) (place_of o) (omega arith)

  pub mark_other : (p : ℕ) → o ≢ p → marked (mark o words) p ≡ marked words p
  unfolding mark
  mark_other p = put_other (with (at words (word_of o)) (place_of o)) p (λ q d. member-with_other (at words (word_of o)) (place_of o) q d)

  pub length_mark : length (mark o words) ≡ mark_words
  unfolding mark
  length_mark = length-put words (word_of o) (with (at words (word_of o)) (place_of o)) ∙ z

-- ---- a word without the objects that r writes

module _ (r : ℕ) (writers : List ℕ) (from word : ℕ) where
  kept_past : (n p : ℕ) → n < p → member (kept_in r writers from n word) p ≡ member word p
  unfolding kept_in
  kept_past zero p h = refl
  kept_past (suc n) p h = go (kept_past n p (omega arith)) (member (at writers (from + suc n)) r)
    where
      go : member (kept_in r writers from n word) p ≡ member word p → (b : Bool)
          → member (if b then without (kept_in r writers from n word) (suc n) else kept_in r writers from n word) p ≡ member word p
      go before true = member-without_other (kept_in r writers from n word) (suc n) p (λ e. omega arith) ∙ before
      go before false = before

  kept_up_to : (n p : ℕ) → 1 ≤ p → p ≤ n → member (kept_in r writers from n word) p ≡ member word p && not (member (at writers (from + p)) r)
  unfolding kept_in
  kept_up_to zero p l h = absurd (omega arith)
  kept_up_to (suc n) p l h = elim (ℕ_discrete (suc n) p) [
    | yes e ↦ subst (λ q. member (kept_in r writers from (suc n) word) q ≡ member word q && not (member (at writers (from + q)) r)) e
        (here (member (at writers (from + suc n)) r))
    | no d ↦ there d (kept_up_to n p l (omega arith)) (member (at writers (from + suc n)) r)
  ]
    where
      here : (b : Bool) → member (if b then without (kept_in r writers from n word) (suc n) else kept_in r writers from n word) (suc n) ≡ member word (suc n) && not b
      here true = member-without_same (kept_in r writers from n word) (suc n) ∙ sym (and-false (member word (suc n)))
      here false = kept_past n (suc n) (omega arith) ∙ sym (and_true_right (member word (suc n)))

      there : suc n ≢ p → member (kept_in r writers from n word) p ≡ member word p && not (member (at writers (from + p)) r) → (b : Bool)
          → member (if b then without (kept_in r writers from n word) (suc n) else kept_in r writers from n word) p
          ≡ member word p && not (member (at writers (from + p)) r)
      there d before true = member-without_other (kept_in r writers from n word) (suc n) p d ∙ before
      there d before false = before

  pub kept_lt : (n : ℕ) → word < 2 ^ 64 → kept_in r writers from n word < 2 ^ 64
  unfolding kept_in
  kept_lt zero h = h
  kept_lt (suc n) h = go (kept_lt n h) (member (at writers (from + suc n)) r)
    where
      go : kept_in r writers from n word < 2 ^ 64 → (b : Bool) → (if b then without (kept_in r writers from n word) (suc n) else kept_in r writers from n word) < 2 ^ 64
      go before true = without-lt 64 (kept_in r writers from n word) (suc n) before
      go before false = before

  pub kept_member : (p : ℕ) → 1 ≤ p → p ≤ 64 → member (kept_in r writers from 64 word) p ≡ member word p && not (member (at writers (from + p)) r)
  kept_member p l h = kept_up_to 64 p l h

-- ---- the marks of the objects that r writes

module _ (r : ℕ) (writers words : List ℕ) where
  -- an object keeps its mark unless r writes it
  drop_marks_lem : (o : ℕ) → 1 ≤ o → o ≤ most_objects → marked (drop_marks r writers words) o ≡ marked words o && not (member (at writers o) r)
  unfolding drop_marks
  drop_marks_lem o a b = elim (dec_le o 64) [
    | yes l ↦ in_word 1 0 (omega arith) (omega arith) refl
    | no d ↦ in_word 2 64 (omega arith) (omega arith) refl
  ]
    where
      in_word : (w from : ℕ) → word_of o ≡ w → from + place_of o ≡ o → at (drop_marks r writers words) w ≡ kept_in r writers from 64 (at words w)
          → marked (drop_marks r writers words) o ≡ marked words o && not (member (at writers o) r)
      in_word w from e f k =
          ap (λ n. member (at (drop_marks r writers words) n) (place_of o)) e
          ∙ ap (λ v. member v (place_of o)) k
          ∙ kept_member r writers from (at words w) (place_of o) (omega arith) (omega arith)
          ∙ ap₂ (λ n p. member (at words n) (place_of o) && not (member (at writers p) r)) (sym e) f

  pub drop_kept : length words ≡ mark_words → (o : ℕ) → member (at writers o) r ≡ false → marked (drop_marks r writers words) o ≡ marked words o
  unfolding drop_marks
  drop_kept z o h = elim (dec_le o 128) [
    | yes b ↦ elim (dec_le 1 o) [
      | yes a ↦ drop_marks_lem o a b ∙ ap (λ t. marked words o && not t) h ∙ and_true_right (marked words o)
      | no d ↦ past (λ q. d (omega (arith, q.0)))
    ]
    | no d ↦ past (λ q. d (omega (arith, q.1)))
  ]
    where
      past : ¬ ((1 ≤ word_of o) × (word_of o ≤ mark_words)) → marked (drop_marks r writers words) o ≡ marked words o
      past d =
          ap (λ v. member v (place_of o)) (at_out (drop_marks r writers words) mark_words (word_of o) refl d ∙ sym (at_out words mark_words (word_of o) z d))

  pub drop_gone : (o : ℕ) → 1 ≤ o → o ≤ most_objects → member (at writers o) r ≡ true → marked (drop_marks r writers words) o ≡ false
  drop_gone o a b h = drop_marks_lem o a b ∙ ap (λ t. marked words o && not t) h ∙ and-false (marked words o)

  pub length-drop : length (drop_marks r writers words) ≡ mark_words
  unfolding drop_marks
  length-drop = refl
