-- An entry's mode and the rights it gives; what one entry that is read adds to the declared sets: its rank at its object, in the modes
-- that it gives a right to, and nothing else.
-- Assumes nothing.
use Rattle.std.specs.Prelude.{◌≡◌, ◌≢◌, Bool, ◌||◌, List, ℕ, zero, suc, ◌+◌, ◌≤◌, if◌then◌else◌}
use Rattle.std.proofs.Math.Path.{refl}
use Rattle.std.proofs.Common.{ap, subst, ◌∙◌, arith}
use Rattle.std.proofs.Math.Bool.{true, false}
use Rattle.std.proofs.Math.Decide.{ℕ_discrete}
use Rattle.std.proofs.Math.ListN.{length}
use Rattle.std.proofs.lemmas.List.{length-replicate}
use Rattle.basics.specs.Arrays.{at, put, at-put_same, at-put_other, length-put}
use Rattle.ranks.specs.Ranks.{member, with}
use Rattle.ranks.specs.RankLaws.{member-with_same, member-with_other}
use Rattle.state.specs.State.{read, write, most_objects}
use Rattle.table_bytes.specs.Bytes.{entry_rank, entry_object, entry_mode}
use Rattle.table.specs.Reading.{gives_right, with_right, declared_in}

-- ---- the mode made of two rights

abbrev pub mode_of_rights : Bool → Bool → ℕ
mode_of_rights reads writes = (if reads then 1 else 0) + (if writes then 2 else 0)

pub mode_reads : (s t : Bool) → gives_right (mode_of_rights s t) read ≡ s
mode_reads false false = refl
mode_reads false true = refl
mode_reads true false = refl
mode_reads true true = refl

pub mode_writes : (s t : Bool) → gives_right (mode_of_rights s t) write ≡ t
mode_writes false false = refl
mode_writes false true = refl
mode_writes true false = refl
mode_writes true true = refl

pub mode_most : (s t : Bool) → mode_of_rights s t ≤ 3
mode_most false false = omega arith
mode_most false true = omega arith
mode_most true false = omega arith
mode_most true true = omega arith

pub no_mode : (s t : Bool) → mode_of_rights s t ≡ 0 → (s ≡ false) × (t ≡ false)
no_mode false false e = (refl, refl)
no_mode false true e = absurd (omega arith)
no_mode true false e = absurd (omega arith)
no_mode true true e = absurd (omega arith)

-- a mode is made of the rights that it gives
pub mode_of_rights_lem : (m : ℕ) → 1 ≤ m → m ≤ 3 → mode_of_rights (gives_right m read) (gives_right m write) ≡ m
mode_of_rights_lem zero l h = absurd (omega arith)
mode_of_rights_lem (suc zero) l h = refl
mode_of_rights_lem (suc (suc zero)) l h = refl
mode_of_rights_lem (suc (suc (suc zero))) l h = refl
mode_of_rights_lem (suc (suc (suc (suc m)))) l h = absurd (omega arith)

-- ---- one entry

module _ (m rank object mode : ℕ) (sets : List ℕ) where
  pub length-with_right : length (with_right m rank object mode sets) ≡ length sets
  unfolding with_right
  length-with_right = go (gives_right mode m)
    where
      go : (t : Bool) → length (if t then put sets object (with (at sets object) rank) else sets) ≡ length sets
      go true = length-put sets object (with (at sets object) rank)
      go false = refl

  module _ (low : 1 ≤ object) (high : object ≤ length sets) where
    -- the set at the entry's own object
    right_here : at (with_right m rank object mode sets) object ≡ (if gives_right mode m then with (at sets object) rank else at sets object)
    unfolding with_right
    right_here = go (gives_right mode m)
      where
        go : (t : Bool) → at (if t then put sets object (with (at sets object) rank) else sets) object ≡ (if t then with (at sets object) rank else at sets object)
        go true = at-put_same sets object (with (at sets object) rank) low high
        go false = refl

    -- the entry's rank
    pub right_made : 1 ≤ rank → member (at (with_right m rank object mode sets) object) rank ≡ gives_right mode m || member (at sets object) rank
    right_made p = ap (λ (n : ℕ). member n rank) right_here ∙ go (gives_right mode m)
      where
        go : (t : Bool) → member (if t then with (at sets object) rank else at sets object) rank ≡ t || member (at sets object) rank
        go true = member-with_same (at sets object) rank p
        go false = refl

    -- another rank there
    other_rank : (r : ℕ) → rank ≢ r → member (at (with_right m rank object mode sets) object) r ≡ member (at sets object) r
    other_rank r d = ap (λ (n : ℕ). member n r) right_here ∙ go (gives_right mode m)
      where
        go : (t : Bool) → member (if t then with (at sets object) rank else at sets object) r ≡ member (at sets object) r
        go true = member-with_other (at sets object) rank r d
        go false = refl

  -- another object
  right_elsewhere : (o : ℕ) → object ≢ o → at (with_right m rank object mode sets) o ≡ at sets o
  unfolding with_right
  right_elsewhere o d = go (gives_right mode m)
    where
      go : (t : Bool) → at (if t then put sets object (with (at sets object) rank) else sets) o ≡ at sets o
      go true = at-put_other sets object (with (at sets object) rank) o d
      go false = refl

  pub right_kept : 1 ≤ object → object ≤ length sets → (r o : ℕ) → ((rank ≡ r) × (object ≡ o) → ⊥)
      → member (at (with_right m rank object mode sets) o) r ≡ member (at sets o) r
  right_kept low high r o d = elim (ℕ_discrete object o) [
    | yes e ↦ subst (λ (x : ℕ). member (at (with_right m rank object mode sets) x) r ≡ member (at sets x) r) e (other_rank low high r (λ q. d (q, e)))
    | no n ↦ ap (λ (x : ℕ). member x r) (right_elsewhere o n)
  ]

-- ---- the first entries

pub length_declared : (m : ℕ) (b : List ℕ) (k : ℕ) → length (declared_in m b k) ≡ most_objects
unfolding declared_in
length_declared m b zero = length-replicate {A = ℕ} most_objects 0
length_declared m b (suc k) = length-with_right m (entry_rank b k) (entry_object b k) (entry_mode b k) (declared_in m b k) ∙ length_declared m b k
