-- The release of one read lock: what it does to the holders of each object, that the carried rank stays where another job gives a lock up, and that it keeps the
-- facts of a well-formed state.
-- Assumes nothing.
use Rattle.state.specs.Facts.{Facts, In, Sized}
use Rattle.state.specs.Holders.{HolderFacts, carried_first, carried_holds, holder_facts, release_fewer, release_holders}
use Rattle.state.specs.Changes.{Same, SameLocks, other_locks, with_in, without_in}
use Rattle.state.specs.declared.State.{State}
use Rattle.std.proofs.Math.Path.{ap, refl, subst, sym}
use native.Mathlib.Omega.{arith}
use Rattle.basics.specs.Arrays.{at, at-put_other, at-put_same, length-put}
use Rattle.state.specs.Modes.{either_mode}
use Rattle.std.proofs.Math.Bool.{false, true}
use Rattle.state.specs.Keeping.{fewer_locks, keep, kept_mark}
use Rattle.state.specs.State.{holders, holds, is_active, most_objects, most_urgent_holder, read, release, release_readers, request_of, write}
use Rattle.std.proofs.Math.Logic.{inl, inr}
use Rattle.std.proofs.Common.{le_antisymm, ◌∙◌}
use Rattle.ranks.specs.Ranks.{member, without}
use Rattle.ranks.specs.RankLaws.{member-with_other, member-without_other, member-without_same, with-lt, without-lt}
use Rattle.std.specs.Prelude.{ℕ, ◌<◌, ◌^◌, ◌≡◌, ◌≢◌, ◌≤◌, ◌⊎◌}
use Rattle.std.proofs.Math.Decide.{ℕ_discrete}

-- ---- the release of one read lock

module _ (s : State) (r : ℕ) (Z : Sized s) (o : ℕ) (low : 1 ≤ o) (high : o ≤ most_objects) where
  release_readers_lem : holders (release s r o) read o ≡ without (holders s read o) r
  unfolding release
  release_readers_lem = at-put_same s.readers o (without (at s.readers o) r) low (omega (arith, Z.readers))

  -- the writers of every object stay
  release_writers : (p : ℕ) → holders (release s r o) write p ≡ holders s write p
  unfolding release
  release_writers p = refl

  pub release_others : (m p : ℕ) → o ≢ p → holders (release s r o) m p ≡ holders s m p
  unfolding release
  release_others m p d =
      either_mode (λ f. f (at (release s r o).readers p) (at (release s r o).writers p) ≡ f (at s.readers p) (at s.writers p))
      (at-put_other s.readers o (without (at s.readers o) r) p d) (release_writers p) m

  -- what holds of the readers without r and of the writers of o holds of its holders in either mode
  pub release_either : (P : ℕ → ℕ → Type 0) → P (without (holders s read o) r) (holders s read o) → P (holders s write o) (holders s write o)
      → (m : ℕ) → P (holders (release s r o) m o) (holders s m o)
  unfolding release
  release_either P reading writing =
      either_mode (λ f. P (f (at (release s r o).readers o) (at (release s r o).writers o)) (f (at s.readers o) (at s.writers o)))
      (subst (λ v. P v (holders s read o)) (sym release_readers_lem) reading) (subst (λ v. P v (holders s write o)) (sym (release_writers o)) writing)

  -- r, which has no write lock there, holds nothing there
  pub release_none : holds s write r o ≡ false → (m : ℕ) → holds (release s r o) m r o ≡ false
  release_none unwritten = release_either (λ v before. member v r ≡ false) (member-without_same (holders s read o) r) unwritten

  pub release_same : (x : ℕ) → r ≢ x → Same s (release s r o) x
  unfolding release
  release_same x d = record {
    active = refl;
    unlocked = member-with_other s.unlocked r x d;
    sleeping = refl;
    request = refl;
    locks = λ m p. elim (ℕ_discrete o p) [
      | yes e ↦ subst (λ q. holds (release s r o) m x q ≡ holds s m x q) e
          (release_either (λ v before. member v x ≡ member before x) (member-without_other (holders s read o) r x d) refl m)
      | no n ↦ ap (λ v. member v x) (release_others m p n)
    ];
    certified = λ p h. refl;
  }

  -- each lock stays but that of r on o
  pub release_locks : (x p : ℕ) → SameLocks s (release s r o) x p ⊎ ((r ≡ x) × (o ≡ p))
  unfolding release
  release_locks = other_locks s (release s r o) r o release_same release_others (λ p d. refl)

-- ---- the carried rank

module _ (s : State) (H : HolderFacts s) (r : ℕ) where
  -- the carried rank stays where another job's lock is given up
  pub release_holder : (o : ℕ) → 1 ≤ o → o ≤ most_objects → s.holder ≢ r → most_urgent_holder (release_readers r o s.readers) s.writers ≡ s.holder
  unfolding release
  release_holder o low high other = go (ℕ_discrete s.holder 0)
    where
      t : State
      t = release s r o

      T : HolderFacts t
      T = release_holders s H r o low high

      kept : (m p : ℕ) → In (holders s m p) s.holder → In (holders t m p) s.holder
      kept m p =
          either_mode (λ f. In (f (at s.readers p) (at s.writers p)) s.holder
          → In (f (at (release_readers r o s.readers) p) (at s.writers p)) s.holder) still (λ i. i) m
        where
          still : In (at s.readers p) s.holder → In (at (release_readers r o s.readers) p) s.holder
          still i = elim (ℕ_discrete o p) [
            | yes e ↦ subst (λ q. In (at s.readers q) s.holder → In (at (release_readers r o s.readers) q) s.holder) e
                (λ j. ap (λ v. member v s.holder) (at-put_same s.readers o (without (at s.readers o) r) low (omega (arith, H.readers)))
                ∙ (member-without_other (at s.readers o) r s.holder (λ q. other (sym q)) ∙ j)) i
            | no d ↦ ap (λ v. member v s.holder) (at-put_other s.readers o (without (at s.readers o) r) p d) ∙ i
          ]

      back : (m p x : ℕ) → In (holders t m p) x → (1 ≤ s.holder) × (s.holder ≤ x)
      back m p x i = carried_first s H m x p (release_fewer s H r o low high m x p i)

      go : Dec (s.holder ≡ 0) → most_urgent_holder (release_readers r o s.readers) s.writers ≡ s.holder
      go (yes e) = elim (ℕ_discrete t.holder 0) [
        | yes z ↦ z ∙ sym e
        | no d ↦ (let w = carried_holds t T d in absurd (omega (arith, back w.0 w.1 t.holder w.2)))
      ]
      go (no d) =
          let w = carried_holds s H d in
          let first = carried_first t T w.0 s.holder w.1 (kept w.0 w.1 w.2) in
          let v = carried_holds t T (λ e. omega (arith, first.0)) in
          le_antisymm first.1 (back v.0 v.1 t.holder v.2).1

-- ---- the facts

module _ (s : State) (F : Facts s) (r : ℕ) (low : 1 ≤ r) (high : r ≤ s.counts.jobs) where
  -- a set of holders that is a part of what it was
  abbrev Part : ℕ → ℕ → Type 0
  Part v before = (v < 2 ^ s.counts.jobs) × ((x : ℕ) → In v x → In before x)

  pub release_keeps : (o : ℕ) → 1 ≤ o → o ≤ most_objects → is_active s r ≡ true → request_of s r ≡ 0 → Facts (release s r o)
  unfolding release
  release_keeps o a b active free =
      keep s (release s r o) F r (length-put s.readers o (without (holders s read o) r) ∙ F.sized.readers) F.sized.writers
      F.sized.certified F.sized.request
      (λ p. fewer_locks s (release s r o) p (λ m. (part p m).0) (λ m x i. ((part p m).1 x i, λ j. j)) (kept_mark s F r low high p) (F.locks p))
      F.active_jobs (with-lt s.counts.jobs s.unlocked r F.marks_jobs high)
      (λ x i. elim (with_in s.unlocked r x i) [ inl e ↦ subst (λ y. In s.active y) e active | inr j ↦ F.marks x j ])
      F.sleepers_jobs F.sleepers (λ d. absurd (d free)) (release_same s r F.sized o a b) refl
      (release_holders s (holder_facts s F) r o a b).order
    where
      part : (p m : ℕ) → Part (holders (release s r o) m p) (holders s m p)
      part p m = elim (ℕ_discrete o p) [
        | yes e ↦ subst (λ q. Part (holders (release s r o) m q) (holders s m q)) e
            (release_either s r F.sized o a b Part
            (without-lt s.counts.jobs (holders s read o) r ((F.locks o).jobs read), λ x i. (without_in (holders s read o) r x i).0)
            ((F.locks o).jobs write, λ x i. i) m)
        | no d ↦ subst (λ v. Part v (holders s m p)) (sym (release_others s r F.sized o a b m p d)) ((F.locks p).jobs m, λ x i. i)
      ]
