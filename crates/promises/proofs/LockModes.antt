-- What the modes of locks tell (specs/LockModes), and that a grant gives a lock as the theory asks.
-- A certify lock is a write lock with a mark, which only its holder's grant sets.
-- Assumes nothing.
use Rattle.std.specs.Prelude.{◌≡◌, refl, ◌≢◌, Bool, true, false, not, ◌||◌, ℕ, ◌≤◌, ◌<◌, if◌then◌else◌}
use Rattle.std.proofs.Common.{sym, subst, ap, ap₂, ◌∙◌, arith, eq-eqb}
use Rattle.std.proofs.Math.Decide.{ℕ_discrete}
use Rattle.basics.specs.Choice.{clash}
use Rattle.ranks.specs.Ranks.{member}
use Rattle.ranks.specs.RankLaws.{member-with_same}
use Rattle.state.specs.declared.State.{State}
use Rattle.state.specs.State.{read, write, certify, holders, holds, is_certified, mode_of_request, requested_mode, grant}
use Rattle.state.specs.Facts.{In, RequestFacts, Facts}
use Rattle.state.specs.Changes.{Same, SameLocks, grant_certified, grant_mark_kept}
use Rattle.state.specs.Keeping.{NoConflict, unheld, read_granted, write_granted}
use Rattle.theory.specs.Modes.{Given}
use Rattle.promises.specs.LockModes.{mode_if, held_mode}

-- ---- a write or certify lock, and a read lock

module _ (s : State) (r o : ℕ) where
  pub write_mode : holds s write r o ≡ true → write ≤ held_mode s r o
  write_mode h = go (holds s write r o) (is_certified s o) h
    where
      go : (writes marked : Bool) → writes ≡ true → write ≤ mode_if writes marked (holds s read r o)
      go true true e = omega arith
      go true false e = omega arith
      go false marked e = absurd (clash e refl)

  pub mode_write : write ≤ held_mode s r o → holds s write r o ≡ true
  mode_write = go (holds s write r o) (holds s read r o)
    where
      go : (writes reads : Bool) → write ≤ mode_if writes (is_certified s o) reads → writes ≡ true
      go true reads l = refl
      go false true l = absurd (omega arith)
      go false false l = absurd (omega arith)

  pub certify_mode : holds s write r o ≡ true → is_certified s o ≡ true → certify ≤ held_mode s r o
  certify_mode h e = omega (arith, ap₂ (λ a b. mode_if a b (holds s read r o)) h e)

  pub mode_certify : certify ≤ held_mode s r o → is_certified s o ≡ true
  mode_certify = go (holds s write r o) (is_certified s o) (holds s read r o)
    where
      go : (writes marked reads : Bool) → certify ≤ mode_if writes marked reads → marked ≡ true
      go true true reads l = refl
      go true false reads l = absurd (omega arith)
      go false marked true l = absurd (omega arith)
      go false marked false l = absurd (omega arith)

-- what is held, and not to write, is held to read
pub read_mode : (writes marked reads : Bool) → not (reads || writes) ≡ false → writes ≡ false → mode_if writes marked reads ≡ read
read_mode true marked reads held unwritten = absurd (clash refl unwritten)
read_mode false marked true held unwritten = refl
read_mode false marked false held unwritten = absurd (clash refl held)

-- what is not held to write is held to read or not at all
pub unwritten_mode : (marked reads : Bool) → mode_if false marked reads ≤ read
unwritten_mode marked true = omega arith
unwritten_mode marked false = omega arith

-- ---- where nothing changes

pub mode_frame : (s t : State) (x o : ℕ) → SameLocks s t x o → held_mode t x o ≡ held_mode s x o
mode_frame s t x o same = ap₂ (λ a b. mode_if a (is_certified t o) b) (same.locks write) (same.locks read) ∙ marks (holds s write x o) refl
  where
    marks : (b : Bool) → holds s write x o ≡ b → mode_if b (is_certified t o) (holds s read x o) ≡ mode_if b (is_certified s o) (holds s read x o)
    marks true e = ap (λ b. mode_if true b (holds s read x o)) (same.certified e)
    marks false e = refl

pub asked_frame : (s t : State) (x : ℕ) → Same s t x → requested_mode t x ≡ requested_mode s x
asked_frame s t x S = ap mode_of_request S.request

-- ---- a grant

module _ (s : State) (F : Facts s) (r : ℕ) (low : 1 ≤ r) (high : r ≤ s.counts.jobs) (m o : ℕ) (A : RequestFacts s m r o) (N : NoConflict s m r o) where
  -- a write lock is new without a mark: a mark is on a write lock, and nobody writes
  unmarked : m ≢ read → m ≢ certify → is_certified s o ≡ false
  unmarked d k = go (is_certified s o) refl
    where
      go : (b : Bool) → is_certified s o ≡ b → b ≡ false
      go false e = refl
      go true e =
          let w = ((F.locks o).certified e).1 in
          elim (ℕ_discrete r w.0) [
            | yes q ↦ absurd (clash (subst (λ x. In (holders s write o) x) (sym q) w.1) (unheld s F r low high m o A k).1)
            | no n ↦ absurd (N.no_writer d w.0 n w.1)
          ]

  granted_mode : held_mode (grant s m r o) r o ≡ m
  granted_mode = elim (ℕ_discrete m read) [
    | yes e ↦ (let g = read_granted s F r low high m o A e in
        ap₂ (λ a b. mode_if a (is_certified (grant s m r o) o) b)
        (ap (λ v. member v r) g.1 ∙ (unheld s F r low high m o A (λ q. omega arith)).1) g.0 ∙ sym e)
    | no d ↦ (let to_write = ap (λ v. member v r) (write_granted s F r low high m o A d).0 ∙ member-with_same (holders s write o) r low in
        ap (λ a. mode_if a (is_certified (grant s m r o) o) (holds (grant s m r o) read r o)) to_write ∙ written d)
  ]
    where
      written : m ≢ read → (if is_certified (grant s m r o) o then certify else write) ≡ m
      written d = elim (ℕ_discrete m certify) [
        | yes e ↦ ap (λ b. if b then certify else write) (grant_certified s F r m o A e) ∙ sym e
        | no k ↦ ap (λ b. if b then certify else write) (grant_mark_kept s F r m o A k o ∙ unmarked d k) ∙ omega (arith, A.mode, F.version)
      ]

  -- a lock in that mode or a stronger one is not held
  weaker : held_mode s r o < m
  weaker = elim (ℕ_discrete m certify) [
    | yes e ↦ (let unmarked : is_certified s o ≡ false = simp (eq-eqb m certify e, A.before e) at A.new in
        omega (arith, ap₂ (λ a b. mode_if a b (holds s read r o)) (A.before e) unmarked))
    | no k ↦ other k (unheld s F r low high m o A k)
  ]
    where
      other : m ≢ certify → (holds s m r o ≡ false) × (holds s write r o ≡ false) → held_mode s r o < m
      other k none = elim (ℕ_discrete m read) [
        | yes e ↦ omega (arith, ap₂ (λ a b. mode_if a (is_certified s o) b) none.1 (subst (λ n. holds s n r o ≡ false) e none.0))
        | no d ↦ omega (arith, ap (λ b. mode_if b (is_certified s o) (holds s read r o)) none.1, unwritten_mode (is_certified s o) (holds s read r o), A.mode)
      ]

  pub given_grant : Given (held_mode s) (held_mode (grant s m r o)) r o m
  given_grant = record { mode = omega (arith, A.mode, F.version); holds = granted_mode; stronger = weaker }
