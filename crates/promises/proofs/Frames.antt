-- What a change of a state leaves of its view, and what a grant makes of the weights: a lock is taken as the theory asks.
-- What a lock weighs is the table's affair and, of a write lock, that of its mark, with which it weighs at least as urgent as without.
-- Assumes nothing.
use Rattle.std.specs.Prelude.{◌≡◌, ◌≢◌, Bool, ◌||◌, ℕ, ◌≤◌, min, if◌then◌else◌}
use Rattle.std.proofs.Math.Path.{refl, sym, ap}
use Rattle.std.proofs.Common.{subst, ap₂, ◌∙◌}
use Rattle.std.proofs.Math.Logic.{inl, inr}
use Rattle.std.proofs.Math.Bool.{true, false}
use native.Mathlib.Omega.{arith}
use Rattle.std.proofs.Math.Decide.{ℕ_discrete}
use Rattle.std.proofs.Math.Dec.{eqb}
use Rattle.ranks.specs.Ranks.{member}
use Rattle.ranks.specs.RankLaws.{member-with_same}
use Rattle.ranks.specs.UnionLaws.{first-union}
use Rattle.state.specs.declared.State.{State}
use Rattle.state.specs.State.{most_jobs, read, write, certify, declared, holders, holds, is_certified, is_active, has_unlocked, requested_object, object_of_request, grant}
use Rattle.state.specs.Facts.{In, RequestFacts, Facts}
use Rattle.state.specs.Changes.{over_table, Same, SameLocks, grant_certified, grant_mark_kept, grant_locks}
use Rattle.state.specs.Keeping.{unheld, writable, read_granted, write_granted}
use Rattle.state.specs.Weights.{write_ceiling_of, absolute_ceiling_of, weight}
use Rattle.state.specs.WeightLaws.{read_own, write_writer, write_below_read, weight_small}
use Rattle.weights.specs.Keys.{no_weight}
use Rattle.theory.specs.Machine.{Passes, Took}
use Rattle.promises.specs.Weights.{weight_if, lock_weight}
use Rattle.promises.proofs.Weights.{lock_below}
use Rattle.promises.specs.View.{as_number}

-- ---- of a job of which two states over one table say the same

module _ (s t : State) where
  -- what a read lock weighs is the table's affair
  read_weight : (r o : ℕ) → weight (over_table s t) read r o ≡ weight s read r o
  unfolding weight
  read_weight r o = refl

  -- a write lock that keeps its mark weighs at least as urgent as before, and the same if it gets none
  write_weight_lem : (r o : ℕ) → (is_certified s o ≡ true → is_certified t o ≡ true) → weight (over_table s t) write r o ≤ weight s write r o
  unfolding weight
  write_weight_lem r o kept = go (eqb s.counts.version 1) (is_certified s o) (is_certified t o) kept
    where
      go : (first before after : Bool) → (before ≡ true → after ≡ true)
          → (if first || after then absolute_ceiling_of s o else write_ceiling_of s o) ≤ (if first || before then absolute_ceiling_of s o else write_ceiling_of s o)
      go true before after k = omega arith
      go false true after k = simp (k refl) (omega arith)
      go false false true k = omega (arith, first-union most_jobs (declared s read o) (declared s write o))
      go false false false k = omega arith

  same_write_weight : (r o : ℕ) → is_certified t o ≡ is_certified s o → weight (over_table s t) write r o ≡ weight s write r o
  unfolding weight
  same_write_weight r o e = ap (λ b. if eqb s.counts.version 1 || b then absolute_ceiling_of s o else write_ceiling_of s o) e

  pub weight_frame : (x o : ℕ) → SameLocks s t x o → lock_weight (over_table s t) x o ≡ lock_weight s x o
  weight_frame x o h =
      ap₂ min (ap₂ weight_if (h.locks read) (read_weight x o))
      (ap (λ b. weight_if b (weight (over_table s t) write x o)) (h.locks write) ∙ written (holds s write x o) refl)
    where
      written : (b : Bool) → holds s write x o ≡ b → weight_if b (weight (over_table s t) write x o) ≡ weight_if b (weight s write x o)
      written true e = same_write_weight x o (h.certified e)
      written false e = refl

  pub requested_frame : (x : ℕ) → Same s t x → requested_object t x ≡ requested_object s x
  requested_frame x S = ap object_of_request S.request

  pub active_frame : (x : ℕ) → Same s t x → as_number (is_active t x) ≡ as_number (is_active s x)
  active_frame x S = ap as_number S.active

  pub unlocked_frame : (x : ℕ) → Same s t x → as_number (has_unlocked t x) ≡ as_number (has_unlocked s x)
  unlocked_frame x S = ap as_number S.unlocked

-- no lock, no weight
pub no_weight_lem : (s : State) (r o : ℕ) → ((m : ℕ) → holds s m r o ≡ false) → lock_weight s r o ≡ no_weight
no_weight_lem s r o h = ap₂ (λ a b. min (weight_if a (weight s read r o)) (weight_if b (weight s write r o))) (h read) (h write)

-- ---- a grant

module _ (s : State) (F : Facts s) (r : ℕ) (low : 1 ≤ r) (high : r ≤ s.counts.jobs) (m o : ℕ) (A : RequestFacts s m r o)
    (pass : Passes (lock_weight s) r) where
  -- r's new lock weighs at least as urgent as r, and as what r held there before
  lighter : (lock_weight (over_table s (grant s m r o)) r o ≤ r) × (lock_weight (over_table s (grant s m r o)) r o ≤ lock_weight s r o)
  lighter = elim (ℕ_discrete m read) [ yes e ↦ reading e | no d ↦ writing d ]
    where
      t : State
      t = over_table s (grant s m r o)

      reading : m ≡ read → (lock_weight t r o ≤ r) × (lock_weight t r o ≤ lock_weight s r o)
      reading e =
          let none = unheld s F r low high m o A (λ q. omega arith) in
          let before : lock_weight s r o ≡ no_weight =
          ap₂ (λ a b. min (weight_if a (weight s read r o)) (weight_if b (weight s write r o)))
          (subst (λ n. holds s n r o ≡ false) e none.0) none.1 in
          let new = lock_below t read r o (inl refl) (read_granted s F r low high m o A e).0 in
          (omega (arith, read_own t r o), omega (arith, weight_small t read r o, F.counts.jobs))

      writing : m ≢ read → (lock_weight t r o ≤ r) × (lock_weight t r o ≤ lock_weight s r o)
      writing d =
          let right = writable s F r low high m o A d in
          let held : holds t write r o ≡ true =
          ap (λ v. member v r) (write_granted s F r low high m o A d).0 ∙ member-with_same (holders s write o) r low in
          let new = lock_below t write r o (inr refl) held in
          (omega (arith, write_writer t r r o right), omega (arith, than_read (holds s read r o) right, than_write (holds s write r o)))
        where
          than_read : (b : Bool) → In (declared s write o) r → weight t write r o ≤ weight_if b (weight s read r o)
          than_read true i = omega (arith, write_below_read t r o i, read_weight s (grant s m r o) r o)
          than_read false i = omega (arith, weight_small t write r o, F.counts.jobs)

          marks : is_certified s o ≡ true → is_certified (grant s m r o) o ≡ true
          marks e = elim (ℕ_discrete m certify) [
            | yes q ↦ grant_certified s F r m o A q
            | no k ↦ grant_mark_kept s F r m o A k o ∙ e
          ]

          than_write : (b : Bool) → weight t write r o ≤ weight_if b (weight s write r o)
          than_write true = write_weight_lem s (grant s m r o) r o marks
          than_write false = omega (arith, weight_small t write r o, F.counts.jobs)

  pub took_grant : Took (lock_weight s) (lock_weight (grant s m r o)) r o
  unfolding grant
  took_grant = record {
    pass = pass;
    cap = lighter.0;
    down = lighter.1;
    same = λ x p. elim (grant_locks s F r m o A x p) [
      | inl same ↦ inl (weight_frame s (grant s m r o) x p same)
      | inr own ↦ inr (sym own.0, sym own.1)
    ];
  }
