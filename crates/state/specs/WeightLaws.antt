-- The laws of ceilings: nobody where no rank is declared, else a declared rank, and none is more urgent. The ranks that a write lock weighs by. The laws of what a lock weighs: how urgent at
-- least, beside its holder, the jobs that may lock its object and the same job's other lock on it; and nobody at the most.
-- Assumes nothing.
use Rattle.std.specs.Prelude.{◌≡◌, refl, Bool, ℕ, ◌≤◌, if◌then◌else◌}
use Rattle.std.proofs.Common.{subst, ap}
use Rattle.std.proofs.Math.Bool.{true, false}
use native.Mathlib.Omega.{arith}
use Rattle.ranks.specs.Ranks.{first, union}
use Rattle.ranks.specs.RankLaws.{first-least, first_member, first_empty}
use Rattle.ranks.specs.UnionLaws.{union_left, union_right, first-union}
use Rattle.state.specs.declared.Counts.{Counts}
use Rattle.state.specs.declared.State.{State}
use Rattle.state.specs.State.{most_jobs, read, write, declared, shares_with_none}
use Rattle.state.specs.Facts.{In}
use Rattle.state.specs.Modes.{either_mode}
use Rattle.state.specs.Weights.{more_urgent, nobody, ceiling_of, write_ceiling_of, absolute_ceiling_of, write_weight, weight}

-- ---- the ceiling of a set of ranks

pub ceiling_none : (c : Counts) → c.jobs ≤ most_jobs → (ranks : ℕ) → ranks ≡ 0 → ceiling_of c ranks ≡ nobody c
ceiling_none c few ranks e = omega (arith, ap (first most_jobs) e, first_empty most_jobs)

pub ceiling_least : (c : Counts) (ranks r : ℕ) → In ranks r → ceiling_of c ranks ≤ r
ceiling_least c ranks r i = omega (arith, first-least most_jobs ranks r i)

pub ceiling_in : (c : Counts) → c.jobs ≤ most_jobs → (ranks r : ℕ) → In ranks r → r ≤ c.jobs → In ranks (ceiling_of c ranks)
ceiling_in c few ranks r i high =
    let low = first-least most_jobs ranks r i in
    let here : first most_jobs ranks ≡ ceiling_of c ranks = omega arith in
    subst (In ranks) here (first_member most_jobs ranks (omega arith))

-- ---- the ranks that a write lock weighs by

-- those whose most urgent one is what it weighs, where it shares with none or may be shared
abbrev pub weighing_of : (none : Bool) (may_read may_write : ℕ) → ℕ
weighing_of none may_read may_write = if none then union may_read may_write else may_write

pub weighing_ceiling : (c : Counts) (none : Bool) (may_read may_write : ℕ)
    → ceiling_of c (weighing_of none may_read may_write) ≡ (if none then ceiling_of c (union may_read may_write) else ceiling_of c may_write)
weighing_ceiling c true may_read may_write = refl
weighing_ceiling c false may_read may_write = refl

-- ---- weights

module _ (s : State) where
  -- a read lock weighs at least as urgent as its holder and as each job that may write its object
  pub read_own : (r o : ℕ) → weight s read r o ≤ r
  unfolding weight
  read_own r o = omega arith

  pub read_writer : (q r o : ℕ) → In (declared s write o) q → weight s read r o ≤ q
  unfolding weight
  read_writer q r o i = omega (arith, first-least most_jobs (declared s write o) q i)

  -- a write lock weighs at least as urgent as each job that may write its object;
  write_ceiling : (r o : ℕ) → weight s write r o ≤ write_ceiling_of s o
  unfolding weight
  write_ceiling r o = go (shares_with_none s o)
    where
      go : (b : Bool) → (if b then absolute_ceiling_of s o else write_ceiling_of s o) ≤ write_ceiling_of s o
      go true = omega (arith, first-union most_jobs (declared s read o) (declared s write o))
      go false = omega arith

  pub write_writer : (q r o : ℕ) → In (declared s write o) q → weight s write r o ≤ q
  write_writer q r o i = omega (arith, write_ceiling r o, first-least most_jobs (declared s write o) q i)

  -- one that shares with none, as each that may lock its object
  pub write_any : (m q r o : ℕ) → shares_with_none s o ≡ true → In (declared s m o) q → weight s write r o ≤ q
  unfolding weight
  write_any m q r o none =
      either_mode (λ f. In (f (declared s read o) (declared s write o)) q → write_weight s o ≤ q)
      (λ i. below (union_left (declared s read o) (declared s write o) q i)) (λ i. below (union_right (declared s read o) (declared s write o) q i)) m
    where
      below : In (union (declared s read o) (declared s write o)) q → write_weight s o ≤ q
      below i = simp none (omega (arith, first-least most_jobs (union (declared s read o) (declared s write o)) q i))

  -- of one job's two locks on an object the write lock weighs more
  pub write_below_read : (r o : ℕ) → In (declared s write o) r → weight s write r o ≤ weight s read r o
  unfolding weight
  write_below_read r o i = omega (arith, write_ceiling r o, write_writer r r o i)

  -- a lock weighs a rank or nobody
  pub weight_small : (m r o : ℕ) → weight s m r o ≤ nobody s.counts
  unfolding weight
  weight_small m r o =
      either_mode (λ f. f (more_urgent (write_ceiling_of s o) r) (write_weight s o) ≤ nobody s.counts) (omega arith) (omega (arith, write_ceiling r o)) m
