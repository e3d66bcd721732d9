-- The job that a processor runs is ready: an active job of the processor that is awake and isn't waiting, and of these the one with the least key.
-- Assumes nothing.
use Rattle.std.specs.Prelude.{◌≡◌, refl, Bool, true, false, ℕ, ◌+◌, ◌*◌, ◌≤◌, if◌then◌else◌}
use Rattle.std.proofs.Common.{subst, inl, inr, arith}
use Rattle.basics.specs.Loops.{least, least_at}
use Rattle.state.specs.declared.State.{State}
use Rattle.state.specs.State.{most_jobs}
use Rattle.weights.specs.Keys.{no_key}
use Rattle.inheritance.specs.Running.{inherited_rank, is_ready, ready_key, running_rank}

-- the least key of the ready jobs of processor p
abbrev pub run_key : State → ℕ → ℕ
run_key s p = least s.counts.jobs no_key (ready_key s p)

pub record Runs (s : State) (p r : ℕ) : Type 0 where
  pub in_table : r ≤ s.counts.jobs
  pub ready : is_ready s p r ≡ true
  pub key : run_key s p ≡ inherited_rank s r * 256 + r

pub running_ready : (s : State) (p r : ℕ) → s.counts.jobs ≤ most_jobs → 1 ≤ r → running_rank s p ≡ r → Runs s p r
unfolding running_rank
running_ready s p r small low e = elim (least_at s.counts.jobs no_key (ready_key s p)) [
  | inl z ↦ absurd (omega arith)
  | inr t ↦ go t.0 t.2 (is_ready s p t.0) refl t.3
]
  where
    go : (x : ℕ) → x ≤ s.counts.jobs → (b : Bool) → is_ready s p x ≡ b → run_key s p ≡ (if b then inherited_rank s x * 256 + x else no_key) → Runs s p r
    go x l true t z =
        let same : x ≡ r = omega arith in
        subst (Runs s p) same (record { in_table = l; ready = t; key = z })
    go x l false t z = absurd (omega arith)
