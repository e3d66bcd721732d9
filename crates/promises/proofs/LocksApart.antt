-- On tables of each version the manager keeps conflicting locks apart, as the theory asks: a request meets in each lock of another job that conflicts with it
-- a weight at least as urgent as its rank, since the requester is declared for what it asks; and in version 2 a job finishes with certified locks alone.
-- Assumes nothing.
use Rattle.std.specs.Prelude.{◌≡◌, refl, ◌⊎◌, Bool, true, false, ◌||◌, ℕ, ◌+◌, ◌≤◌, ◌<◌, eqb}
use Rattle.std.proofs.Common.{sym, subst, ap, ◌∙◌, inl, inr, arith, eq-eqb}
use Rattle.std.proofs.Math.Decide.{dec_le}
use Rattle.basics.specs.Choice.{or_right}
use Rattle.state.specs.declared.State.{State}
use Rattle.state.specs.State.{most_objects, read, write, holds, is_certified, shares_with_none}
use Rattle.state.specs.Facts.{RequestFacts, Facts}
use Rattle.state.specs.WellFormedFacts.{active_rank}
use Rattle.state.specs.Keeping.{writable}
use Rattle.state.specs.WeightLaws.{read_writer, write_writer, write_any}
use Rattle.weights.specs.Keys.{no_weight}
use Rattle.theory.specs.Words.{Label}
use Rattle.theory.specs.Modes.{Gives}
use Rattle.theory.proofs.Keeps.{wakens_waited}
use Rattle.theory.specs.Lists.{Manages, MovesModes, KeepsLocksApart}
use Rattle.promises.specs.Terms.{next, label}
use Rattle.promises.specs.Weights.{lock_weight}
use Rattle.promises.proofs.Weights.{lock_below}
use Rattle.promises.specs.View.{view}
use Rattle.promises.proofs.View.{requested_waits}
use Rattle.promises.specs.LockModes.{mode_if, held_mode, modes}
use Rattle.promises.proofs.LockModes.{mode_certify, unwritten_mode}
use Rattle.promises.proofs.Steps.{Goes, step_goes}
use Rattle.promises.proofs.ReachedStates.{manages, moves_modes}
use Rattle.promises.proofs.Finishing.{step_counts, finish_modes}

-- ---- what an event gives was asked for as the refusals allow: by the request that it grants, or by the one that waited

asked : (s : State) → Facts s → (l : Label) (t : State) → Goes s l t → (x o m : ℕ) → Gives (view s) (modes s) l x o m → RequestFacts s m x o
asked s F l t G x o m (inl (g, e)) = rw (g.to_job, g.on_object, e) at (G.granted g.granted)
asked s F l t G x o m (inr (w, p, e)) = rw (p, e) at (F.requests x (requested_waits s F x (wakens_waited G.step x w).1))

-- ---- the locks that a request meets

module _ (s : State) (F : Facts s) (x m o : ℕ) (A : RequestFacts s m x o) (r : ℕ) where
  -- a write lock beside which none is given shares with none
  alone : s.counts.version < held_mode s r o → shares_with_none s o ≡ true
  alone l = elim (dec_le s.counts.version 1) [
    | yes h ↦ ap (λ b. b || is_certified s o) (eq-eqb s.counts.version 1 (omega (arith, F.version)))
    | no h ↦ or_right (eqb s.counts.version 1) (is_certified s o) (mode_certify s r o (omega arith))
  ]

  meets : 0 < held_mode s r o → (2 ≤ m) ⊎ (s.counts.version < held_mode s r o) → lock_weight s r o ≤ x
  meets held = go (holds s write r o) refl (holds s read r o) refl
    where
      rank : (1 ≤ x) × (x ≤ s.counts.jobs)
      rank = active_rank s F x A.active

      go : (writes : Bool) → holds s write r o ≡ writes → (reads : Bool) → holds s read r o ≡ reads
          → (2 ≤ m) ⊎ (s.counts.version < held_mode s r o) → lock_weight s r o ≤ x
      go true w reads e (inl l) =
          omega (arith, lock_below s write r o (inr refl) w, write_writer s x r o (writable s F x rank.0 rank.1 m o A (λ q. omega arith)))
      go true w reads e (inr l) = omega (arith, lock_below s write r o (inr refl) w, write_any s m x r o (alone l) A.right)
      go false w true e (inl l) =
          omega (arith, lock_below s read r o (inl refl) e, read_writer s x r o (writable s F x rank.0 rank.1 m o A (λ q. omega arith)))
      go false w reads e (inr l) =
          absurd (omega (
            arith,
            ap (λ b. mode_if b (is_certified s o) (holds s read r o)) w,
            unwritten_mode (is_certified s o) (holds s read r o),
            F.version,
          ))
      go false w false e (inl l) =
          absurd (omega (arith, ap (λ b. mode_if b (is_certified s o) (holds s read r o)) w, ap (λ b. mode_if false (is_certified s o) b) e))

-- ---- what the theory asks of the manager, on tables of each version

abbrev pub OfVersion : ℕ → State → Type 0
OfVersion v s = Facts s × (s.counts.version ≡ v)

pub manages_version : (v : ℕ) → Manages next label view no_weight (most_objects + 1) (OfVersion v)
manages_version v = record {
  keeps = λ s e G.
      (manages.keeps s e G.0, ap (λ c. c.version) (step_counts s e.kind e.rank e.object) ∙ G.1);
  steps = λ s e G. manages.steps s e G.0;
  seen = λ s G. manages.seen s G.0;
}

pub moves_version : (v : ℕ) → MovesModes next label view (manages_version v) modes
moves_version v s e G = moves_modes s e G.0

pub apart_version : (v : ℕ) → KeepsLocksApart next label view (manages_version v) modes v
apart_version v s e (F, known) = record {
  mode = λ x o m g. omega (arith, (facts x o m g).mode);
  meets = λ x o m r g other held d.
      meets s F x m o (facts x o m g) r held (subst (λ n. (2 ≤ m) ⊎ (n < held_mode s r o)) (sym known) d);
  finish = λ second. finish_modes s F (known ∙ second) e.kind e.rank e.object;
}
  where
    facts : (x o m : ℕ) → Gives (view s) (modes s) (label s e) x o m → RequestFacts s m x o
    facts = asked s F (label s e) (next s e) (step_goes s F e.kind e.rank e.object)
