-- What holds in every state that is reached from a fresh one: the facts of a well-formed state, and the invariant of the theory.
-- Assumes nothing.
use Rattle.std.specs.Prelude.{◌≡◌, ℕ, ◌+◌}
use Rattle.std.proofs.Common.{ap}
use Rattle.std.proofs.Math.Decide.{ℕ_discrete}
use Rattle.basics.specs.Choice.{clash}
use Rattle.state.specs.declared.State.{State}
use Rattle.state.specs.State.{most_objects, request_of, object_of_request}
use Rattle.state.specs.Facts.{Sized, Facts}
use Rattle.state.specs.WellFormedFacts.{facts}
use Rattle.table.specs.Fresh.{Fresh}
use Rattle.weights.specs.Keys.{no_weight}
use Rattle.manager.specs.Keeping.{step_keeps}
use Rattle.theory.specs.Machine.{FreshView, Invariant}
use Rattle.theory.proofs.Machine.{fresh_invariant}
use Rattle.theory.proofs.Keeps.{step_invariant}
use Rattle.theory.specs.Lists.{Manages, MovesModes}
use Rattle.promises.specs.Terms.{next, label, Reached, fresh, after}
use Rattle.promises.specs.View.{as_number, view}
use Rattle.promises.proofs.View.{seen}
use Rattle.promises.proofs.Frames.{no_weight_lem}
use Rattle.promises.specs.LockModes.{modes}
use Rattle.promises.proofs.Steps.{step_goes}

-- ---- a fresh state

module _ {s : State} (z : Sized s) (f : Fresh s) where
  pub fresh_facts : Facts s
  fresh_facts = facts s z f.well_formed_lem

  -- a waiting job is active
  none_waiting : (j : ℕ) → request_of s j ≡ 0
  none_waiting j = elim (ℕ_discrete (request_of s j) 0) [
    | yes e ↦ e
    | no d ↦ absurd (clash (fresh_facts.requests j d).active (f.jobs_idle j))
  ]

  -- as the theory sees it
  pub fresh_view : FreshView no_weight (view s)
  fresh_view = record {
    no_lock = λ r o. no_weight_lem s r o (λ m. f.objects_unlocked m r o);
    no_request = λ j. ap object_of_request (none_waiting j);
    idle = λ j. ap as_number (f.jobs_idle j);
  }

-- ---- every state

pub record Kept (t : State) : Type 0 where
  pub facts : Facts t
  pub invariant : Invariant no_weight (view t)

pub kept : {t : State} → Reached t → Kept t
kept (fresh z f) = record { facts = fresh_facts z f; invariant = fresh_invariant (fresh_view z f) }
kept (after {s} r e) =
    let k = kept r in
    record {
      facts = step_keeps s k.facts e.kind e.rank e.object;
      invariant = step_invariant (step_goes s k.facts e.kind e.rank e.object).step k.invariant;
    }

-- what the theory asks of the manager
pub manages : Manages next label view no_weight (most_objects + 1) Facts
manages = record {
  keeps = λ s e F. step_keeps s F e.kind e.rank e.object;
  steps = λ s e F. (step_goes s F e.kind e.rank e.object).step;
  seen = seen;
}

pub moves_modes : MovesModes next label view manages modes
moves_modes s e F = (step_goes s F e.kind e.rank e.object).moves
