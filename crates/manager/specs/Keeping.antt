-- An event in a well-formed state, of whatever numbers, leaves a well-formed state: by the facts of such a state, then by the test for one.
-- So a state is tested once for many events.
-- Assumes nothing.
use Rattle.std.specs.Prelude.{ℕ, ◌≡◌, Bool, true, false}
use Rattle.std.proofs.Common.{sym, subst}
use Rattle.state.specs.declared.State.{State}
use Rattle.state.specs.WellFormed.{well_formed}
use Rattle.state.specs.Facts.{Sized, Facts}
use Rattle.state.specs.WellFormedFacts.{facts, facts_well_formed}
use Rattle.state.specs.Holders.{HolderFacts, holder_facts, held_of, well_held}
use Rattle.events.specs.declared.Outcome.{Outcome}
use Rattle.events.specs.Keeping.{perform_keeps}
use Rattle.manager.specs.Step.{step, step_8, step_performs}

pub step_keeps : (s : State) → Facts s → (k r o : ℕ) → Facts (step s k r o).state
step_keeps s F k r o =
    subst (λ (x : Outcome). Facts x.state) (sym (step_performs s k r o (facts_well_formed s F))) (perform_keeps s F k r o)

pub step_well_formed : (s : State) → Sized s → well_formed s ≡ true → (k r o : ℕ) → well_formed (step s k r o).state ≡ true
step_well_formed s z w k r o = facts_well_formed (step s k r o).state (step_keeps s (facts s z w) k r o)

-- ---- once it is known of a state whether it is well formed, it is known of the next one

pub record Tested (well : Bool) (s : State) : Type 0 where
  pub sized : Sized s
  pub found : well ≡ well_formed s

-- what is then known of the locks and their most urgent holder
pub tested_holders : (s : State) → Tested true s → HolderFacts (held_of s)
tested_holders s T = well_held s T.sized (sym T.found)

pub tested_facts : (s : State) → Tested true s → HolderFacts s
tested_facts s T = holder_facts s (facts s T.sized (sym T.found))

pub tested_after : (well : Bool) (s : State) → Tested well s → (k r o : ℕ) → Tested well (step s k r o).state
tested_after true s T k r o =
    let F = step_keeps s (facts s T.sized (sym T.found)) k r o in
    record { sized = F.sized; found = sym (facts_well_formed (step s k r o).state F) }
tested_after false s T k r o = subst (λ (x : Outcome). Tested false x.state) (sym (step_8 s k r o (sym T.found))) T
