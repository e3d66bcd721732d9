-- Demand 3, change requests 1 and 7 and what change request 6 makes of a run that finishes, of a manager, for any list of events from a fresh state:
-- shown from what the manager shows of one state and one event (Manages; for the change requests also MovesModes, and for 6 and 7 KeepsLocksApart).
use Rattle.std.specs.Prelude.{refl, List, [], ◌∷◌, ℕ, zero, suc, ◌≡◌, ◌≤◌}
use Rattle.std.proofs.Common.{arith}
use Rattle.theory.specs.Words.{Label, Demand3}
use Rattle.theory.specs.WriteLocks.{HoldsWrite, WriteLocksStay, WritesCertified}
use Rattle.theory.specs.Machine.{View, Step, FreshView}
use Rattle.theory.specs.Links.{Trace}
use Rattle.theory.specs.Modes.{Modes, ModeStep, KeepsApart}
use Rattle.theory.specs.RunOrder.{InOrder}
use Rattle.theory.specs.Lists.{state_at, label_at, Manages, MovesModes, KeepsLocksApart}
use Rattle.theory.proofs.Demand.{trace_demand3}
use Rattle.theory.proofs.Build.{refused_step}
use Rattle.theory.proofs.Modes.{nothing_modes, refused_apart}
use Rattle.theory.proofs.WritesStay.{written, trace_writes_stay}
use Rattle.theory.proofs.Certified.{trace_writes_certified}
use Rattle.theory.proofs.RunOrder.{trace_in_order}

-- next: the state that an event returns; label: what demand 3 reads of the event and its answer
module _ {State Event : Type 0} (next : State → Event → State) (label : State → Event → Label) where
  module _ (view : State → View) where
    module _ {N M : ℕ} {Good : State → Type 0} (G : Manages next label view N M Good) where
      pub good_at : (s : State) → Good s → (es : List Event) (t : ℕ) → Good (state_at next label s es t)
      good_at s g es zero = g
      good_at s g [] (suc t) = g
      good_at s g (e ∷ es) (suc t) = good_at (next s e) (G.keeps s e g) es t

      pub step_at : (s : State) → Good s → (es : List Event) (t : ℕ)
          → Step N (view (state_at next label s es t)) (label_at next label s es t) (view (state_at next label s es (suc t)))
      step_at s g [] zero = refused_step (view s) 0 0
      step_at s g [] (suc t) = refused_step (view s) 0 0
      step_at s g (e ∷ es) zero = G.steps s e g
      step_at s g (e ∷ es) (suc t) = step_at (next s e) (G.keeps s e g) es t

      trace_of : (s : State) → Good s → FreshView N (view s) → (es : List Event)
          → Trace N (λ t. view (state_at next label s es t)) (label_at next label s es)
      trace_of s g F es = record { fresh = F; step = step_at s g es }

      -- DEMAND 3 of any list of events from a fresh state
      pub demand3_of : (s : State) → Good s → FreshView N (view s) → (es : List Event)
          → Demand3 (label_at next label s es) (λ t. (view (state_at next label s es t)).names)
      demand3_of s g F es = trace_demand3 (trace_of s g F es) (λ t. G.seen (state_at next label s es t) (good_at s g es t))

      module _ (modes : State → Modes) where
        module _ (moves : MovesModes next label view G modes) where
          mode_step_at : (s : State) → Good s → (es : List Event) (t : ℕ)
              → ModeStep (view (state_at next label s es t)) (modes (state_at next label s es t)) (label_at next label s es t)
              (modes (state_at next label s es (suc t)))
          mode_step_at s g [] zero = nothing_modes 0 0 0 (omega arith) (λ x. refl) (λ r p. refl)
          mode_step_at s g [] (suc t) = nothing_modes 0 0 0 (omega arith) (λ x. refl) (λ r p. refl)
          mode_step_at s g (e ∷ es) zero = moves s e g
          mode_step_at s g (e ∷ es) (suc t) = mode_step_at (next s e) (G.keeps s e g) es t

          -- CHANGE REQUEST 1 of any list of events from a fresh state; and what it says is held is in the state
          pub writes_stay_of : (s : State) → Good s → FreshView N (view s) → (es : List Event) → WriteLocksStay (label_at next label s es)
          writes_stay_of s g F es =
              trace_writes_stay {modes = λ t. modes (state_at next label s es t)} (trace_of s g F es) (mode_step_at s g es)

          pub writes_shown_of : (s : State) → Good s → FreshView N (view s) → (es : List Event)
              → (j k o t : ℕ) → HoldsWrite (label_at next label s es) j k o t → 2 ≤ (modes (state_at next label s es t)).held j o
          writes_shown_of s g F es j k o t h =
              written {modes = λ t. modes (state_at next label s es t)} (trace_of s g F es) (mode_step_at s g es) j k o t h

          module _ {version : ℕ} (apart : KeepsLocksApart next label view G modes version) where
            apart_at : (s : State) → Good s → (es : List Event) (t : ℕ)
                → KeepsApart version (view (state_at next label s es t)) (modes (state_at next label s es t)) (label_at next label s es t)
            apart_at s g [] zero = refused_apart version (view s) (modes s) 0 0
            apart_at s g [] (suc t) = refused_apart version (view s) (modes s) 0 0
            apart_at s g (e ∷ es) zero = apart s e g
            apart_at s g (e ∷ es) (suc t) = apart_at (next s e) (G.keeps s e g) es t

            -- CHANGE REQUEST 6 of a run that finishes
            pub writes_certified_of : version ≡ 2 → (s : State) → Good s → FreshView N (view s) → (es : List Event)
                → WritesCertified (label_at next label s es)
            writes_certified_of second s g F es =
                trace_writes_certified {modes = λ t. modes (state_at next label s es t)} (trace_of s g F es) (mode_step_at s g es)
                (λ t. (apart_at s g es t).finish second)

            -- CHANGE REQUEST 7
            pub in_order_of : (s : State) → Good s → FreshView N (view s) → (es : List Event) → InOrder (label_at next label s es) version
            in_order_of s g F es =
                trace_in_order {modes = λ t. modes (state_at next label s es t)} (trace_of s g F es) (mode_step_at s g es) (apart_at s g es)
