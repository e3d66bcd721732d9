-- A manager and any list of events: the states and labels that come of it, and what the manager shows of one state and one event; proofs/Lists has the theorems.
use Rattle.std.specs.Prelude.{List, [], ◌∷◌, ℕ, zero, suc}
use Rattle.theory.specs.Words.{Label}
use Rattle.theory.specs.Machine.{View, Step, Seen}
use Rattle.theory.specs.Build.{labelled}
use Rattle.theory.specs.Modes.{Modes, ModeStep, KeepsApart}

-- "An event in it is any three bytes, of any kind or none,
-- and gets the state that the event before it returned, refused or not."
-- next: the state that an event returns; label: what demand 3 reads of the event and its answer
module _ {State Event : Type 0} (next : State → Event → State) (label : State → Event → Label) where
  -- the state after the first t events of the list; past its end nothing happens
  abbrev pub state_at : State → List Event → ℕ → State
  state_at s es zero = s
  state_at s [] (suc t) = s
  state_at s (e ∷ es) (suc t) = state_at (next s e) es t

  -- the label of event t of the list, counted from 0; past its end that of a refused event
  abbrev pub label_at : State → List Event → ℕ → Label
  label_at s [] t = labelled 0 0 0 0 0
  label_at s (e ∷ es) zero = label s e
  label_at s (e ∷ es) (suc t) = label_at (next s e) es t

  module _ (view : State → View) where
    -- what a manager shows: from a good state each event is a Step to a good state,
    -- and in a good state the question for the named lock answers as it should
    pub record Manages (N M : ℕ) (Good : State → Type 0) : Type 0 where
      pub keeps : (s : State) (e : Event) → Good s → Good (next s e)
      pub steps : (s : State) (e : Event) → Good s → Step N (view s) (label s e) (view (next s e))
      pub seen : (s : State) → Good s → Seen N M (view s)

    module _ {N M : ℕ} {Good : State → Type 0} (G : Manages N M Good) where
      module _ (modes : State → Modes) where
        -- what a manager shows beyond it: from a good state each event is a ModeStep
        abbrev pub MovesModes : Type 0
        MovesModes = (s : State) (e : Event) → Good s → ModeStep (view s) (modes s) (label s e) (modes (next s e))

        -- and on tables of one version: it keeps conflicting locks apart
        abbrev pub KeepsLocksApart : (version : ℕ) → Type 0
        KeepsLocksApart version = (s : State) (e : Event) → Good s → KeepsApart version (view s) (modes s) (label s e)
