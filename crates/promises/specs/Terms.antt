-- The terms of the promises: events, what demand 3 reads off an event and its answer, whom a job names, the states that are reached,
-- one job's locks, a request by the old rule, no sleeper above a job, who is more urgent than an object's writers, and a ceiling. The sentences in quotes
-- are document 01's, or where it says so 02's.
-- Assumes nothing.
use Rattle.std.specs.Prelude.{◌≡◌, Bool, true, ◌||◌, ℕ, ◌+◌, ◌≤◌, ◌<◌, eqb, get_or, if◌then◌else◌}
use Rattle.basics.specs.Choice.{between}
use Rattle.state.specs.declared.State.{State}
use Rattle.state.specs.State.{write, may_lock, holds, holds_any, is_sleeping}
use Rattle.state.specs.Facts.{Sized, In}
use Rattle.state.specs.Modes.{Mode}
use Rattle.state.specs.Weights.{weight}
use Rattle.table.specs.Fresh.{Fresh}
use Rattle.weights.specs.Keys.{old_lowest_key}
use Rattle.rule.specs.GrantingTheorems.{ComesFirst}
use Rattle.events.specs.declared.Outcome.{Outcome}
use Rattle.events.specs.Answers.{Paper, paper}
use Rattle.refusals.specs.Refusals.{mode_of}
use Rattle.events.specs.Events.{request_meeting}
use Rattle.manager.specs.Step.{step}
use Rattle.basics.specs.Replies.{value}
use Rattle.questions.specs.Answers.{named_reply}
use Rattle.questions.specs.Questions.{ask_named_lock}
use Rattle.theory.specs.Words.{Label}
use Rattle.theory.specs.Build.{labelled}

-- "An event is three bytes: kind, rank, object." Here they are any three numbers.
pub record Event : Type 0 where
  pub kind : ℕ
  pub rank : ℕ
  pub object : ℕ

abbrev pub outcome_of : State → Event → Outcome
outcome_of s e = step s e.kind e.rank e.object

-- "gets the state that the event before it returned, refused or not": the state that an event returns
abbrev pub next : State → Event → State
next s e = (outcome_of s e).state

-- ---- "Its words are read off the events and the answers"

abbrev pub is_granted : Paper → Bool
is_granted p = eqb p.number 1

abbrev pub is_waits : Paper → Bool
is_waits p = eqb p.number 2

abbrev pub is_done : Paper → Bool
is_done p = eqb p.number 3

-- what happened, as the labels of demand 3 number it: 2 granted, 3 waits; done, the kind 1, 4, 5 or 6 itself; 0 anything else, and so for kinds 8 and 9,
-- which move no lock
abbrev pub happened : ℕ → Paper → ℕ
happened k p =
    if is_granted p then 2 else
    if is_waits p then 3 else
    if is_done p then (if eqb k 1 || between 4 6 k then k else 0) else
    0

-- "A request is an event answered granted or waits", of kind 2, 3 or 7: its mode, 1 read, 2 write or 3 certify; 0 where there is none
abbrev pub mode_asked : ℕ → Paper → ℕ
mode_asked k p = if is_granted p then mode_of k else if is_waits p then mode_of k else 0

-- "done, with the woken rank or 0"
abbrev pub woken_in : Paper → ℕ
woken_in p = if is_done p then get_or p.values 0 0 else 0

-- what demand 3 reads off an event of kind k, rank r and object o, and its answer
abbrev pub label_of : ℕ → ℕ → ℕ → Paper → Label
label_of k r o p = labelled (happened k p) r o (mode_asked k p) (woken_in p)

abbrev pub label : State → Event → Label
label s e = label_of e.kind e.rank e.object (paper (outcome_of s e).answer)

-- "After an event, a job in a run names the rank that the question for its named lock then gives; 0 is nobody."
abbrev pub named : State → ℕ → ℕ
named s j = value (named_reply (ask_named_lock s j)) 0 0

-- ---- the states that are reached: "a fresh state: a well-formed one with every job idle and every object unlocked",
-- its arrays of the lengths that the code's record always has; and each state that an event of any kind or none returns in a reached one
pub data Reached : State → Type 0 where
  fresh : {s : State} → Sized s → Fresh s → Reached s
  after : {s : State} → Reached s → (e : Event) → Reached (next s e)

-- ---- the locks of one job, h: 02, CR 9: "only that job's locks decide it"
-- rank j is more urgent than the weight of each of them
abbrev pub MoreUrgentThanLocksOf : State → ℕ → ℕ → Type 0
MoreUrgentThanLocksOf s h j = (m o : ℕ) → Mode m → holds s m h o ≡ true → j < weight s m h o

-- the one on o is the first of them: "the most urgent weight, ties going to .. the lowest object number"
pub record FirstOfLocks (s : State) (h o : ℕ) : Type 0 where
  pub mode : ℕ
  pub known : Mode mode
  pub held : holds s mode h o ≡ true
  pub first : (m p : ℕ) → Mode m → holds s m h p ≡ true → ComesFirst (weight s mode h o) h o (weight s m h p) h p

-- ---- a request of r for object o in mode m by the old rule: "The old rule is the same with a read lock weighing the write ceiling alone."
abbrev pub old_request : State → ℕ → ℕ → ℕ → Outcome
old_request s m r o = request_meeting s m r o (old_lowest_key s r)

-- ---- no sleeping holder is more urgent than j: 02, CR 8: "where no more urgent holder sleeps"
abbrev pub NoSleeperAbove : State → ℕ → Type 0
NoSleeperAbove s j = (h o : ℕ) → holds_any s h o ≡ true → is_sleeping s h ≡ true → j ≤ h

-- ---- job j is more urgent than every job that is declared to write object o
abbrev pub AboveWriters : State → ℕ → ℕ → Type 0
AboveWriters s j o = (q : ℕ) → may_lock s write q o ≡ true → j < q

-- ---- n is the ceiling of these ranks in a table of so many jobs. Nobody is said in the paper's words here, so that they hold the definition (`nobody`).
pub record CeilingIs (jobs ranks n : ℕ) : Type 0 where
  -- "the most urgent rank declared"
  pub most_urgent_lem : (r : ℕ) → In ranks r → In ranks n × (n ≤ r)
  -- "the job count plus one" (02, CR 4) where there is none
  pub nobody : ranks ≡ 0 → n ≡ jobs + 1
