-- The promises about the manager as a whole: demand 3, well-formed states, granting and naming, one holder that decides, no second wake-up, the old rule
-- on one processor, sleepers that change no lock decision, nobody by the table, and write locks that stay, for tables of both versions, but the old rule
-- for version 1; what holds of version 2 alone; and finished runs as if one by one, for both. Their terms are in specs/Terms.antt, for demand 3 in
-- theory/specs/Words.antt, for write locks in theory/specs/WriteLocks.antt and for finished runs in theory/specs/Arrows.antt; the other files of proofs/
-- prove them. The sentences in quotes are document 01's, or where it says so 02's. Assumes nothing.
use Rattle.std.specs.Prelude.{◌≡◌, refl, ◌≢◌, ◌↔◌, ◌⊎◌, true, false, List, [], ◌∷◌, ℕ, zero, suc, ◌≤◌, eqb, get_or}
use Rattle.std.proofs.Common.{sym, subst, ap, ◌∙◌, arith}
use Rattle.std.proofs.lemmas.Bool.{eqb-false, not-true}
use Rattle.basics.specs.Choice.{between}
use Rattle.ranks.specs.RankLaws.{first_empty}
use Rattle.state.specs.declared.State.{State}
use Rattle.state.specs.State.{most_jobs, write, is_object, declared, declared_any, holds, is_certified, request_of, is_waiting, with_sleepers}
use Rattle.state.specs.WellFormed.{well_formed}
use Rattle.state.specs.Facts.{Sized}
use Rattle.state.specs.WellFormedFacts.{facts, facts_well_formed}
use Rattle.table_bytes.specs.Bytes.{version_in}
use Rattle.table.specs.Reading.{read_table}
use Rattle.table.specs.Fresh.{Fresh, read_fresh}
use Rattle.rule.specs.Granting.{passes, wakeable}
use Rattle.rule.specs.GrantingTheorems.{MoreUrgentThanOthers, FirstOfOthers}
use Rattle.events.specs.Answers.{paper}
use Rattle.refusals.specs.Refusals.{is_request, mode_of}
use Rattle.manager.specs.Keeping.{step_keeps, step_well_formed}
use Rattle.basics.specs.Replies.{told, value}
use Rattle.questions.specs.Answers.{rank_reply, named_reply, ceilings_reply}
use Rattle.questions.specs.Questions.{ask_inherited_rank, ask_named_lock, ask_ceilings, ask_running}
use Rattle.theory.specs.Words.{Ends, Demand3}
use Rattle.theory.specs.WriteLocks.{HoldsWrite, WriteLocksStay, WritesCertified}
use Rattle.theory.specs.Arrows.{OneByOne, OneOrder, NeverTogether, GrantsFirst}
use Rattle.theory.proofs.Keeps.{none_passes}
use Rattle.theory.proofs.WritesStay.{write_kept}
use Rattle.theory.specs.Lists.{state_at, label_at}
use Rattle.theory.proofs.Lists.{demand3_of, writes_stay_of, writes_shown_of, writes_certified_of}
use Rattle.promises.specs.Terms.{Event, outcome_of, next, label, named, Reached, fresh, after}
use Rattle.promises.specs.Terms.{MoreUrgentThanLocksOf, FirstOfLocks, old_request, NoSleeperAbove, AboveWriters, CeilingIs}
use Rattle.promises.proofs.TableStates.{read_sized, read_version}
use Rattle.promises.specs.View.{view}
use Rattle.promises.specs.LockModes.{modes}
use Rattle.promises.proofs.LockModes.{write_mode, mode_write, certify_mode, mode_certify}
use Rattle.promises.proofs.Steps.{step_goes, done_kind}
use Rattle.promises.proofs.ReachedStates.{kept, fresh_facts, fresh_view, manages, moves_modes}
use Rattle.promises.proofs.Waking.{blocked_not_woken, nobody_left}
use Rattle.promises.proofs.Requests.{granted_exactly, waits_for}
use Rattle.promises.proofs.OldRule.{one_request}
use Rattle.promises.proofs.Sleeping.{answer_same, named_lock_same, inherited_rank_same}
use Rattle.promises.specs.Example.{sleep_table, sleep_events, slept}
use Rattle.promises.proofs.Example.{sleep_answers}
use Rattle.promises.proofs.LocksApart.{manages_version, moves_version, apart_version}
use Rattle.promises.proofs.FinishedRuns.{in_order}
use Rattle.promises.proofs.HeldUp.{answer_certified, named_certified}
use Rattle.promises.proofs.OneHolder.{granted_to_holder, granted_by_one, waits_one, waits_first, names_carried, carried_goes_on}
use Rattle.promises.specs.NobodyAs65.{ceiling65, old_request65, step65, ask_inherited_rank65, ask_named_lock65, ask_ceilings65, ask_running65}
use Rattle.promises.proofs.Nobody.{old_request_same, step_same, ask_inherited_same, ask_named_same, ask_running_same, ask_ceilings_are, ask_ceilings_64}

-- ---- DEMAND 3
-- "It is a single claim about the whole list of events and not one for each event. The list starts from a fresh state .. An event in it is
-- any three bytes, of any kind or none, and gets the state that the event before it returned, refused or not."
-- `label_at .. i` is what is read off event i and its answer, `state_at .. t` the state after the first t events.
pub demand3 : (s : State) → Sized s → Fresh s → (es : List Event)
    → Demand3 (label_at next label s es) (λ t j. named (state_at next label s es t) j)
demand3 s z f es = demand3_of next label view manages s (fresh_facts z f) (fresh_view z f) es

-- "a fresh state .., as the reader returns for each table it accepts"
pub table_demand3 : (b : List ℕ) → (read_table b).refusal ≡ 0 → (es : List Event)
    → Demand3 (label_at next label (read_table b).state es) (λ t j. named (state_at next label (read_table b).state es t) j)
table_demand3 b ok = demand3 (read_table b).state (read_sized b ok) (read_fresh b ok)

-- ---- THE STATES THAT ARE REACHED
-- The other promises speak of them: those that the reader returns, and those after the events of any list from one that is reached.
pub table_reached : (b : List ℕ) → (read_table b).refusal ≡ 0 → Reached (read_table b).state
table_reached b ok = fresh (read_sized b ok) (read_fresh b ok)

pub list_reached : (s : State) → Reached s → (es : List Event) (t : ℕ) → Reached (state_at next label s es t)
list_reached s r es zero = r
list_reached s r [] (suc t) = r
list_reached s r (e ∷ es) (suc t) = list_reached (next s e) (after r e) es t

-- ---- WELL-FORMED STATES
-- An event in any well-formed state, however it was come by, returns a well-formed state, so that "8 the state handed in isn't well formed"
-- is never the manager's own doing. 02, CR 9, of its two lines, the carried rank and the order of the holders: "A state that breaks them is refused by 8.
-- No sequence from a fresh state ever does."
pub keeps_well_formed : (s : State) → Sized s → well_formed s ≡ true → (e : Event) → Sized (next s e) × (well_formed (next s e) ≡ true)
keeps_well_formed s z w e =
    ((step_keeps s (facts s z w) e.kind e.rank e.object).sized, step_well_formed s z w e.kind e.rank e.object)

pub reached_well_formed : {t : State} → Reached t → well_formed t ≡ true
reached_well_formed {t} r = facts_well_formed t (kept r).facts

-- ---- GRANTED OR WAITS
-- A request, of kind 2, 3 or 7, that is not refused, the fourth answer, in any well-formed state, handed in or reached.
module _ (s : State) (sized : Sized s) (well : well_formed s ≡ true) (e : Event) (kind : is_request e.kind ≡ true)
    (ok : (paper (outcome_of s e).answer).number ≢ 4) where
  -- "A request is granted if the requester's rank is more urgent than the weight of every lock held by others." It is the first answer.
  pub granted_iff : ((paper (outcome_of s e).answer).number ≡ 1) ↔ MoreUrgentThanOthers s e.rank
  granted_iff = granted_exactly s sized well e.kind e.rank e.object kind ok

  -- "Otherwise the job waits. It names the lock of another job with the most urgent weight, ties going to the lowest rank number and then
  -- the lowest object number." It is the second answer, with holder and object as its first two values.
  pub waits_names : (paper (outcome_of s e).answer).number ≡ 2
      → FirstOfOthers s e.rank (get_or (paper (outcome_of s e).answer).values 0 0) (get_or (paper (outcome_of s e).answer).values 1 0)
  waits_names = waits_for s sized well e.kind e.rank e.object kind ok

-- ---- ONE HOLDER DECIDES
-- 02, CR 9: "The state shall carry the most urgent holder, 0 if none." Of the requests of the section above, in any well-formed state. "Both must equal the
-- full reading of all locks": that reading is `granted_iff` and `waits_names`, of the same answers.
module _ (s : State) (sized : Sized s) (well : well_formed s ≡ true) (e : Event) (kind : is_request e.kind ≡ true)
    (ok : (paper (outcome_of s e).answer).number ≢ 4) where
  -- "If, after the refusals, that is the requester, the answer is a grant", and so it is where there is no holder;
  pub holder_granted : (s.holder ≡ 0) ⊎ (s.holder ≡ e.rank) → (paper (outcome_of s e).answer).number ≡ 1
  holder_granted = granted_to_holder s sized well e.kind e.rank e.object kind ok

  -- "otherwise only that job's locks decide it": it is a grant if and only if the requester is more urgent than the weight of each of them.
  pub holder_decides : s.holder ≢ 0 → s.holder ≢ e.rank
      → ((paper (outcome_of s e).answer).number ≡ 1) ↔ MoreUrgentThanLocksOf s s.holder e.rank
  holder_decides = granted_by_one s sized well e.kind e.rank e.object kind ok

  -- Who waits names the carried rank, and the first of that job's locks.
  pub waits_for_holder : (paper (outcome_of s e).answer).number ≡ 2 → get_or (paper (outcome_of s e).answer).values 0 0 ≡ s.holder
  waits_for_holder = waits_one s sized well e.kind e.rank e.object kind ok

  pub waits_for_first_lock : (paper (outcome_of s e).answer).number ≡ 2
      → FirstOfLocks s s.holder (get_or (paper (outcome_of s e).answer).values 1 0)
  waits_for_first_lock = waits_first s sized well e.kind e.rank e.object kind ok

-- In every state that is reached whoever waits names the carried rank, and that job does not wait.
pub waiting_names_carried : {t : State} → Reached t → (j : ℕ) → is_waiting t j ≡ true → named t j ≡ t.holder
waiting_names_carried = names_carried

pub carried_not_waiting : {t : State} → Reached t → is_waiting t t.holder ≡ false
carried_not_waiting = carried_goes_on

-- ---- NO SECOND WAKE-UP
-- "After kinds 4, 5 and 6 the waiting jobs are searched .., and the search stops with the first whose request passes. It gets its lock.
-- No second one could." In any well-formed state, handed in or reached: after an event of kinds 4 to 6 answered done, the third answer,
-- no waiting job's request passes, and so the search, made again, finds nobody.
pub no_second_request_passes : (s : State) → Sized s → well_formed s ≡ true
    → (e : Event) → between 4 6 e.kind ≡ true → (paper (outcome_of s e).answer).number ≡ 3
    → (j : ℕ) → is_waiting (next s e) j ≡ true → passes (next s e) j ≡ false
no_second_request_passes s z w e kind done =
    let F = facts s z w in
    blocked_not_woken (next s e) (step_keeps s F e.kind e.rank e.object)
    (none_passes (step_goes s F e.kind e.rank e.object).step (done_kind e.kind (paper (outcome_of s e).answer) kind done))

pub no_second_one : (s : State) → Sized s → well_formed s ≡ true
    → (e : Event) → between 4 6 e.kind ≡ true → (paper (outcome_of s e).answer).number ≡ 3 → wakeable (next s e) ≡ 0
no_second_one s z w e kind done = nobody_left (next s e) (no_second_request_passes s z w e kind done)

-- In a state that is reached no waiting job's request passes at all, whatever event was the last.
pub no_waiting_request_passes : {t : State} → Reached t → (j : ℕ) → is_waiting t j ≡ true → passes t j ≡ false
no_waiting_request_passes {t} r j w = blocked_not_woken t (kept r).facts (kept r).invariant.blocked j w

pub nobody_to_wake : {t : State} → Reached t → wakeable t ≡ 0
nobody_to_wake {t} r = nobody_left t (no_waiting_request_passes r)

-- ---- ONE PROCESSOR
-- "Equality with it is claimed for one state, reached from a fresh one by any events, and one request of the job that
-- the only processor runs: the same grant or wait, the same named lock." A request is of kind 2, 3 or 7, and not refused, the fourth answer.
-- 02, CR 6: "The old rule's equality is for version 1 alone." 02, CR 8: "Answers equal the old rule's where no more urgent holder sleeps."
-- The condition is needed: in the state `slept`, which is reached, such a request is answered otherwise (`asleep_differs` in proofs/Example.antt).
pub one_processor : {t : State} → Reached t → t.counts.version ≡ 1 → t.counts.processors ≡ 1
    → (e : Event) → is_request e.kind ≡ true → value (rank_reply (ask_running t 0)) 0 0 ≡ e.rank → NoSleeperAbove t e.rank
    → (paper (outcome_of t e).answer).number ≢ 4
    → paper (outcome_of t e).answer ≡ paper (old_request t (mode_of e.kind) e.rank e.object).answer
one_processor {t} r first one e kind run above ok =
    ap (λ x. paper x.answer) (one_request t (kept r) first one e.kind e.rank e.object kind run above ok)

pub slept_reached : Reached slept
slept_reached = list_reached (read_table sleep_table).state (table_reached sleep_table sleep_answers.0) sleep_events 4

-- ---- SLEEPING CHANGES NO LOCK DECISION
-- 02, CR 8: of a sleeper, "its locks and inherited rank remain". Two states that differ only in who sleeps give an event that neither refuses the
-- same answer: a request is granted in both, or waits in both with the same named lock and reason, and the same job is woken, or nobody.
pub sleeping_decides_nothing : (s : State) (sleepers : ℕ) (e : Event)
    → (paper (outcome_of s e).answer).number ≢ 4 → (paper (outcome_of (with_sleepers s sleepers) e).answer).number ≢ 4
    → (outcome_of (with_sleepers s sleepers) e).answer ≡ (outcome_of s e).answer
sleeping_decides_nothing s sleepers e = answer_same s sleepers e.kind e.rank e.object

-- Where both are well formed, they give the same answers to the questions for a job's named lock and its inherited rank.
module _ (s : State) (sleepers : ℕ) (well : well_formed s ≡ true) (well_too : well_formed (with_sleepers s sleepers) ≡ true) where
  pub sleeping_names_nothing : (j : ℕ) → ask_named_lock (with_sleepers s sleepers) j ≡ ask_named_lock s j
  sleeping_names_nothing = named_lock_same s sleepers (well_too ∙ sym well)

  pub sleeping_inherits_nothing : (j : ℕ) → ask_inherited_rank (with_sleepers s sleepers) j ≡ ask_inherited_rank s j
  sleeping_inherits_nothing = inherited_rank_same s sleepers (well_too ∙ sym well)

-- ---- NOBODY IS ONE PAST THE LAST RANK
-- 02, CR 4, of any well-formed state, handed in or reached. The rule with 65 for nobody, which stood before, is in specs/NobodyAs65.antt:
pub nobody_was : ceiling65 0 ≡ 65
nobody_was = first_empty most_jobs

module _ (s : State) (sized : Sized s) (well : well_formed s ≡ true) where
  -- The question for an object of the table gives, first for the ranks that are declared to write it and then for all that are declared, the most
  -- urgent rank; and where there is none, "the job count plus one".
  pub ceilings_are : (o : ℕ) → is_object s o ≡ true
      → CeilingIs s.counts.jobs (declared s write o) (value (ceilings_reply (ask_ceilings s o)) 0 0)
      × CeilingIs s.counts.jobs (declared_any s o) (value (ceilings_reply (ask_ceilings s o)) 1 0)
  ceilings_are = ask_ceilings_are s (facts s sized well)

  -- "Grants, names and reasons are unchanged": an event of any kind or none has the answer and the next state of the rule with 65,
  pub nobody_event : (e : Event) → outcome_of s e ≡ step65 s e.kind e.rank e.object
  nobody_event e = step_same s (facts s sized well) e.kind e.rank e.object

  -- and so have the questions for a job's named lock, its inherited rank and the rank that a processor runs.
  pub nobody_named : (j : ℕ) → ask_named_lock s j ≡ ask_named_lock65 s j
  nobody_named = ask_named_same s (facts s sized well)

  pub nobody_inherited : (j : ℕ) → ask_inherited_rank s j ≡ ask_inherited_rank65 s j
  nobody_inherited = ask_inherited_same s (facts s sized well)

  pub nobody_running : (p : ℕ) → ask_running s p ≡ ask_running65 s p
  nobody_running = ask_running_same s (facts s sized well)

  -- So does, by the old rule, a request of a job of the table: the old rule is the one that it was, too.
  pub nobody_old : (m r o : ℕ) → r ≤ s.counts.jobs → old_request s m r o ≡ old_request65 s m r o
  nobody_old = old_request_same s (facts s sized well)

-- "A table of 64 jobs still gives 65.": its ceilings are those of the rule with 65.
pub sixty_four_jobs : (s : State) → s.counts.jobs ≡ most_jobs → (o : ℕ) → ask_ceilings s o ≡ ask_ceilings65 s o
sixty_four_jobs = ask_ceilings_64

-- ---- WRITE LOCKS STAY UNTIL THE END
-- 02, CR 1: "The trade's habit is to release writes when a run ends .. Unlock is for read locks from now on." CR 6: "A certified object ..,
-- like a write lock, can't be unlocked early".
-- Over any list of events from a fresh state, in words that are read off the events and their answers: a run that has been granted
-- a write or certify lock on an object holds one there at every later moment until the run's end.
pub write_locks_stay : (s : State) → Sized s → Fresh s → (es : List Event) → WriteLocksStay (label_at next label s es)
write_locks_stay s z f es = writes_stay_of next label view manages modes moves_modes s (fresh_facts z f) (fresh_view z f) es

-- And a lock that is held in these words is a write lock in the state, certified or not.
pub write_locks_shown : (s : State) → Sized s → Fresh s → (es : List Event) (j k o t : ℕ)
    → HoldsWrite (label_at next label s es) j k o t → holds (state_at next label s es t) write j o ≡ true
write_locks_shown s z f es j k o t h =
    mode_write (state_at next label s es t) j o
    (writes_shown_of next label view manages modes moves_modes s (fresh_facts z f) (fresh_view z f) es j k o t h)

-- One event, in any well-formed state, handed in or reached: each write lock of a job is among those after it, and a certify lock stays one,
-- unless the event ends the job's run.
pub write_locks_kept : (s : State) → Sized s → well_formed s ≡ true → (e : Event) (j o : ℕ)
    → ¬ Ends (label s e) j → holds s write j o ≡ true
    → (holds (next s e) write j o ≡ true) × (is_certified s o ≡ true → is_certified (next s e) o ≡ true)
write_locks_kept s z w e j o goes_on held =
    let writes = write_mode s j o held in
    let kept = write_kept (step_goes s (facts s z w) e.kind e.rank e.object).moves j o writes goes_on in
    (mode_write (next s e) j o (omega arith), λ c. mode_certify (next s e) j o (omega (arith, certify_mode s j o held c)))

-- ---- VERSION 2
-- 02, CR 6. A run that finishes has certified every write lock that it was granted: over any list of events from a fresh state of version 2,
-- in words that are read off the events and their answers (theory/specs/WriteLocks.antt).
pub finish_certified : (s : State) → Sized s → Fresh s → s.counts.version ≡ 2 → (es : List Event) → WritesCertified (label_at next label s es)
finish_certified s z f second es =
    writes_certified_of next label view (manages_version 2) modes (moves_version 2) (apart_version 2) refl s (fresh_facts z f, second) (fresh_view z f) es

-- A request of a job more urgent than every declared writer of an object is never held up by a write lock on that object: in any well-formed state
-- of version 2, handed in or reached, a write lock that holds it up, h's on object o, is certified.
module _ (s : State) (sized : Sized s) (well : well_formed s ≡ true) (second : s.counts.version ≡ 2) where
  -- The request is answered waits, the second answer, with holder h, object o and some reason.
  pub writers_hold_nobody_up : (e : Event) → is_request e.kind ≡ true → (h o n : ℕ)
      → paper (outcome_of s e).answer ≡ record { number = 2; values = h ∷ o ∷ n ∷ [] }
      → AboveWriters s e.rank o → holds s write h o ≡ true → is_certified s o ≡ true
  writers_hold_nobody_up e kind h o n answer above held =
      answer_certified s (facts s sized well) second e.rank h o above held e.kind e.object n kind answer

  -- So it is as long as it waits: the question for the named lock of job j gives h and o.
  pub writers_keep_nobody_waiting : (j h o : ℕ) → is_waiting s j ≡ true → named_reply (ask_named_lock s j) ≡ told (h ∷ o ∷ [])
      → AboveWriters s j o → holds s write h o ≡ true → is_certified s o ≡ true
  writers_keep_nobody_waiting j h o waits reply above held =
      named_certified s (facts s sized well) second j h o above held (eqb-false (request_of s j) 0 (not-true (eqb (request_of s j) 0) waits)) reply

-- ---- FINISHED RUNS AS IF ONE BY ONE
-- 02, CR 7: "Wanted, for any events from a fresh state: of two finished runs granted conflicting locks on one object, exactly one has an arrow
-- to the other; following arrows never leads back; and ordering the runs that were granted a lock by their last grant agrees with every arrow."
-- In words that are read off the events and their answers (theory/specs/Arrows.antt), with the conflicting locks of the table's version.
module _ (s : State) (sized : Sized s) (start : Fresh s) (es : List Event) where
  pub one_by_one : OneByOne (label_at next label s es) s.counts.version
  one_by_one = (in_order s sized start es).one_by_one

  -- So there is one order of the finished runs such that of any two that conflict the earlier one released before the later one was granted.
  pub one_order : OneOrder (label_at next label s es) s.counts.version
  one_order = (in_order s sized start es).one_order

  -- It is so because conflicting locks on one object are never held together, and no run is granted a lock once it has released one:
  -- two facts of any run, finished or not.
  pub never_together : NeverTogether (label_at next label s es) s.counts.version
  never_together = (in_order s sized start es).never_together

  pub grants_first : GrantsFirst (label_at next label s es)
  grants_first = (in_order s sized start es).grants_first

-- The reader returns such a state for each table that it accepts, and its version is the table's.
pub table_one_by_one : (b : List ℕ) → (read_table b).refusal ≡ 0 → (es : List Event)
    → OneByOne (label_at next label (read_table b).state es) (version_in b)
table_one_by_one b ok es =
    subst (OneByOne (label_at next label (read_table b).state es)) (read_version b ok)
    (one_by_one (read_table b).state (read_sized b ok) (read_fresh b ok) es)
