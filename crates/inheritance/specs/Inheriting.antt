-- Inherited ranks and the running job by the lock that each rank names: the array of the named locks, once made, answers for all jobs and processors.
-- Then that these are the inherited ranks and the running job of the state with those named locks.
-- Assumes nothing.
use Rattle.std.specs.Prelude.{◌≡◌, refl, Bool, true, false, ◌&&◌, List, ℕ, ◌+◌, ◌*◌, ◌%◌, ◌≤◌, if◌then◌else◌}
use Rattle.std.proofs.Math.Path.{sym, ap, ap₂}
use Rattle.std.proofs.Common.{◌∙◌, arith, ne_eqb}
use Rattle.std.proofs.Math.Bool.{not}
use Rattle.std.proofs.Math.Dec.{eqb}
use Rattle.basics.specs.Arrays.{at, FilledTo}
use Rattle.basics.specs.Choice.{inside_between}
use Rattle.basics.specs.Loops.{least, least_same}
use Rattle.ranks.specs.Ranks.{member, minus}
use Rattle.ranks.specs.RankLaws.{member-minus}
use Rattle.state.specs.declared.State.{State}
use Rattle.state.specs.State.{processor_of_job, is_waiting}
use Rattle.weights.specs.Keys.{no_key, key_holder, key_object}
use Rattle.rule.specs.Granting.{named_key, named_holder_of, named_object_of}
use Rattle.inheritance.specs.Running.{inherited_from, inherited_rank, ready_key, running_rank}

-- each job's element is the lock that it names, by its key without the weight; those behind the last job are 0
abbrev pub NamedBy : List ℕ → State → Type 0
NamedBy named s = FilledTo named s.counts.jobs (λ r. named_key s r % 65536)

-- r if it names j, else j
abbrev pub heir : ℕ → ℕ → ℕ → ℕ
heir named j r = if eqb named j then r else j

unfoldable pub inherited_by : ℕ → List ℕ → ℕ → ℕ
inherited_by jobs named j = least jobs j (λ r. heir (key_holder (at named r)) j r)

-- r, with its own processor and request, is a job of processor p that is awake and isn't waiting
abbrev pub ready_by : ℕ → ℕ → ℕ → ℕ → ℕ → Bool
ready_by own p awake request r = eqb own p && member awake r && not (not (eqb request 0))

abbrev pub ready_key_by : ℕ → List ℕ → Bool → ℕ → ℕ
ready_key_by jobs named ready r = if ready then inherited_by jobs named r * 256 + r else no_key

unfoldable pub running_by : ℕ → List ℕ → List ℕ → ℕ → List ℕ → ℕ → ℕ
running_by jobs named processor_of_job awake request p =
    least jobs no_key (λ r. ready_key_by jobs named (ready_by (at processor_of_job r) p awake (at request r) r) r) % 256

-- ---- of a state with these named locks

-- the active jobs that are not asleep
abbrev pub awake_jobs : State → ℕ
awake_jobs s = minus s.active s.sleeping

-- a job that doesn't wait names nobody, so it is enough to ask whom a job names
names_waiting : (s : State) (j r : ℕ) → 1 ≤ j → inherited_from s j r ≡ heir (named_holder_of s r) j r
unfolding named_key
names_waiting s j r p = go (is_waiting s r) refl
  where
    go : (w : Bool) → is_waiting s r ≡ w → inherited_from s j r ≡ heir (named_holder_of s r) j r
    go true e = rw e
    go false e = let none : eqb 0 j ≡ false = ne_eqb 0 j (λ z. omega arith) in rw (e, none)

module _ (named : List ℕ) (s : State) (by : NamedBy named s) where
  lock_by : (r : ℕ) → 1 ≤ r → r ≤ s.counts.jobs → at named r ≡ named_key s r % 65536
  lock_by r a b = by r ∙ simp (inside_between 1 s.counts.jobs r a b)

  pub named_holder_by : (r : ℕ) → 1 ≤ r → r ≤ s.counts.jobs → key_holder (at named r) ≡ named_holder_of s r
  named_holder_by r a b = let lock = lock_by r a b in omega arith

  pub named_object_by : (r : ℕ) → 1 ≤ r → r ≤ s.counts.jobs → key_object (at named r) ≡ named_object_of s r
  named_object_by r a b = let lock = lock_by r a b in omega arith

  pub inherited_by_lem : (j : ℕ) → 1 ≤ j → inherited_by s.counts.jobs named j ≡ inherited_rank s j
  unfolding inherited_by inherited_rank
  inherited_by_lem j p =
      least_same s.counts.jobs j (λ r. heir (key_holder (at named r)) j r) (inherited_from s j)
      (λ r a b. ap (λ (n : ℕ). heir n j r) (named_holder_by r a b) ∙ sym (names_waiting s j r p))

  pub running_by_lem : (p : ℕ) → running_by s.counts.jobs named s.processor_of (awake_jobs s) s.request p ≡ running_rank s p
  unfolding running_by running_rank
  running_by_lem p =
      ap (λ (n : ℕ). n % 256)
      (least_same s.counts.jobs no_key _ (ready_key s p)
      (λ r a b. ap₂ (λ (t : Bool) (n : ℕ). if eqb (processor_of_job s r) p && t && not (is_waiting s r) then n * 256 + r else no_key)
      (member-minus s.active s.sleeping r) (inherited_by_lem r a)))
