-- Well-formed states: refusal 8 of document 01, one definition for each of its clauses, in its order, with what CR 6, CR 8 and CR 9 of document 02 make of them
-- and add.
-- Assumes nothing.
use Rattle.std.specs.Prelude.{ℕ, ◌^◌, Bool, not, ◌&&◌, ◌||◌, eqb, ltb}
use Rattle.basics.specs.Choice.{between}
use Rattle.basics.specs.Loops.{every}
use Rattle.ranks.specs.Ranks.{is_empty, subset, disjoint, at_most_one}
use Rattle.state.specs.declared.Counts.{Counts}
use Rattle.state.specs.declared.State.{State}
use Rattle.state.specs.State.{most_jobs, most_objects, most_processors, read, write, certify, is_version, strongest, is_object, processor_of_job, declared, declared_any, may_lock}
use Rattle.state.specs.Weights.{weight}
use Rattle.state.specs.State.{holders, holders_any, holds, most_urgent_holder, is_holder, is_certified, shares_with_none, holds_already, is_active, has_unlocked, is_sleeping, is_waiting, requested_mode, requested_object}

-- "A table has 1 to 64 jobs, 1 to 8 processors and 1 to 128 objects."
abbrev pub counts_within : Counts → Bool
counts_within c = between 1 most_processors c.processors && between 1 most_jobs c.jobs && between 1 most_objects c.objects

-- "counts .. within limits"
abbrev pub counts_fit : State → Bool
counts_fit s = counts_within s.counts

-- the processor of rank r is one of the table's
abbrev pub processor_fits : State → ℕ → Bool
processor_fits s r = ltb (processor_of_job s r) s.counts.processors

-- "processors .. within limits"
unfoldable pub processors_fit : State → Bool
processors_fit s = every s.counts.jobs (processor_fits s)

-- nothing is declared for an object that the table does not have
abbrev pub declaration_fits : State → ℕ → Bool
declaration_fits s o = is_object s o || is_empty (declared_any s o)

-- "declarations within limits"
unfoldable pub declarations_fit : State → Bool
declarations_fit s = every most_objects (declaration_fits s)

-- the set has no rank above the job count
abbrev pub of_jobs : State → ℕ → Bool
of_jobs s set = ltb set (2 ^ s.counts.jobs)

abbrev pub declared_of_jobs : State → ℕ → Bool
declared_of_jobs s o = of_jobs s (declared_any s o)

-- "ranks above the job count idle, with nothing declared"
unfoldable pub above_idle : State → Bool
above_idle s = of_jobs s s.active && every most_objects (declared_of_jobs s)

-- the holders of object o are active
abbrev pub held_by_active : State → ℕ → Bool
held_by_active s o = subset (holders_any s o) s.active

-- the holders of object o have the right to their locks
abbrev pub held_by_right : State → ℕ → Bool
held_by_right s o = subset (holders s read o) (declared s read o) && subset (holders s write o) (declared s write o)

-- "locks only of active jobs with that right"
unfoldable pub locks_fit : State → Bool
locks_fit s = every most_objects (held_by_active s) && every most_objects (held_by_right s)

abbrev pub locked_once : State → ℕ → Bool
locked_once s o = disjoint (holders s read o) (holders s write o)

-- "at most one lock per job and object"
unfoldable pub one_lock_each : State → Bool
one_lock_each s = every most_objects (locked_once s)

-- of object o's readers and writers: there is at most one writer, and no reader where there is one that shares with none
abbrev pub alone : Bool → ℕ → ℕ → Bool
alone none readers writers = at_most_one writers && (is_empty writers || (not none || is_empty readers))

abbrev pub written_alone : State → ℕ → Bool
written_alone s o = alone (shares_with_none s o) (holders s read o) (holders s write o)

-- "a write lock shares its object with no other"; "of version 2 a write lock may share its object with others' read locks, a certify lock with none"
unfoldable pub writers_alone : State → Bool
writers_alone s = every most_objects (written_alone s)

-- "a job waiting to certify holds the write lock"
abbrev pub holds_before : State → ℕ → ℕ → ℕ → Bool
holds_before s m r o = not (eqb m certify) || holds s write r o

-- r is active, has not unlocked, and may be waiting for the lock on o in mode m, one of the version's: it is declared, and 17 would not refuse it;
-- "Not well formed are .. one of version 1 with a certify .. request"
abbrev pub may_await : State → ℕ → ℕ → ℕ → Bool
may_await s m r o =
    between read (strongest s.counts.version) m && is_object s o && is_active s r && not (has_unlocked s r) && may_lock s m r o && not (holds_already s m r o)
    && holds_before s m r o

abbrev pub wait_fits : State → ℕ → Bool
wait_fits s r = not (is_waiting s r) || may_await s (requested_mode s r) r (requested_object s r)

-- "a waiting job is active, hasn't unlocked, and asks for a declared lock that 17 wouldn't refuse"
unfoldable pub waits_fit : State → Bool
waits_fit s = every most_jobs (wait_fits s)

-- "an idle job carries no mark of unlocking"
unfoldable pub marks_fit : State → Bool
marks_fit s = subset s.unlocked s.active

-- "Not well formed are a state of a version that 3 refuses"
abbrev pub version_fits : State → Bool
version_fits s = is_version s.counts.version

-- object o is certified in version 2 alone, and only where it is written: a certify lock is a write lock with a mark
abbrev pub certify_fits : State → ℕ → Bool
certify_fits s o = not (is_certified s o) || (eqb s.counts.version 2 && not (is_empty (holders s write o)))

-- "and one of version 1 with a certify lock"
unfoldable pub certifies_fit : State → Bool
certifies_fit s = every most_objects (certify_fits s)

-- r does not sleep while it waits
abbrev pub waits_awake : State → ℕ → Bool
waits_awake s r = not (is_waiting s r && is_sleeping s r)

-- 02, CR 8: the sleeping mark "is clear for idle and waiting jobs, also in the rules of a well-formed state"
unfoldable pub sleepers_fit : State → Bool
sleepers_fit s = subset s.sleeping s.active && every most_jobs (waits_awake s)

-- 02, CR 9: "the carried rank is true": it is the most urgent holder's, 0 if there is none
unfoldable pub holder_fits : State → Bool
holder_fits s = eqb s.holder (most_urgent_holder s.readers s.writers)

-- rank a is more urgent than the weight of the lock that b holds on o in mode m, if it holds it
abbrev pub above_lock : State → ℕ → ℕ → ℕ → ℕ → Bool
above_lock s a b m o = not (holds s m b o) || ltb a (weight s m b o)

-- rank a is more urgent than every weight that b holds
abbrev pub above_locks : State → ℕ → ℕ → Bool
above_locks s a b = every s.counts.objects (λ o. above_lock s a b read o && above_lock s a b write o)

-- where a and b are holders and a is the more urgent, it is more urgent than every weight that b holds
abbrev pub in_order : State → ℕ → ℕ → Bool
in_order s a b = not (is_holder s a && is_holder s b && ltb a b) || above_locks s a b

-- "of two holders the more urgent one is more urgent than every weight the other holds"
unfoldable pub holders_in_order : State → Bool
holders_in_order s = every s.counts.jobs (λ b. every s.counts.jobs (λ a. in_order s a b))

-- 8: "the state handed in isn't well formed"
unfoldable pub well_formed : State → Bool
well_formed s =
    counts_fit s && processors_fit s && declarations_fit s && above_idle s && locks_fit s && one_lock_each s && writers_alone s && waits_fit s && marks_fit s
    && version_fits s && certifies_fit s && sleepers_fit s && holder_fits s && holders_in_order s
