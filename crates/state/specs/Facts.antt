-- What a well-formed state says of each job and object, by members of its sets: the record `Facts`, with the mode of a lock as an argument.
-- WellFormedFacts shows that it says the same as the test `well_formed`.
-- Assumes nothing.
use Rattle.std.specs.Prelude.{◌≡◌, ◌≢◌, Bool, true, false, ℕ, ◌^◌, ◌≤◌, ◌<◌, length}
use Rattle.ranks.specs.Ranks.{member}
use Rattle.state.specs.declared.State.{State}
use Rattle.state.specs.State.{most_jobs, most_objects, mark_words, read, write, certify, strongest, is_object, processor_of_job, declared, holders, most_urgent_holder, is_certified, shares_with_none, holds_already}
use Rattle.state.specs.Weights.{weight}
use Rattle.state.specs.State.{has_unlocked, is_sleeping, request_of, requested_mode, requested_object}
use Rattle.state.specs.Clauses.{Within}

-- the lengths that the arrays of the code's record always have
pub record Sized (s : State) : Type 0 where
  pub processor_of : length s.processor_of ≡ most_jobs
  pub may_read : length s.may_read ≡ most_objects
  pub may_write : length s.may_write ≡ most_objects
  pub readers : length s.readers ≡ most_objects
  pub writers : length s.writers ≡ most_objects
  pub certified : length s.certified ≡ mark_words
  pub request : length s.request ≡ most_jobs

-- rank r is in the set
abbrev pub In : ℕ → ℕ → Type 0
In set r = member set r ≡ true

-- at most one write lock on an object; where it shares with none, no read lock beside it
abbrev pub Alone : (none : Bool) (readers writers : ℕ) → Type 0
Alone none readers writers = (a b : ℕ) → In writers a → (In writers b → a ≡ b) × (none ≡ true → In readers b → ⊥)

-- "locks only of active jobs with that right; at most one lock per job and object; a write lock shares its object with no other", as the version has it: of object o
pub record LockFacts (s : State) (o : ℕ) : Type 0 where
  pub jobs : (m : ℕ) → holders s m o < 2 ^ s.counts.jobs
  pub active : (m r : ℕ) → In (holders s m o) r → In s.active r
  pub right : (m r : ℕ) → In (holders s m o) r → In (declared s m o) r
  pub once : (r : ℕ) → In (holders s read o) r → In (holders s write o) r → ⊥
  pub alone : Alone (shares_with_none s o) (holders s read o) (holders s write o)
  -- a certify lock is a write lock of version 2
  pub certified : is_certified s o ≡ true → (s.counts.version ≡ 2) × ((r : ℕ) × In (holders s write o) r)

-- "a waiting job is active, hasn't unlocked, and asks for a declared lock that 17 wouldn't refuse", and isn't asleep: of rank r and the lock on o in mode m
pub record RequestFacts (s : State) (m r o : ℕ) : Type 0 where
  pub mode : (read ≤ m) × (m ≤ strongest s.counts.version)
  pub object : (1 ≤ o) × (o ≤ s.counts.objects)
  pub active : In s.active r
  pub not_unlocked : has_unlocked s r ≡ false
  -- "The mark is clear for .. waiting jobs"
  pub awake : is_sleeping s r ≡ false
  pub right : In (declared s m o) r
  pub new : holds_already s m r o ≡ false
  -- "a job waiting to certify holds the write lock"
  pub before : m ≡ certify → In (holders s write o) r

-- "of two holders the more urgent one is more urgent than every weight the other holds": a holds p, and b, which is less urgent, o
abbrev pub InOrder : State → Type 0
InOrder s = (a n p b m o : ℕ) → In (holders s n p) a → In (holders s m o) b → a < b → a < weight s m b o

pub record Facts (s : State) : Type 0 where
  pub sized : Sized s
  -- "counts, processors and declarations within limits"
  pub counts : Within s.counts
  pub processors : (r : ℕ) → 1 ≤ r → r ≤ s.counts.jobs → processor_of_job s r < s.counts.processors
  pub declared_objects : (m o : ℕ) → is_object s o ≡ false → declared s m o ≡ 0
  -- "ranks above the job count idle, with nothing declared"
  pub declared_jobs : (m o : ℕ) → declared s m o < 2 ^ s.counts.jobs
  pub active_jobs : s.active < 2 ^ s.counts.jobs
  pub locks : (o : ℕ) → LockFacts s o
  pub requests : (r : ℕ) → request_of s r ≢ 0 → RequestFacts s (requested_mode s r) r (requested_object s r)
  -- "an idle job carries no mark of unlocking"
  pub marks : (r : ℕ) → In s.unlocked r → In s.active r
  pub marks_jobs : s.unlocked < 2 ^ s.counts.jobs
  -- the sleeping mark "is clear for idle .. jobs"
  pub sleepers : (r : ℕ) → In s.sleeping r → In s.active r
  pub sleepers_jobs : s.sleeping < 2 ^ s.counts.jobs
  pub version : (1 ≤ s.counts.version) × (s.counts.version ≤ 2)
  -- 02, CR 9: "the carried rank is true"
  pub carried : s.holder ≡ most_urgent_holder s.readers s.writers
  pub order : InOrder s
