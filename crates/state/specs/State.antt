-- What a state says, and its changes: the definitions that alone know the layout of the record `State`.
-- Assumes nothing.
use Rattle.std.specs.Prelude.{ℕ, zero, suc, ◌+◌, ◌*◌, ◌/◌, ◌%◌, Bool, not, ◌&&◌, ◌||◌, List, [], ◌∷◌, eqb, replicate, if◌then◌else◌}
use Rattle.basics.specs.Choice.{between}
use Rattle.basics.specs.Arrays.{at, put, mapped}
use Rattle.ranks.specs.Ranks.{member, with, without, union, most_urgent, unions}
use Rattle.state.specs.declared.Counts.{Counts}
use Rattle.state.specs.declared.State.{State}

-- 01: "A table has 1 to 64 jobs, 1 to 8 processors and 1 to 128 objects."
abbrev pub most_jobs : ℕ
most_jobs = 64

abbrev pub most_objects : ℕ
most_objects = 128

abbrev pub most_processors : ℕ
most_processors = 8

-- modes of a lock: 1 read, 2 write, 3 certify
abbrev pub read : ℕ
read = 1

abbrev pub write : ℕ
write = 2

abbrev pub certify : ℕ
certify = 3

-- 02, CR 6: "3 now means neither 1 nor 2"
abbrev pub is_version : ℕ → Bool
is_version v = between 1 2 v

-- the strongest mode of a version: write in version 1, certify in version 2
abbrev pub strongest : ℕ → ℕ
strongest v = v + 1

-- ---- sets of objects: object o is at its place in one of two words, 64 objects to a word

abbrev pub mark_words : ℕ
mark_words = 2

abbrev pub word_of : ℕ → ℕ
word_of o = (o + 63) / 64

abbrev pub place_of : ℕ → ℕ
place_of o = (o + 63) % 64 + 1

abbrev pub marked : List ℕ → ℕ → Bool
marked words o = member (at words (word_of o)) (place_of o)

unfoldable pub mark : ℕ → List ℕ → List ℕ
mark o words = put words (word_of o) (with (at words (word_of o)) (place_of o))

-- ---- the table

abbrev pub is_rank : State → ℕ → Bool
is_rank s r = between 1 s.counts.jobs r

abbrev pub is_object : State → ℕ → Bool
is_object s o = between 1 s.counts.objects o

abbrev pub processor_of_job : State → ℕ → ℕ
processor_of_job s r = at s.processor_of r

-- of two sets, that of the mode: a certify lock is a write lock with a mark, and who may write may certify
abbrev pub of_mode : ℕ → ℕ → ℕ → ℕ
of_mode m reading writing = if eqb m read then reading else writing

-- the ranks that are declared to lock object o in a mode
abbrev pub declared : State → ℕ → ℕ → ℕ
declared s m o = of_mode m (at s.may_read o) (at s.may_write o)

-- the ranks that are declared to read or write object o
abbrev pub declared_any : State → ℕ → ℕ
declared_any s o = union (declared s read o) (declared s write o)

abbrev pub may_lock : State → ℕ → ℕ → ℕ → Bool
may_lock s m r o = member (declared s m o) r

-- ---- the locks

-- the ranks that hold object o in a mode; who has certified it is one that writes it
abbrev pub holders : State → ℕ → ℕ → ℕ
holders s m o = of_mode m (at s.readers o) (at s.writers o)

-- the ranks that hold a lock of either mode on object o
abbrev pub holders_any : State → ℕ → ℕ
holders_any s o = union (holders s read o) (holders s write o)

abbrev pub holds : State → ℕ → ℕ → ℕ → Bool
holds s m r o = member (holders s m o) r

abbrev pub holds_any : State → ℕ → ℕ → Bool
holds_any s r o = holds s read r o || holds s write r o

-- the ranks that hold a lock on any object, by the objects' readers and writers
unfoldable pub all_holders : List ℕ → List ℕ → ℕ
all_holders rs ws = unions most_objects (λ o. union (at rs o) (at ws o))

-- 02, CR 9: "the most urgent holder, 0 if none"
abbrev pub most_urgent_holder : List ℕ → List ℕ → ℕ
most_urgent_holder rs ws = most_urgent (all_holders rs ws)

-- r holds a lock on some object
abbrev pub is_holder : State → ℕ → Bool
is_holder s r = member (all_holders s.readers s.writers) r

-- the write lock on object o is a certify lock
abbrev pub is_certified : State → ℕ → Bool
is_certified s o = marked s.certified o

-- a write lock on object o shares the object with no other. 01: "a write lock shares its object with no other";
-- 02, CR 6: "In a well-formed state of version 2 a write lock may share its object with others' read locks, a certify lock with none"
abbrev pub shares_with_none : State → ℕ → Bool
shares_with_none s o = eqb s.counts.version 1 || is_certified s o

-- refusal 17: "that lock or the write lock already held". 02, CR 6: "A certified object counts as held for 17", as its holder is among the writers;
-- "for event 7, 17 means an object already certified and nothing else"
abbrev pub already_in : ℕ → ℕ → ℕ → ℕ → Bool → Bool
already_in m r readers writers certified =
    if eqb m certify then member writers r && certified else (member (of_mode m readers writers) r || member writers r)

abbrev pub holds_already : State → ℕ → ℕ → ℕ → Bool
holds_already s m r o = already_in m r (holders s read o) (holders s write o) (is_certified s o)

-- ---- the jobs

abbrev pub is_active : State → ℕ → Bool
is_active s r = member s.active r

-- r carries the mark of unlocking: it has unlocked in its run
abbrev pub has_unlocked : State → ℕ → Bool
has_unlocked s r = member s.unlocked r

-- r carries the sleeping mark: it is asleep
abbrev pub is_sleeping : State → ℕ → Bool
is_sleeping s r = member s.sleeping r

-- the request that r waits for, as mode * 256 + object; 0 if it does not wait
abbrev pub request_of : State → ℕ → ℕ
request_of s r = at s.request r

abbrev pub request_for : ℕ → ℕ → ℕ
request_for m o = m * 256 + o

abbrev pub mode_of_request : ℕ → ℕ
mode_of_request request = request / 256

abbrev pub object_of_request : ℕ → ℕ
object_of_request request = request % 256

abbrev pub is_waiting : State → ℕ → Bool
is_waiting s r = not (eqb (request_of s r) 0)

abbrev pub requested_mode : State → ℕ → ℕ
requested_mode s r = mode_of_request (request_of s r)

abbrev pub requested_object : State → ℕ → ℕ
requested_object s r = object_of_request (request_of s r)

-- ---- a state from its parts

abbrev pub counts_of : (version processors jobs objects : ℕ) → Counts
counts_of v p j o = record { version = v; processors = p; jobs = j; objects = o }

abbrev pub state_of : Counts → List ℕ → List ℕ → List ℕ → ℕ → ℕ → ℕ → ℕ → List ℕ → List ℕ → List ℕ → List ℕ → State
state_of c ps mr mw a u z h rs ws cs q = record {
  counts = c;
  processor_of = ps;
  may_read = mr;
  may_write = mw;
  active = a;
  unlocked = u;
  sleeping = z;
  holder = h;
  readers = rs;
  writers = ws;
  certified = cs;
  request = q;
}

abbrev pub zeros : ℕ → List ℕ
zeros n = replicate n 0

-- 01, Table bytes: "A fresh state has all 128 objects unlocked and every job idle."
abbrev pub fresh_state : Counts → List ℕ → List ℕ → List ℕ → State
fresh_state c ps mr mw = state_of c ps mr mw 0 0 0 0 (zeros most_objects) (zeros most_objects) (zeros mark_words) (zeros most_jobs)

-- 01, Refusals: a state "whose numbers are all 0"
abbrev pub zero_state : State
zero_state = fresh_state (counts_of 0 0 0 0) (zeros most_jobs) (zeros most_objects) (zeros most_objects)

-- the same table with these active jobs, marks of unlocking, sleepers, most urgent holder, readers, writers, certified objects and requests
abbrev pub with_locks : State → ℕ → ℕ → ℕ → ℕ → List ℕ → List ℕ → List ℕ → List ℕ → State
with_locks s a u z h rs ws cs q = state_of s.counts s.processor_of s.may_read s.may_write a u z h rs ws cs q

-- the same where locks have been given or given up: the most urgent holder is that of the locks as they are now
abbrev pub relocked : State → ℕ → ℕ → ℕ → List ℕ → List ℕ → List ℕ → List ℕ → State
relocked s a u z rs ws cs q = with_locks s a u z (most_urgent_holder rs ws) rs ws cs q

-- ---- changes

-- r becomes active
unfoldable pub activate : State → ℕ → State
activate s r = with_locks s (with s.active r) s.unlocked s.sleeping s.holder s.readers s.writers s.certified s.request

-- r waits for a lock
unfoldable pub await : State → ℕ → ℕ → ℕ → State
await s m r o = with_locks s s.active s.unlocked s.sleeping s.holder s.readers s.writers s.certified (put s.request r (request_for m o))

-- what a grant to r in mode m on o makes of the sets of readers, and of the sets of writers
abbrev pub grant_readers : ℕ → ℕ → ℕ → List ℕ → List ℕ
grant_readers m r o sets = put sets o (if eqb m read then with (at sets o) r else without (at sets o) r)

abbrev pub grant_writers : ℕ → ℕ → ℕ → List ℕ → List ℕ
grant_writers m r o sets = if eqb m read then sets else put sets o (with (at sets o) r)

-- and of the certified objects
abbrev pub grant_marks : ℕ → ℕ → List ℕ → List ℕ
grant_marks m o words = if eqb m certify then mark o words else words

-- r gets a lock and waits no longer; a write lock replaces its read lock, a certify lock its write lock
unfoldable pub grant : State → ℕ → ℕ → ℕ → State
grant s m r o =
    relocked s s.active s.unlocked s.sleeping (grant_readers m r o s.readers) (grant_writers m r o s.writers) (grant_marks m o s.certified)
    (put s.request r 0)

-- what r's unlock of o makes of the sets of readers
abbrev pub release_readers : ℕ → ℕ → List ℕ → List ℕ
release_readers r o sets = put sets o (without (at sets o) r)

-- r gives up its read lock on o, and is marked; the writers are neither looked at nor changed
unfoldable pub release : State → ℕ → ℕ → State
release s r o = relocked s s.active (with s.unlocked r) s.sleeping (release_readers r o s.readers) s.writers s.certified s.request

-- r taken out of every set
abbrev pub release_sets : ℕ → List ℕ → List ℕ
release_sets r sets = mapped (λ v. without v r) most_objects sets

-- a word of a set of objects, whose places stand behind an index, without those of its first n that r writes
unfoldable pub kept_in : ℕ → List ℕ → ℕ → ℕ → ℕ → ℕ
kept_in r writers from zero word = word
kept_in r writers from (suc n) word =
    if member (at writers (from + suc n)) r then without (kept_in r writers from n word) (suc n) else kept_in r writers from n word

-- the objects that r writes are certified no more
unfoldable pub drop_marks : ℕ → List ℕ → List ℕ → List ℕ
drop_marks r writers words = kept_in r writers 0 64 (at words 1) ∷ kept_in r writers 64 64 (at words 2) ∷ []

-- the same with these sleepers
abbrev pub with_sleepers : State → ℕ → State
with_sleepers s z = with_locks s s.active s.unlocked z s.holder s.readers s.writers s.certified s.request

-- r falls asleep: 02, CR 8: "a sleeping mark, set by event 8"
unfoldable pub fall_asleep : State → ℕ → State
fall_asleep s r = with_sleepers s (with s.sleeping r)

-- r sleeps no longer: "and cleared by event 9"
unfoldable pub awaken : State → ℕ → State
awaken s r = with_sleepers s (without s.sleeping r)

-- r's run ends: it is idle, unmarked, awake, holds nothing and waits for nothing
unfoldable pub end_run : State → ℕ → State
end_run s r =
    relocked s (without s.active r) (without s.unlocked r) (without s.sleeping r) (release_sets r s.readers) (release_sets r s.writers)
    (drop_marks r s.writers s.certified) (put s.request r 0)
