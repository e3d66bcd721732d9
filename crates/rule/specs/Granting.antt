-- Who is granted a lock, whom a waiting job names and why, who is woken (01, "Granting, naming, waking").
-- Assumes nothing.
use Rattle.std.specs.Prelude.{ℕ, Bool, not, ◌&&◌, ◌||◌, eqb, ltb, if◌then◌else◌}
use Rattle.basics.specs.Choice.{◌if◌else◌}
use Rattle.basics.specs.Loops.{first_nonzero}
use Rattle.ranks.specs.Ranks.{member}
use Rattle.state.specs.declared.State.{State}
use Rattle.state.specs.State.{write, strongest, holders, shares_with_none, request_of, is_waiting}
use Rattle.state.specs.Weights.{write_ceiling_of}
use Rattle.weights.specs.Keys.{no_key, key_weight, key_holder, key_object, lowest_key, old_lowest_key}

-- "A request is granted if the requester's rank is more urgent than the weight of every lock held by others."
abbrev pub passes_below : ℕ → ℕ → Bool
passes_below j key = ltb j (key_weight key)

abbrev pub passes : State → ℕ → Bool
passes s j = passes_below j (lowest_key s j)

abbrev pub old_passes : State → ℕ → Bool
old_passes s j = passes_below j (old_lowest_key s j)

-- "It names the lock of another job with the most urgent weight"; "a waiting job whose request would pass names nobody":
-- of j's request and the lowest key among the locks of others
abbrev pub named_key_of : ℕ → ℕ → ℕ → ℕ
named_key_of request key j = if not (eqb request 0) && not (passes_below j key) then key else no_key

unfoldable pub named_key : State → ℕ → ℕ
named_key s j = named_key_of (request_of s j) (lowest_key s j) j

-- the named rank and object, 0 and 0 if j names nobody
abbrev pub named_holder_of : State → ℕ → ℕ
named_holder_of s j = key_holder (named_key s j)

abbrev pub named_object_of : State → ℕ → ℕ
named_object_of s j = key_object (named_key s j)

-- a request in mode m conflicts with a lock on its object that is a read lock or a write lock, which shares with none or not. Version 1: "either is a write".
-- Version 2: "Conflict, for the reason, follows 004's table 1", where a read request meets a certify lock, a write request a write or certify lock, a certify
-- request any lock. In both a request in the version's strongest mode meets any lock, and any request a write lock that shares with none.
abbrev pub conflicts : (version m : ℕ) (written none : Bool) → Bool
conflicts version m written none = eqb m (strongest version) || (written && (eqb m write || none))

-- why a request for o in mode m waits for the lock that h holds on p, whose writers and write ceiling are given, and whether a write lock there shares with
-- none: "1 conflict, if the named lock is on the requested object and" conflicts; "else 3 cap, if it is a read lock whose holder is more urgent than the
-- write ceiling; else 2 ceiling"
abbrev pub reason_of : ℕ → ℕ → ℕ → ℕ → ℕ → Bool → ℕ → ℕ → ℕ
reason_of version m o h p none writers ceiling =
    1 if eqb p o && conflicts version m (member writers h) none else
    3 if not (member writers h) && ltb h ceiling else
    2

unfoldable pub reason : State → ℕ → ℕ → ℕ → ℕ → ℕ
reason s m o h p = reason_of s.counts.version m o h p (shares_with_none s p) (holders s write p) (write_ceiling_of s p)

-- j, if it waits and its request passes; else 0
abbrev pub wakes : State → ℕ → ℕ
wakes s j = if is_waiting s j && passes s j then j else 0

-- "the waiting jobs are searched from the most urgent on, and the search stops with the first whose request passes": that rank, or 0
unfoldable pub wakeable : State → ℕ
wakeable s = first_nonzero s.counts.jobs (wakes s)
