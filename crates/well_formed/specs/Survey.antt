-- What the code gathers for the test of a state: of one object, of many objects together, of those outside the table, of the certified objects, and of one request.
-- Assumes nothing.
use Rattle.std.specs.Prelude.{ℕ, ◌+◌, ◌*◌, ◌/◌, ◌≡◌, Bool, true, false, not, ◌&&◌, ◌||◌, eqb, if◌then◌else◌}
use Rattle.basics.specs.Loops.{every}
use Rattle.basics.specs.Arrays.{at}
use Rattle.ranks.specs.Ranks.{is_empty, member, union, minus, but_first, subset, disjoint, at_most_one, before, unions}
use Rattle.state.specs.declared.State.{State}
use Rattle.state.specs.State.{certify, of_mode, declared_any, holders_any, is_certified, shares_with_none, already_in, with_locks}
use Rattle.state.specs.WellFormed.{alone}
use Rattle.state.specs.WeightLaws.{weighing_of}
use Rattle.well_formed.specs.declared.locks.Survey.{Survey}

-- of one object, by its sets: a write lock is alone; where write locks may be shared, there is at most one, and its holder does not read
abbrev pub apart : (none : Bool) (readers writers : ℕ) → Bool
apart none readers writers = if none then alone true readers writers else (disjoint readers writers && at_most_one writers)

-- and the locks have their rights
abbrev pub in_order : (none : Bool) (may_read may_write readers writers : ℕ) → Bool
in_order none may_read may_write readers writers = subset readers may_read && subset writers may_write && apart none readers writers

-- how many objects are looked at together
abbrev pub block_size : ℕ
block_size = 8

-- how many whole blocks have a table's objects among them
abbrev pub blocks : ℕ → ℕ
blocks objects = (objects + 7) / block_size

-- the objects in so many
abbrev pub in_blocks : ℕ → ℕ
in_blocks objects = blocks objects * block_size

abbrev pub object_in_order : State → Bool → ℕ → Bool
object_in_order s none o = in_order none (at s.may_read o) (at s.may_write o) (at s.readers o) (at s.writers o)

-- all of an object's sets together
abbrev pub all_of : State → ℕ → ℕ
all_of s o = union (declared_any s o) (holders_any s o)

-- the objects of the table together, in which write locks share with none or may be shared; their locks in whole blocks
pub record Surveyed (s : State) (none : Bool) (seen : Survey) : Type 0 where
  pub declared : seen.declared ≡ unions s.counts.objects (declared_any s)
  pub held : seen.held ≡ unions (in_blocks s.counts.objects) (holders_any s)
  pub wrong : is_empty seen.wrong ≡ every (in_blocks s.counts.objects) (object_in_order s none)

-- an object with these readers and writers may be certified: it is written, and not read
abbrev pub certifiable : ℕ → ℕ → Bool
certifiable readers writers = not (is_empty writers) && is_empty readers

-- a word of a set of objects, whose places stand behind an index: the objects in it may be certified
abbrev pub word_fits : (word from : ℕ) → State → Bool
word_fits word from s = every 64 (λ p. not (member word p) || certifiable (at s.readers (from + p)) (at s.writers (from + p)))

-- of object o: it is certified in version 2 alone, and only where it may be
abbrev pub certified_well : State → ℕ → Bool
certified_well s o = not (is_certified s o) || (eqb s.counts.version 2 && certifiable (at s.readers o) (at s.writers o))

-- the rank has the right to the mode on an object with these sets, 17 would not refuse it, and who asks to certify writes
abbrev pub may_ask : ℕ → ℕ → ℕ → ℕ → ℕ → ℕ → Bool → Bool
may_ask mode rank may_read may_write readers writers certified =
    member (of_mode mode may_read may_write) rank && not (already_in mode rank readers writers certified) && (not (eqb mode certify) || member writers rank)

-- the state with these ranks in the place of those that have unlocked, and with no sleeper
abbrev pub with_marked : State → ℕ → State
with_marked s marked = with_locks s s.active marked 0 s.holder s.readers s.writers s.certified s.request

-- ---- the order of the holders, by the set of them all

-- of the holders, those that are no more urgent than the most urgent declared rank: the ranks that a ceiling of the declared ranks reaches; none where none is declared
abbrev pub reached : (held declared : ℕ) → ℕ
reached held declared = minus held (before declared)

-- of those that the ceiling reaches, no other than the most urgent is among the holders of a lock that weighs it
abbrev pub only_first : (held declared holders : ℕ) → Bool
only_first held declared holders = disjoint holders (but_first (reached held declared))

-- the ranks whose most urgent one is the ceiling that a lock on object o weighs, a write lock or a read lock
abbrev pub weighs_by : (writing : Bool) → State → ℕ → ℕ
weighs_by writing s o = if writing then weighing_of (shares_with_none s o) (at s.may_read o) (at s.may_write o) else at s.may_write o

-- of object o: its readers, and its writers, are in order with the holders
abbrev pub readers_ordered : (held : ℕ) → State → ℕ → Bool
readers_ordered held s o = only_first held (weighs_by false s o) (at s.readers o)

abbrev pub writers_ordered : (held : ℕ) → State → ℕ → Bool
writers_ordered held s o = only_first held (weighs_by true s o) (at s.writers o)

abbrev pub object_ordered : (held : ℕ) → State → ℕ → Bool
object_ordered held s o = readers_ordered held s o && writers_ordered held s o
