-- A request decided from the locks of the most urgent holder (02, CR 9): the definitions. OneHolderLaws shows that this is the full reading of all locks.
-- Assumes nothing.
use Rattle.std.specs.Prelude.{◌≡◌, refl, List, ◌≢◌, Bool, false, ◌||◌, ℕ, ◌-◌, ◌≤◌, min, eqb, ltb, get_or, if◌then◌else◌}
use Rattle.std.proofs.Common.{sym, eq-eqb, ne_eqb}
use Rattle.basics.specs.Arrays.{at, at_index}
use Rattle.basics.specs.Loops.{least}
use Rattle.ranks.specs.Ranks.{member, with, disjoint, up_to}
use Rattle.state.specs.declared.Counts.{Counts}
use Rattle.state.specs.declared.State.{State}
use Rattle.state.specs.State.{read, write, marked, holders}
use Rattle.state.specs.Weights.{more_urgent, ceiling_of, weight}
use Rattle.state.specs.WeightLaws.{weighing_of}
use Rattle.weights.specs.Keys.{no_key, key_weight}
use Rattle.weights.specs.ObjectKeys.{held_key, writers_weight}

-- the lowest key among the locks that h holds on o
abbrev pub holder_key_at : State → ℕ → ℕ → ℕ
holder_key_at s h o = min (held_key (holders s read o) (weight s read h o) o h) (held_key (holders s write o) (weight s write h o) o h)

-- the lowest key among the locks that h holds: of these the one with the most urgent weight, then on the lowest object
unfoldable pub holder_key : State → ℕ → ℕ
holder_key s h = least s.counts.objects no_key (holder_key_at s h)

-- the key by which a request of j is decided, by the most urgent holder and the lowest of its keys: "If .. that is the requester, the answer is a grant; otherwise
-- only that job's locks decide it". Where there is no holder, 0, it has no lock, and its lowest key is no lock's
abbrev pub key_against : (holder key j : ℕ) → ℕ
key_against holder key j = if eqb holder j then no_key else key

pub against_holder : (holder key j : ℕ) → holder ≡ j → key_against holder key j ≡ no_key
against_holder holder key j e = simp (eq-eqb holder j e)

pub against_other : (holder key j : ℕ) → holder ≢ j → key_against holder key j ≡ key
against_other holder key j d = simp (ne_eqb holder j d)

abbrev pub deciding_key : State → ℕ → ℕ
deciding_key s j = key_against s.holder (holder_key s s.holder) j

-- a request of j that meets the key k has the answer of one that meets `full`: it passes both or neither, and where it does not, they are the same lock's
pub record Decides (j k full : ℕ) : Type 0 where
  pub same : ltb j (key_weight k) ≡ ltb j (key_weight full)
  pub stops : ltb j (key_weight full) ≡ false → k ≡ full

-- the lowest key among h's locks on o, by the table's counts, o's sets of ranks and whether its write lock shares with none
abbrev pub own_key : Counts → Bool → ℕ → ℕ → ℕ → ℕ → ℕ → ℕ → ℕ
own_key c none readers writers may_read may_write o h =
    min (held_key readers (more_urgent (ceiling_of c may_write) h) o h) (held_key writers (writers_weight c none may_read may_write) o h)

pub own_key_there : (s : State) (h o : ℕ) → 1 ≤ o
    → holder_key_at s h o
    ≡ own_key s.counts (eqb s.counts.version 1 || marked s.certified o) (get_or s.readers (o - 1) 0) (get_or s.writers (o - 1) 0) (get_or s.may_read (o - 1) 0) (get_or s.may_write (o - 1) 0) o h
unfolding weight
own_key_there s h o low =
    rw (sym (at_index s.readers o low), sym (at_index s.writers o low), sym (at_index s.may_read o low), sym (at_index s.may_write o low)) refl

-- the ranks whose most urgent one is what h's lock on an object weighs, by the object's sets and whether its write lock shares with none: those that a write lock
-- weighs by, if it has that; of a read lock those declared to write the object, and h, the cap
abbrev pub weighed_by : Bool → (writers may_read may_write h : ℕ) → ℕ
weighed_by none writers may_read may_write h = if member writers h then weighing_of none may_read may_write else with may_write h

-- j is more urgent than h's lock on o, if it has one: none of these ranks is j or more urgent (PassingLaws)
abbrev pub passes_lock : (version : ℕ) (may_read may_write writers certified : List ℕ) (o h j : ℕ) → Bool
passes_lock version may_read may_write writers certified o h j =
    disjoint (weighed_by (eqb version 1 || marked certified o) (at writers o) (at may_read o) (at may_write o) h) (up_to j)

pub passes_lock_there : (version : ℕ) (may_read may_write writers certified : List ℕ) (o h j : ℕ) → 1 ≤ o
    → passes_lock version may_read may_write writers certified o h j
    ≡ disjoint (weighed_by (eqb version 1 || marked certified o) (get_or writers (o - 1) 0) (get_or may_read (o - 1) 0) (get_or may_write (o - 1) 0) h) (up_to j)
passes_lock_there version may_read may_write writers certified o h j low =
    rw (sym (at_index writers o low), sym (at_index may_read o low), sym (at_index may_write o low)) refl
