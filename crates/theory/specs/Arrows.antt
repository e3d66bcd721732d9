-- Document 02, CR 7, "Finished runs as if one by one", in words that are read off the events and their answers.
-- Nothing here speaks of a state. Labels, times, runs and grants are those of demand 3 (Words); the mode of a grant and of a lock, and the finish of a run,
-- are those of WriteLocks. A run is known by its job j and the event k that began it: two runs of one job are two, and those that one event began are one.
-- The sentences in quotes are document 02's, or where it says so 01's.
use Rattle.std.specs.Prelude.{◌≡◌, ◌≢◌, ◌⊎◌, ℕ, ◌≤◌, ◌<◌}
use Rattle.theory.specs.Words.{Label, Unlocks, Ends, Grant}
use Rattle.theory.specs.WriteLocks.{GrantIn, HoldsIn, Finishes}

-- ---- "conflicting": modes are 1 read, 2 write, 3 certify

-- the two modes are a and b, in either order
abbrev pub Pair : (a b m n : ℕ) → Type 0
Pair a b m n = ((m ≡ a) × (n ≡ b)) ⊎ ((m ≡ b) × (n ≡ a))

-- Locks of modes m and n on one object conflict, in a table of this version.
pub data Conflict (version m n : ℕ) : Type 0 where
  -- 01: "conflict, if .. either is a write"
  either_writes : version ≡ 1 → Pair 1 2 m n ⊎ Pair 2 2 m n → Conflict version m n
  -- "In version 2 the conflicting pairs are read with certify, write with write and certify with certify".
  -- Write with certify is not among them. It is not needed: by refusals 21 and 25 a run neither unlocks a write lock nor finishes with one
  -- that is not certified, so that the last lock of a finished run on what it wrote is a certify lock.
  one_of_three : version ≡ 2 → Pair 1 3 m n ⊎ (Pair 2 2 m n ⊎ Pair 3 3 m n) → Conflict version m n

-- ---- "before"

-- "within one event the release comes before the woken grant": what event i releases is released before what event g grants, also where they are one event.
abbrev pub Before : (i g : ℕ) → Type 0
Before i g = i ≤ g

-- ---- the words

module _ (label : ℕ → Label) where
  -- "finished run", "Abandoned runs don't count.": the run of job j that event k began was ended by a finish answered done.
  pub record Finished (j k : ℕ) : Type 0 where
    pub finish : ℕ
    pub finishes : Finishes label j k finish

  -- "released a lock on an object": just before event i the run holds a lock of mode m on object o, and event i is its job's unlock of that object
  -- answered done, or the run's end. "A lock replaced by a stronger one of the same run isn't released": the grant that replaces it is neither,
  -- and from then on the run's lock there has the stronger mode (HoldsIn).
  pub record Released (m j k o i : ℕ) : Type 0 where
    pub held : HoldsIn label m j k o i
    pub unlock_or_end : Unlocks (label i) j o ⊎ Ends (label i) j

  -- "their last grant": event g grants the run a lock, on some object, and no later event does.
  pub record LastGrant (j k g : ℕ) : Type 0 where
    pub object : ℕ
    pub grant : Grant label j k object g
    pub none_later : (o x : ℕ) → g < x → ¬ Grant label j k o x

  -- The place of a run in the order of runs is its last grant, or its start if it was granted no lock.
  pub data Place (j k p : ℕ) : Type 0 where
    at_last_grant : LastGrant j k p → Place j k p
    at_start : ((o g : ℕ) → ¬ Grant label j k o g) → k ≡ p → Place j k p

  -- No run, finished or not, is granted a lock once it has released one.
  abbrev pub GrantsFirst : Type 0
  GrantsFirst = (m j k o i p g : ℕ) → Released m j k o i → Grant label j k p g → g < i

  module _ (version : ℕ) where
    -- "the first released a lock on an object before the second was granted a conflicting one there", "and a certify grant is a grant":
    -- the run of job j that event k began, and the run of job j' that event k' began, on object o
    pub record ReleasedBefore (j k j' k' o : ℕ) : Type 0 where
      pub released_mode : ℕ
      pub granted_mode : ℕ
      pub release : ℕ
      pub grant : ℕ
      pub released : Released released_mode j k o release
      pub granted : GrantIn label granted_mode j' k' o grant
      pub before : Before release grant
      pub conflict : Conflict version released_mode granted_mode

    -- "Draw an arrow from one finished run to another where" that is so.
    pub record Arrow (j k j' k' : ℕ) : Type 0 where
      pub another : k ≢ k'
      pub from_finished : Finished j k
      pub to_finished : Finished j' k'
      pub object : ℕ
      pub there : ReleasedBefore j k j' k' object

    -- "following arrows": one arrow or more lead from the first run to the second.
    pub data Leads : (j k j' k' : ℕ) → Type 0 where
      arrow : {j k j' k' : ℕ} → Arrow j k j' k' → Leads j k j' k'
      follow : {j k j' k' j'' k'' : ℕ} → Arrow j k j' k' → Leads j' k' j'' k'' → Leads j k j'' k''

    -- two different finished runs were granted conflicting locks on object o: of modes m and n, by events g and h
    pub record InConflict (j k j' k' o m n g h : ℕ) : Type 0 where
      pub another : k ≢ k'
      pub first_finished : Finished j k
      pub second_finished : Finished j' k'
      pub first_granted : GrantIn label m j k o g
      pub second_granted : GrantIn label n j' k' o h
      pub conflict : Conflict version m n

    -- ---- the three claims

    -- "exactly one has an arrow to the other"
    abbrev pub ExactlyOne : (j k j' k' : ℕ) → Type 0
    ExactlyOne j k j' k' = (Arrow j k j' k' × (¬ Arrow j' k' j k)) ⊎ (Arrow j' k' j k × (¬ Arrow j k j' k'))

    -- "of two finished runs granted conflicting locks on one object, exactly one has an arrow to the other"
    abbrev pub Claim1 : Type 0
    Claim1 = (j k j' k' o m n g h : ℕ) → InConflict j k j' k' o m n g h → ExactlyOne j k j' k'

    -- "following arrows never leads back"
    abbrev pub Claim2 : Type 0
    Claim2 = (j k : ℕ) → ¬ Leads j k j k

    -- "ordering the runs that were granted a lock by their last grant agrees with every arrow"
    pub record Claim3 : Type 0 where
      -- a finished run that was granted a lock has a last grant,
      pub has_last : (j k o g : ℕ) → Finished j k → Grant label j k o g → (x : ℕ) × LastGrant j k x
      -- those of two different runs are at different events, so that of any two runs one is the earlier,
      pub one_earlier : (j k j' k' g g' : ℕ) → k ≢ k' → LastGrant j k g → LastGrant j' k' g' → (g < g') ⊎ (g' < g)
      -- and every arrow leads from the earlier to the later
      pub agrees : (j k j' k' g g' : ℕ) → Arrow j k j' k' → LastGrant j k g → LastGrant j' k' g' → g < g'

    -- ---- CHANGE REQUEST 7
    pub record OneByOne : Type 0 where
      pub one : Claim1
      pub two : Claim2
      pub three : Claim3

    -- ---- what follows: one order of the finished runs

    pub record OneOrder : Type 0 where
      -- each finished run has a place, and one only,
      pub has_place : (j k : ℕ) → Finished j k → (p : ℕ) × Place j k p
      pub one_place : (j k p p' : ℕ) → Place j k p → Place j k p' → p ≡ p'
      -- of any two different runs one is the earlier,
      pub one_earlier : (j k j' k' p p' : ℕ) → k ≢ k' → Finished j k → Finished j' k' → Place j k p → Place j' k' p' → (p < p') ⊎ (p' < p)
      -- and of any two that conflict the earlier one released before the later one was granted:
      -- whichever lock that conflicts with one of the earlier run the later one was granted, the earlier one had released its own there.
      pub released_first : (j k j' k' o m n g h p p' : ℕ) → InConflict j k j' k' o m n g h → Place j k p → Place j' k' p' → p < p'
          → (r : ℕ) × (i : ℕ) × Released r j k o i × Before i h

    -- ---- why it is so: GrantsFirst, and

    -- that conflicting locks on one object are never held together, of any runs, finished or not
    abbrev pub NeverTogether : Type 0
    NeverTogether = (j k j' k' o m n t : ℕ) → k ≢ k' → HoldsIn label m j k o t → HoldsIn label n j' k' o t → ¬ Conflict version m n
