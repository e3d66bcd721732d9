-- Document 02, CR 1, "Write locks stay until the end", and what CR 6 makes of a run that finishes, in words that are read off the events and their answers.
-- Nothing here speaks of a state. Labels, times, runs and grants are those of demand 3 (Words), and the mode of a grant is in the label.
use Rattle.std.specs.Prelude.{◌≡◌, ℕ, ◌≤◌, ◌<◌}
use Rattle.theory.specs.Words.{Label, Never, Run, Grant, Holds}

module _ (label : ℕ → Label) where
  -- Event i is a grant of the run in mode m, 1 read, 2 write or 3 certify: the request that it grants asked for that mode.
  pub record GrantIn (m j k o i : ℕ) : Type 0 where
    pub grant : Grant label j k o i
    pub in_mode : (label grant.asked).mode ≡ m

  -- The run of job j that event k began holds a lock of mode m on object o at time t: it holds a lock there,
  -- and its last grant there, event `last`, was in that mode.
  pub record HoldsIn (m j k o t : ℕ) : Type 0 where
    pub holds : Holds label j k o t
    pub last : ℕ
    pub before : last < t
    pub grant : GrantIn m j k o last
    pub none_later : Never (λ i. Grant label j k o i) last t

  -- ---- CR 1

  -- The run of job j that event k began holds a write or certify lock on object o at time t: it holds a lock there,
  -- and its last grant there, event `last`, was of a write or certify lock.
  pub record HoldsWrite (j k o t : ℕ) : Type 0 where
    pub holds : Holds label j k o t
    pub last : ℕ
    pub before : last < t
    pub grant : Grant label j k o last
    pub to_write : 2 ≤ (label grant.asked).mode
    pub none_later : Never (λ i. Grant label j k o i) last t

  -- "Write locks stay until the end." "The trade's habit is to release writes when a run ends".
  -- The run of job j that event k began, granted a write or certify lock on object o by event g, holds one there
  -- at every later time t at which it goes on. (A certify lock takes the place of the write lock, which is no release.)
  abbrev pub WriteLocksStay : Type 0
  WriteLocksStay = (j k o g t m : ℕ) → 2 ≤ m → GrantIn m j k o g → g < t → Run label j k t → HoldsWrite j k o t

  -- ---- CR 6

  -- The run of job j that event k began finishes with event f.
  pub record Finishes (j k f : ℕ) : Type 0 where
    pub run : Run label j k f
    pub finish_done : (label f).what ≡ 5
    pub of_job : (label f).job ≡ j

  -- "finish with a write lock not certified" is refused. So a run that finishes has certified every write lock that it was granted:
  -- event g granted it the write lock on object o, and a later event c, before the finish f, the certify lock there.
  abbrev pub WritesCertified : Type 0
  WritesCertified = (j k o g f : ℕ) → Finishes j k f → GrantIn 2 j k o g → g < f → (c : ℕ) × (g < c) × (c < f) × GrantIn 3 j k o c
