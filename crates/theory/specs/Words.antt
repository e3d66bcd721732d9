-- Demand 3 in the words of document 01, read off the events, their answers and the question for the named lock.
-- Nothing here speaks of a state.
-- Event i, counted from 0, has the label `label i`. Time t is the moment after the first t events, those before event t.
-- The sentences in quotes are document 01's, in its order; those over Sentence1 to Sentence3 are the demand's.
use Rattle.std.specs.Prelude.{◌≡◌, ◌≢◌, ◌⊎◌, ℕ, suc, ◌≤◌, ◌<◌}

-- ---- an event with its answer

pub record Label : Type 0 where
  -- 0 refused, 1 start done, 2 granted, 3 waits, 4 unlock done, 5 finish done, 6 abandonment done
  pub what : ℕ
  pub job : ℕ
  pub object : ℕ
  -- of the lock that a request asks for: 1 read, 2 write, 3 certify; 0 where the event is no request (WriteLocks and Arrows use it, demand 3 does not)
  pub mode : ℕ
  -- the woken rank that the answer gives, 0 if it gives none
  pub woken : ℕ

-- each says: the event, with its answer, is this one of job j (on object o)
pub record Starts (l : Label) (j : ℕ) : Type 0 where
  pub start_done : l.what ≡ 1
  pub of_job : l.job ≡ j

pub record Grants (l : Label) (j o : ℕ) : Type 0 where
  pub granted : l.what ≡ 2
  pub to_job : l.job ≡ j
  pub on_object : l.object ≡ o

pub record Waits (l : Label) (j o : ℕ) : Type 0 where
  pub waits : l.what ≡ 3
  pub of_job : l.job ≡ j
  pub for_object : l.object ≡ o

pub record Unlocks (l : Label) (j o : ℕ) : Type 0 where
  pub unlock_done : l.what ≡ 4
  pub of_job : l.job ≡ j
  pub of_object : l.object ≡ o

-- "finish or abandonment answered done"
pub record Ends (l : Label) (j : ℕ) : Type 0 where
  pub finish_or_abandonment_done : (l.what ≡ 5) ⊎ (l.what ≡ 6)
  pub of_job : l.job ≡ j

pub record Abandons (l : Label) (j : ℕ) : Type 0 where
  pub abandonment_done : l.what ≡ 6
  pub of_job : l.job ≡ j

-- the answer gives job j's rank as woken
pub record Wakens (l : Label) (j : ℕ) : Type 0 where
  pub a_rank : 0 < j
  pub given_as_woken : l.woken ≡ j

-- no event after event k and before time t has the property
abbrev pub Never : (ℕ → Type 0) → ℕ → ℕ → Type 0
Never P k t = (i : ℕ) → k < i → i < t → ¬ P i

-- ---- the words

module _ (label : ℕ → Label) where
  -- "A run goes from a start answered done to the same job's next finish or abandonment answered done;
  -- if none has come, it lasts to the end of the list and hasn't ended."
  -- The run of job j that event k began goes on at time t.
  pub record Run (j k t : ℕ) : Type 0 where
    pub begun : k < t
    pub starts : Starts (label k) j
    pub not_ended : Never (λ i. Ends (label i) j) k t

  -- The run of job j that event k began has ended by time t, at an event before it.
  pub record Ended (j k t : ℕ) : Type 0 where
    pub end : ℕ
    pub after_start : k < end
    pub before : end < t
    pub ends : Ends (label end) j

  -- "A request is an event answered granted or waits."
  -- Event r is a request for a lock on object o, made in the run of job j that event k began.
  pub record Request (j k o r : ℕ) : Type 0 where
    pub run : Run j k r
    pub granted_or_waits : Grants (label r) j o ⊎ Waits (label r) j o

  -- The request of event r was answered waits, its run goes on at time t, and no answer since has given its job as woken.
  pub record Pending (j k o r t : ℕ) : Type 0 where
    pub after_start : k < r
    pub before : r < t
    pub waits : Waits (label r) j o
    pub run : Run j k t
    pub not_woken : Never (λ i. Wakens (label i) j) r t

  -- "It is granted by that answer or, after waits, by the next one during its run that gives its job's rank as woken."
  -- The answer of event i grants the request of event r.
  pub data Granted (j k o r i : ℕ) : Type 0 where
    by_that_answer : r ≡ i → Grants (label i) j o → Granted j k o r i
    after_waits : Pending j k o r i → Wakens (label i) j → Granted j k o r i

  -- "From waits until then, or until its run ends, the job is waiting."
  -- At time t the request of event `asked`, made in the run that event `start` began, is pending.
  pub record Waiting (j t : ℕ) : Type 0 where
    pub start : ℕ
    pub object : ℕ
    pub asked : ℕ
    pub pending : Pending j start object asked t

  -- Event i is a grant of the run: it grants a request of the run for a lock on object o, that of event `asked`.
  pub record Grant (j k o i : ℕ) : Type 0 where
    pub asked : ℕ
    pub request : Request j k o asked
    pub granted : Granted j k o asked i

  -- "A run holds a lock on an object from its first grant there until its job's unlock of that object answered done,
  -- or its own end."
  -- The run of job j that event k began holds a lock on object o at time t; event `first` was its first grant there.
  pub record Holds (j k o t : ℕ) : Type 0 where
    pub first : ℕ
    pub before : first < t
    pub grant : Grant j k o first
    pub none_earlier : Never (λ i. Grant j k o i) k first
    pub not_unlocked : Never (λ i. Unlocks (label i) j o) first t
    pub run : Run j k t

  -- "While it does, its job is a lock holder."
  -- At time t the run of job j that event `start` began holds a lock on `object`.
  pub record LockHolder (j t : ℕ) : Type 0 where
    pub start : ℕ
    pub object : ℕ
    pub holds : Holds j start object t

  -- "A run's first lock is its first grant."
  -- At event i the run of job j that event k began takes its first lock.
  pub record FirstLock (j k i : ℕ) : Type 0 where
    pub object : ℕ
    pub grant : Grant j k object i
    pub none_earlier : (o : ℕ) → Never (λ g. Grant j k o g) k i

  -- "After an event, a job in a run names the rank that the question for its named lock then gives; 0 is nobody."
  -- At time t the question gives `named t j` for job j.
  pub record Names (named : ℕ → ℕ → ℕ) (j k m t : ℕ) : Type 0 where
    pub run : Run j k t
    pub question_gives : named t j ≡ m

  -- "More or less urgent goes by the jobs' own ranks." ("1 is the most urgent")
  abbrev pub MoreUrgent : (a b : ℕ) → Type 0
  MoreUrgent a b = a < b

  -- "the runs of others that held locks when a job began to wait"
  -- The run of job h that event k began is one of those runs: event r began the wait, of job j.
  pub record OneOfThose (j r h k : ℕ) : Type 0 where
    pub of_other : h ≢ j
    pub object : ℕ
    pub held : Holds h k object (suc r)

  -- "have all ended": those runs, by time t
  abbrev pub ThoseEnded : (j r t : ℕ) → Type 0
  ThoseEnded j r t = (h k : ℕ) → OneOfThose j r h k → Ended h k t

  -- "Meanwhile is from the event that began the wait to the one that ended the last of those runs,
  -- that one and its woken grant included."
  -- Event i is meanwhile: event r began the wait of job j, and just before event i one of those runs goes on.
  -- (So i is from r to the event that EndsLast tells: meanwhile_until in proofs/Demand.)
  pub record Meanwhile (j r i : ℕ) : Type 0 where
    pub since : r ≤ i
    pub job : ℕ
    pub start : ℕ
    pub one_of_those : OneOfThose j r job start
    pub goes_on : Run job start i

  -- "the one that ended the last of those runs"
  -- Event e ended one of those runs, which went on just before it, and with it all of them have ended.
  pub record EndsLast (j r e : ℕ) : Type 0 where
    pub job : ℕ
    pub start : ℕ
    pub one_of_those : OneOfThose j r job start
    pub goes_on : Run job start e
    pub ends : Ends (label e) job
    pub all_ended : ThoseEnded j r (suc e)

  -- ---- the three sentences, of any list of events from a fresh state

  -- "the most urgent lock holder"
  pub record MostUrgentHolder (m t : ℕ) : Type 0 where
    pub holder : LockHolder m t
    pub most_urgent : (h : ℕ) → LockHolder h t → ¬ MoreUrgent h m

  -- "name one and the same job, the most urgent lock holder, which isn't waiting"
  -- At time t job j, in its run that event `start` began, names `named_job`. (One and the same: same_name in proofs/Demand.)
  pub record NamesMostUrgent (named : ℕ → ℕ → ℕ) (j t : ℕ) : Type 0 where
    pub named_job : ℕ
    pub start : ℕ
    pub names : Names named j start named_job t
    pub most_urgent_holder : MostUrgentHolder named_job t
    pub not_waiting : ¬ Waiting named_job t

  -- "After it all waiting jobs name one and the same job, the most urgent lock holder, which isn't waiting."
  -- "It" is the list of the first t events.
  abbrev pub Sentence1 : (named : ℕ → ℕ → ℕ) (t : ℕ) → Type 0
  Sentence1 named t = (j : ℕ) → Waiting j t → NamesMostUrgent named j t

  -- "From the start to the end of each run its job has named at most one less urgent job,
  -- and only while it held no lock."
  -- The run is that of job j that event k began.
  pub record Sentence2 (named : ℕ → ℕ → ℕ) (j k : ℕ) : Type 0 where
    pub at_most_one : (t t' m m' : ℕ) → Names named j k m t → Names named j k m' t' → MoreUrgent j m → MoreUrgent j m' → m ≡ m'
    pub only_without_lock : (t m o : ℕ) → Names named j k m t → MoreUrgent j m → ¬ Holds j k o t

  -- "its request has been granted": that of event r, by time t, in the run that event `start` began
  pub record GrantedBy (j o r t : ℕ) : Type 0 where
    pub start : ℕ
    pub event : ℕ
    pub before : event < t
    pub granted : Granted j start o r event

  -- "unless meanwhile it was abandoned or a more urgent job took its own run's first lock"
  -- Event i is the abandonment, or the first lock of the run of job x that event k began.
  pub data Excepted (j r : ℕ) : Type 0 where
    abandoned : (i : ℕ) → Meanwhile j r i → Abandons (label i) j → Excepted j r
    took_first_lock : (i x k : ℕ) → Meanwhile j r i → MoreUrgent x j → FirstLock x k i → Excepted j r

  -- "Once the runs of others that held locks when a job began to wait have all ended, its request has been granted,
  -- unless meanwhile it was abandoned or a more urgent job took its own run's first lock."
  -- Event r began a wait of job j for a lock on object o; at the later time t those runs have ended.
  abbrev pub Sentence3 : (j o r t : ℕ) → Type 0
  Sentence3 j o r t = Waits (label r) j o → r < t → ThoseEnded j r t → GrantedBy j o r t ⊎ Excepted j r

  -- ---- DEMAND 3
  pub record Demand3 (named : ℕ → ℕ → ℕ) : Type 0 where
    pub one : (t : ℕ) → Sentence1 named t
    pub two : (j k : ℕ) → Sentence2 named j k
    pub three : (j o r t : ℕ) → Sentence3 j o r t
