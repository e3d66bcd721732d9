-- The abstract lock manager: what a state shows, what one event may do to it, and the invariant; its first laws are in proofs/Machine.
-- Ranks and objects are numbers. N is above every rank, and is the weight where no lock is held.
use Rattle.std.specs.Prelude.{◌≡◌, ◌≢◌, ◌⊎◌, ℕ, ◌≤◌, ◌<◌}
use Rattle.theory.specs.Words.{Label, Starts, Waits, Unlocks, Ends, Wakens}

-- ---- what a state shows

pub record View : Type 0 where
  -- rank, object ↦ the weight of the lock that the job holds there
  pub weight : ℕ → ℕ → ℕ
  -- rank ↦ the object of its request that waits, 0 if none does
  pub requested : ℕ → ℕ
  -- rank ↦ 0 if the job is idle
  pub active : ℕ → ℕ
  -- rank ↦ 0 if the job has not unlocked in its run
  pub unlocked : ℕ → ℕ
  -- rank ↦ the rank that the question for its named lock gives, 0 if nobody
  pub names : ℕ → ℕ

-- ---- weights

-- "A request is granted if the requester's rank is more urgent than the weight of every lock held by others."
abbrev pub Passes : (weight : ℕ → ℕ → ℕ) (j : ℕ) → Type 0
Passes weight j = (r p : ℕ) → r ≢ j → j < weight r p

-- a lock of another job stops j's request
abbrev pub Blocked : (weight : ℕ → ℕ → ℕ) (j : ℕ) → Type 0
Blocked weight j = (r : ℕ) × (p : ℕ) × (r ≢ j) × (weight r p ≤ j)

-- "It names the lock of another job with the most urgent weight": j names h's lock on object o, and that lock stops it
abbrev pub NamedLock : (weight : ℕ → ℕ → ℕ) (j h o : ℕ) → Type 0
NamedLock weight j h o = (h ≢ j) × (weight h o ≤ j) × ((r p : ℕ) → r ≢ j → weight h o ≤ weight r p)

-- job x takes a lock on object o: its request passes,
-- and the lock weighs at least as urgent as x and as what x held there before
pub record Took (before after : ℕ → ℕ → ℕ) (x o : ℕ) : Type 0 where
  pub pass : Passes before x
  pub cap : after x o ≤ x
  pub down : after x o ≤ before x o
  pub same : (r p : ℕ) → (after r p ≡ before r p) ⊎ ((r ≡ x) × (p ≡ o))

-- ---- one event

-- a job that may request a lock: a rank, active, and it has not unlocked
pub record MayRequest (N : ℕ) (s : View) (j : ℕ) : Type 0 where
  pub positive : 0 < j
  pub rank : j < N
  pub active : s.active j ≢ 0
  pub not_unlocked : s.unlocked j ≡ 0

-- the event releases r's lock on object p
abbrev pub Releases : Label → ℕ → ℕ → Type 0
Releases l r p = Unlocks l r p ⊎ Ends l r

-- the event begins or ends a wait of job j
abbrev pub TurnsWait : Label → ℕ → Type 0
TurnsWait l j = Waits l j l.object ⊎ (Wakens l j ⊎ Ends l j)

-- "After kinds 4, 5 and 6 the waiting jobs are searched from the most urgent on,
-- and the search stops with the first whose request passes."
-- w was woken, or nobody if it is 0: of the jobs that still wait, those before w are blocked, all if it is 0
abbrev pub Searched : (requested : ℕ → ℕ) (weight : ℕ → ℕ → ℕ) (w : ℕ) → Type 0
Searched requested weight w = (x : ℕ) → requested x ≢ 0 → (w ≡ 0) ⊎ (x < w) → Blocked weight x

pub record Step (N : ℕ) (s : View) (l : Label) (s' : View) : Type 0 where
  -- the weights once the event's own job has released what it releases
  pub after_release : ℕ → ℕ → ℕ
  pub release : (r p : ℕ) → (after_release r p ≡ s.weight r p) ⊎ Releases l r p
  -- each kind of answer
  pub start : l.what ≡ 1 → (s.active l.job ≡ 0) × (s'.active l.job ≢ 0)
  pub request : 2 ≤ l.what → l.what ≤ 3 → MayRequest N s l.job × (s.requested l.job ≡ 0)
  pub grant : l.what ≡ 2 → Took after_release s'.weight l.job l.object
  pub wait : l.what ≡ 3 → (0 < l.object) × (s'.requested l.job ≡ l.object) × Blocked s.weight l.job
  pub unlock : l.what ≡ 4
      → (s.requested l.job ≡ 0) × (s'.unlocked l.job ≢ 0) × (after_release l.job l.object ≡ N)
  pub finish : l.what ≡ 5 → s.requested l.job ≡ 0
  pub end : 5 ≤ l.what
      → (s'.active l.job ≡ 0) × (s'.requested l.job ≡ 0) × ((p : ℕ) → after_release l.job p ≡ N)
  pub search : 4 ≤ l.what → Searched s'.requested after_release l.woken
  pub wake : 0 < l.woken
      → (4 ≤ l.what) × (l.woken ≢ l.job) × (s.requested l.woken ≢ 0) × (s'.requested l.woken ≡ 0)
      × Took after_release s'.weight l.woken (s.requested l.woken)
  -- nothing else changes
  pub weight_same : l.what ≢ 2 → l.woken ≡ 0 → (r p : ℕ) → s'.weight r p ≡ after_release r p
  pub requested_same : (j : ℕ) → (s'.requested j ≡ s.requested j) ⊎ TurnsWait l j
  pub active_same : (j : ℕ) → (s'.active j ≡ s.active j) ⊎ (Starts l j ⊎ Ends l j)
  pub unlocked_same : (j : ℕ) → (s'.unlocked j ≡ s.unlocked j) ⊎ (Unlocks l j l.object ⊎ Ends l j)

-- what holds of every state that is seen: the objects of locks are numbers below M; the question for the named lock
-- gives nobody for a job that does not wait, and the holder of the named lock for one that waits and is blocked
pub record Seen (N M : ℕ) (s : View) : Type 0 where
  pub objects : (r p : ℕ) → s.weight r p < N → p < M
  pub names_nobody : (j : ℕ) → s.requested j ≡ 0 → s.names j ≡ 0
  pub names_holder : (j : ℕ) → s.requested j ≢ 0 → Blocked s.weight j
      → (o : ℕ) × NamedLock s.weight j (s.names j) o

-- every job idle, every object unlocked
pub record FreshView (N : ℕ) (s : View) : Type 0 where
  pub no_lock : (r p : ℕ) → s.weight r p ≡ N
  pub no_request : (j : ℕ) → s.requested j ≡ 0
  pub idle : (j : ℕ) → s.active j ≡ 0

-- ---- the invariant

-- of the weights: a lock weighs at least as urgent as its holder, and of two holders
-- the more urgent one is more urgent than every weight of the other
pub record Sound (N : ℕ) (weight : ℕ → ℕ → ℕ) : Type 0 where
  pub rank : (r o : ℕ) → weight r o < N → r < N
  pub cap : (r o : ℕ) → weight r o < N → weight r o ≤ r
  pub order : (a b p o : ℕ) → a < b → weight a p < N → a < weight b o

-- no waiting job's request passes, and who waits or holds a lock is in a run
pub record Invariant (N : ℕ) (s : View) : Type 0 where
  pub sound : Sound N s.weight
  pub blocked : (j : ℕ) → s.requested j ≢ 0 → Blocked s.weight j
  pub waits : (j : ℕ) → s.requested j ≢ 0 → MayRequest N s j
  pub holder : (r o : ℕ) → s.weight r o < N → s.active r ≢ 0
