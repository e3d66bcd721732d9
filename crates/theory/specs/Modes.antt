-- The modes of locks: what a state shows of them, and what one event may do to them beside what Step says; proofs/Modes has one law for each kind of event.
-- Modes are numbers, 0 none, 1 read, 2 write, 3 certify: a stronger one is a greater number.
use Rattle.std.specs.Prelude.{◌≡◌, ◌≢◌, ◌⊎◌, ℕ, suc, ◌≤◌, ◌<◌}
use Rattle.theory.specs.Words.{Label, Grants, Wakens}
use Rattle.theory.specs.Machine.{View, Releases, TurnsWait}
use Rattle.theory.specs.Keeps.{Takes}

-- ---- what a state shows

pub record Modes : Type 0 where
  -- rank, object ↦ the mode of the lock that the job holds there
  pub held : ℕ → ℕ → ℕ
  -- rank ↦ the mode that its request that waits asks for
  pub asked : ℕ → ℕ

-- ---- one event

-- the event gives job x a lock on object o in mode m: by its own request, or as the woken job
abbrev pub Gives : View → Modes → Label → (x o m : ℕ) → Type 0
Gives s u l x o m = (Grants l x o × (l.mode ≡ m)) ⊎ (Wakens l x × (s.requested x ≡ o) × (u.asked x ≡ m))

-- x is given a lock on o in mode m, a stronger one than it held there
pub record Given (before after : ℕ → ℕ → ℕ) (x o m : ℕ) : Type 0 where
  pub mode : m ≤ 3
  pub holds : after x o ≡ m
  pub stronger : before x o < m

pub record ModeStep (s : View) (u : Modes) (l : Label) (u' : Modes) : Type 0 where
  pub wait : l.what ≡ 3 → u'.asked l.job ≡ l.mode
  pub give : (x o m : ℕ) → Gives s u l x o m → Given u.held u'.held x o m
  -- "Unlock is for read locks from now on."
  pub unlock : l.what ≡ 4 → u.held l.job l.object ≡ 1
  -- nothing else changes
  pub asked_same : (j : ℕ) → (u'.asked j ≡ u.asked j) ⊎ TurnsWait l j
  pub held_same : (r p : ℕ) → (u'.held r p ≡ u.held r p) ⊎ (Takes s l r p ⊎ Releases l r p)

-- what a manager may show beyond it: a job that finishes has no write lock that is not certified
abbrev pub FinishesCertified : Modes → Label → Type 0
FinishesCertified u l = l.what ≡ 5 → (o : ℕ) → u.held l.job o ≢ 2

-- and on tables of one version: which modes there are, and beside which locks of others none is given
pub record KeepsApart (version : ℕ) (s : View) (u : Modes) (l : Label) : Type 0 where
  -- up to write in version 1, to certify in version 2
  pub mode : (x o m : ℕ) → Gives s u l x o m → m ≤ suc version
  -- Each lock of another job r on the object weighs at least as urgent as job x, to which a lock is given. But a read lock is given beside read locks,
  -- and in version 2 beside a write lock that is not certified.
  pub meets : (x o m r : ℕ) → Gives s u l x o m → r ≢ x → 0 < u.held r o → (2 ≤ m) ⊎ (version < u.held r o) → s.weight r o ≤ x
  -- "25, on a version 2 table finish with a write lock not certified"
  pub finish : version ≡ 2 → FinishesCertified u l

-- the search for a waiting job: m and v are what is seen once the locks are released, w the woken rank or 0
pub record WokeModes (m : View) (v : Modes) (w : ℕ) (u' : Modes) : Type 0 where
  pub gave : 0 < w → Given v.held u'.held w (m.requested w) (v.asked w)
  pub held_same : (r p : ℕ) → (u'.held r p ≡ v.held r p) ⊎ ((0 < r) × (w ≡ r) × (m.requested r ≡ p))
  pub asked_same : (x : ℕ) → (u'.asked x ≡ v.asked x) ⊎ ((0 < x) × (w ≡ x))
