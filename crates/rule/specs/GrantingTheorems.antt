-- Who is granted a lock and which lock is named, said of every lock that another job holds, by its mode, holder and object
-- (01, "Granting, naming, waking"): the terms of the theorems `passes_iff`, `stopping_lock`, `named_lock`, `names_nobody` and `first_is_one`, which stand in
-- proofs/GrantingTheorems.
-- Assumes nothing.
use Rattle.std.specs.Prelude.{◌≡◌, ◌≢◌, true, ℕ, ◌≤◌, ◌<◌}
use Rattle.state.specs.declared.State.{State}
use Rattle.state.specs.State.{holds}
use Rattle.state.specs.Modes.{Mode}
use Rattle.state.specs.Weights.{weight}
use Rattle.weights.specs.Keys.{key_holder, key_object, lowest_key}

-- ---- the terms

-- r, another job than j, holds the lock of mode m on object o: "Own locks don't count."
pub record HeldByAnother (s : State) (j m r o : ℕ) : Type 0 where
  pub mode : Mode m
  pub other : r ≢ j
  pub held : holds s m r o ≡ true

-- rank j "is more urgent than the weight of every lock held by others": the lower number is the more urgent
abbrev pub MoreUrgentThanOthers : State → ℕ → Type 0
MoreUrgentThanOthers s j = (m r o : ℕ) → HeldByAnother s j m r o → j < weight s m r o

-- "the most urgent weight, ties going to the lowest rank number and then the lowest object number":
-- a lock of weight w that r holds on o comes before a lock of weight v that q holds on p, or has the same weight, holder and object
pub data ComesFirst (w r o v q p : ℕ) : Type 0 where
  by_weight : w < v → ComesFirst w r o v q p
  by_rank : w ≡ v → r < q → ComesFirst w r o v q p
  by_object : w ≡ v → r ≡ q → o ≤ p → ComesFirst w r o v q p

-- r has on o "the lock of another job with the most urgent weight, ties going to the lowest rank number and then the lowest object number"
pub record FirstOfOthers (s : State) (j r o : ℕ) : Type 0 where
  pub mode : ℕ
  pub lock : HeldByAnother s j mode r o
  pub first : (m q p : ℕ) → HeldByAnother s j m q p → ComesFirst (weight s mode r o) r o (weight s m q p) q p

-- the holder and the object of the lock that stops a request of j: what the answer to the request says where the job waits
abbrev pub stopping_holder : State → ℕ → ℕ
stopping_holder s j = key_holder (lowest_key s j)

abbrev pub stopping_object : State → ℕ → ℕ
stopping_object s j = key_object (lowest_key s j)
