-- The key of a lock: weight, then holder, then object, as one number, so that the lock with the most urgent weight,
-- "ties going to the lowest rank number and then the lowest object number", is the one with the lowest key.
-- Assumes nothing.
use Rattle.std.specs.Prelude.{ℕ, ◌+◌, ◌*◌, ◌/◌, ◌%◌, ◌<◌, min, not, ◌&&◌, eqb, if◌then◌else◌}
use Rattle.std.proofs.Common.{arith}
use Rattle.basics.specs.Loops.{least}
use Rattle.state.specs.declared.State.{State}
use Rattle.state.specs.State.{most_jobs, read, write, holds}
use Rattle.state.specs.Weights.{weight, old_weight}

abbrev pub lock_key : ℕ → ℕ → ℕ → ℕ
lock_key weighs holder object = weighs * 65536 + holder * 256 + object

-- above every weight: a lock weighs a rank or nobody, which is 256 for 255 jobs
abbrev pub no_weight : ℕ
no_weight = 257

-- above the key of every lock, by its weight (no_key_above)
abbrev pub no_key : ℕ
no_key = lock_key no_weight 0 0

pub no_key_above : (weighs holder object : ℕ) → weighs < no_weight → holder < 256 → object < 256 → lock_key weighs holder object < no_key
no_key_above weighs holder object w h o = omega arith

abbrev pub key_weight : ℕ → ℕ
key_weight k = k / 65536

abbrev pub key_holder : ℕ → ℕ
key_holder k = k / 256 % 256

abbrev pub key_object : ℕ → ℕ
key_object k = k % 256

-- the rule for what a lock of a mode, a holder and an object weighs
abbrev pub Weigh : Type 0
Weigh = ℕ → ℕ → ℕ → ℕ

-- the key of the lock that r holds on o in mode m, where r is another job than j: "Own locks don't count."
unfoldable pub others_key : Weigh → State → ℕ → ℕ → ℕ → ℕ → ℕ
others_key weigh s j o m r = if not (eqb r j) && holds s m r o then lock_key (weigh m r o) r o else no_key

-- "Each lock is weighed by itself": the lowest key among the locks that others than j hold on o
unfoldable pub object_key : Weigh → State → ℕ → ℕ → ℕ
object_key weigh s j o = least most_jobs no_key (λ r. min (others_key weigh s j o read r) (others_key weigh s j o write r))

-- the lowest key among the locks that others than j hold
unfoldable pub lowest_key_by : Weigh → State → ℕ → ℕ
lowest_key_by weigh s j = least s.counts.objects no_key (object_key weigh s j)

abbrev pub lowest_key : State → ℕ → ℕ
lowest_key s j = lowest_key_by (weight s) s j

abbrev pub old_lowest_key : State → ℕ → ℕ
old_lowest_key s j = lowest_key_by (old_weight s) s j
