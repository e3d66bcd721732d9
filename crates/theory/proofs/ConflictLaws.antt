-- The table of conflicting modes (Arrows): it is the same either way, each conflicting lock is of those beside which none is given (Modes),
-- and where two locks conflict so do those that replace them in the end.
use Rattle.std.specs.Prelude.{◌≡◌, ◌≢◌, ◌⊎◌, ℕ, suc, ◌+◌, ◌≤◌, ◌<◌}
use Rattle.std.proofs.Common.{sym, inl, inr, arith}
use Rattle.std.proofs.Math.Decide.{dec_le}
use Rattle.theory.specs.Words.{Label}
use Rattle.theory.specs.Arrows.{Pair, Conflict, either_writes, one_of_three, InConflict}

pair_modes : {a b m n : ℕ} → 1 ≤ a → 1 ≤ b → Pair a b m n → (1 ≤ m) × (1 ≤ n) × (m + n ≡ a + b)
pair_modes la lb (inl x) = omega arith
pair_modes la lb (inr x) = omega arith

-- modes that conflict are together at least read and the strongest of the version
pub conflict_modes : {version m n : ℕ} → Conflict version m n → (1 ≤ m) × (1 ≤ n) × (version + 2 ≤ m + n)
conflict_modes (either_writes e c) = elim c [
  | inl p ↦ (let x = pair_modes (omega arith) (omega arith) p in omega arith)
  | inr p ↦ (let x = pair_modes (omega arith) (omega arith) p in omega arith)
]
conflict_modes (one_of_three e c) = elim c [
  | inl p ↦ (let x = pair_modes (omega arith) (omega arith) p in omega arith)
  | inr d ↦ elim d [
    | inl p ↦ (let x = pair_modes (omega arith) (omega arith) p in omega arith)
    | inr p ↦ (let x = pair_modes (omega arith) (omega arith) p in omega arith)
  ]
]

pair_turned : {a b m n : ℕ} → Pair a b m n → Pair a b n m
pair_turned (inl x) = inr (omega arith)
pair_turned (inr x) = inl (omega arith)

pub conflict_turned : {version m n : ℕ} → Conflict version m n → Conflict version n m
conflict_turned (either_writes e c) = either_writes e (elim c [ inl p ↦ inl (pair_turned p) | inr p ↦ inr (pair_turned p) ])
conflict_turned (one_of_three e c) =
    one_of_three e
    (elim c [ inl p ↦ inl (pair_turned p) | inr d ↦ inr (elim d [ inl p ↦ inl (pair_turned p) | inr p ↦ inr (pair_turned p) ]) ])

-- a conflicting lock, and one that has replaced it, is of those beside which none is given
pub conflict_meets : {version m m' n : ℕ} → Conflict version m n → m ≤ m' → (0 < m') × ((2 ≤ n) ⊎ (version < m'))
conflict_meets {version} {m} {m'} {n} c l =
    let x = conflict_modes c in
    (omega (arith, x.0), elim (dec_le 2 n) [ yes h ↦ inl h | no h ↦ inr (omega (arith, x.2)) ])

-- where locks conflict, so do those that replace them in the end: in version 2 these are no write locks
pub conflict_last : {version m n m' n' : ℕ} → Conflict version m n → m ≤ m' → n ≤ n' → m' ≤ suc version → n' ≤ suc version
    → (version ≡ 2 → (m' ≢ 2) × (n' ≢ 2)) → Conflict version m' n'
conflict_last {m' = m'} {n' = n'} (either_writes e c) a b high high' final =
    let x = conflict_modes (either_writes e c) in
    either_writes e (elim (dec_le m' 1) [
      | yes h ↦ inl (inl (omega (arith, x)))
      | no h ↦ elim (dec_le n' 1) [ yes h' ↦ inl (inr (omega (arith, x))) | no h' ↦ inr (inl (omega (arith, x))) ]
    ])
conflict_last {m' = m'} {n' = n'} (one_of_three e c) a b high high' final =
    let x = conflict_modes (one_of_three e c) in
    let f = final e in
    one_of_three e (elim (dec_le m' 1) [
      | yes h ↦ inl (inl (omega (arith, x, f)))
      | no h ↦ elim (dec_le n' 1) [ yes h' ↦ inl (inr (omega (arith, x, f))) | no h' ↦ inr (inr (inl (omega (arith, x, f)))) ]
    ])

-- two runs in conflict are so either way
pub in_conflict_turned : {label : ℕ → Label} {version j k j' k' o m n g h : ℕ} → InConflict label version j k j' k' o m n g h
    → InConflict label version j' k' j k o n m h g
in_conflict_turned C = record {
  another = λ e. C.another (sym e);
  first_finished = C.second_finished;
  second_finished = C.first_finished;
  first_granted = C.second_granted;
  second_granted = C.first_granted;
  conflict = conflict_turned C.conflict;
}
