-- A request that passes is more urgent than every lock of others, and conflicts with none of them: each lock that it would conflict with weighs at least as
-- urgent as the requester.
-- Assumes nothing.
use Rattle.std.specs.Prelude.{◌≡◌, refl, ◌≢◌, true, ℕ, ◌≤◌, ◌<◌}
use Rattle.std.proofs.Common.{sym, inl, inr, arith, ltb-true}
use Rattle.state.specs.declared.State.{State}
use Rattle.state.specs.State.{read, write, holders, holds}
use Rattle.state.specs.Facts.{In, RequestFacts, Facts}
use Rattle.state.specs.Holders.{HolderFacts, AboveOthers}
use Rattle.state.specs.Modes.{Mode, either_mode}
use Rattle.state.specs.Keeping.{NoConflict, writable}
use Rattle.state.specs.Weights.{weight}
use Rattle.state.specs.WeightLaws.{read_writer, write_any, write_writer}
use Rattle.weights.specs.Keys.{key_weight, lowest_key}
use Rattle.weights.specs.KeyLaws.{key_below}
use Rattle.rule.specs.Granting.{passes}
use Rattle.rule.proofs.GrantingTheorems.{passes_more_urgent}

-- who passes is more urgent than every lock of others
pub above_others : (s : State) → HolderFacts s → (j : ℕ) → passes s j ≡ true → AboveOthers s j
unfolding weight
above_others s H j pass x m o d =
    either_mode (λ f. In (f (holders s read o) (holders s write o)) x → j < f (weight s read x o) (weight s write x o)) (one read (inl refl)) (one write (inr refl)) m
  where
    one : (n : ℕ) → Mode n → In (holders s n o) x → j < weight s n x o
    one n mode i =
        let rank = H.rank n x o i in
        let object = H.object n x o i in
        omega (
          arith,
          ltb-true j (key_weight (lowest_key s j)) pass,
          key_below (weight s) s j n x o (record { mode = mode; other = λ q. d (sym q); rank = rank; object = object; held = i }),
          rank,
          object,
          H.few,
        )

pub no_conflict : (s : State) (F : Facts s) (r : ℕ) → 1 ≤ r → r ≤ s.counts.jobs → (m o : ℕ) → RequestFacts s m r o → passes s r ≡ true
    → NoConflict s m r o
no_conflict s F r low high m o A pass = record {
  none_alone = λ none x d i. omega (arith, meets x d write (inr refl) i, write_any s m r x o none A.right);
  no_writer = λ k x d i. omega (arith, meets x d write (inr refl) i, write_writer s r x o (writable s F r low high m o A k));
  no_reader = λ k x d i. omega (arith, meets x d read (inl refl) i, read_writer s r x o (writable s F r low high m o A k));
}
  where
    -- r is more urgent than the weight of each lock of another job on o
    meets : (x : ℕ) → r ≢ x → (n : ℕ) → Mode n → holds s n x o ≡ true → r < weight s n x o
    meets x d n k i = passes_more_urgent s F r pass n x o (record { mode = k; other = λ q. d (sym q); held = i })
