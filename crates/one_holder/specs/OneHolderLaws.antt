-- The most urgent holder decides: where it is the requester, or there is none, the request passes every lock; else the lowest of its keys is the lowest key of
-- all locks of others. Shown from the order of the holders: each of its locks weighs at most its rank, and every other holder's lock weighs more.
-- Assumes nothing.
use Rattle.std.specs.Prelude.{◌≡◌, refl, ◌≢◌, ◌⊎◌, Bool, true, false, ℕ, ◌+◌, ◌*◌, ◌≤◌, eqb, ltb, if◌then◌else◌}
use Rattle.std.proofs.Common.{sym, ap, ◌∙◌, inl, inr, le_antisymm, arith, eqb-true, ne_eqb, lt-ltb}
use Rattle.std.proofs.Math.Path.{subst}
use Rattle.std.proofs.Math.Decide.{ℕ_discrete}
use Rattle.std.proofs.lemmas.Bool.{eqb-false}
use Rattle.basics.specs.Choice.{clash}
use Rattle.basics.specs.Loops.{least, least-le, least_top, le-least}
use Rattle.ranks.specs.Ranks.{member}
use Rattle.ranks.specs.RankLaws.{member-zero}
use Rattle.state.specs.declared.State.{State}
use Rattle.state.specs.State.{most_jobs, read, write, holders}
use Rattle.state.specs.Facts.{In}
use Rattle.state.specs.Modes.{Mode}
use Rattle.state.specs.Weights.{weight}
use Rattle.state.specs.Holders.{HolderFacts, carried_holds, carried_first, own_weight, others_weigh}
use Rattle.weights.specs.Keys.{lock_key, no_key, key_weight, lowest_key}
use Rattle.weights.specs.ObjectKeys.{held_key}
use Rattle.weights.specs.KeyLaws.{OthersLock, key_below, key_top, le_key}
use Rattle.one_holder.specs.OneHolder.{holder_key_at, holder_key, deciding_key, Decides}

-- a lock that is held has its key
held_is : (set weighs o r : ℕ) → In set r → held_key set weighs o r ≡ lock_key weighs r o
held_is set weighs o r i = simp i

-- a key that is at most no lock's and at most that of a lock that is held is at most both
le_held : (n set weighs o r : ℕ) → n ≤ no_key → (In set r → n ≤ lock_key weighs r o) → n ≤ held_key set weighs o r
le_held n set weighs o r top each = go (member set r) refl
  where
    go : (b : Bool) → member set r ≡ b → n ≤ (if b then lock_key weighs r o else no_key)
    go true e = each e
    go false e = top

-- nobody, rank 0, has no key
nobody_key : (s : State) → holder_key s 0 ≡ no_key
unfolding holder_key
nobody_key s =
    le_antisymm (least_top s.counts.objects no_key (holder_key_at s 0))
    (le-least s.counts.objects no_key (holder_key_at s 0) no_key (omega arith)
    (λ o a b. omega (
      arith,
      le_held no_key (holders s read o) (weight s read 0 o) o 0 (omega arith) (λ i. absurd (clash i (member-zero (holders s read o)))),
      le_held no_key (holders s write o) (weight s write 0 o) o 0 (omega arith) (λ i. absurd (clash i (member-zero (holders s write o)))),
    )))

module _ (s : State) (H : HolderFacts s) where
  -- the key of each of h's locks is at least its lowest
  pub own_below : (h m o : ℕ) → Mode m → In (holders s m o) h → holder_key s h ≤ lock_key (weight s m h o) h o
  unfolding holder_key
  own_below h m o mode i =
      let object = H.object m h o i in
      let low = least-le s.counts.objects no_key (holder_key_at s h) o object.0 object.1 in
      go m mode i low
    where
      go : (m : ℕ) → Mode m → In (holders s m o) h → least s.counts.objects no_key (holder_key_at s h) ≤ holder_key_at s h o
          → least s.counts.objects no_key (holder_key_at s h) ≤ lock_key (weight s m h o) h o
      go m (inl e) i low =
          subst (λ n. In (holders s n o) h → least s.counts.objects no_key (holder_key_at s h) ≤ lock_key (weight s n h o) h o) (sym e)
          (λ j. omega (arith, low, held_is (holders s read o) (weight s read h o) o h j)) i
      go m (inr e) i low =
          subst (λ n. In (holders s n o) h → least s.counts.objects no_key (holder_key_at s h) ≤ lock_key (weight s n h o) h o) (sym e)
          (λ j. omega (arith, low, held_is (holders s write o) (weight s write h o) o h j)) i

  -- whoever holds a lock has a lowest key that weighs at most its rank
  own_bound : (h m o : ℕ) → Mode m → In (holders s m o) h → holder_key s h ≤ h * 65536 + h * 256 + 255
  own_bound h m o mode i = omega (arith, own_below h m o mode i, own_weight s H m h o i, H.object m h o i, H.few)

  -- and so has the most urgent holder
  pub own_high : s.holder ≢ 0 → holder_key s s.holder ≤ s.holder * 65536 + s.holder * 256 + 255
  own_high some =
      let w = carried_holds s H some in
      elim (ℕ_discrete w.0 read) [
        | yes e ↦ own_bound s.holder read w.1 (inl refl) (subst (λ m. In (holders s m w.1) s.holder) e w.2)
        | no d ↦ own_bound s.holder write w.1 (inr refl) (simp (ne_eqb w.0 read d) at w.2)
      ]

  module _ (j : ℕ) where
    -- "If .. that is the requester, the answer is a grant", and where nobody holds a lock: j is more urgent than every lock of others
    pub holder_passes : j ≤ most_jobs → (s.holder ≡ 0) ⊎ (s.holder ≡ j) → (j + 1) * 65536 ≤ lowest_key s j
    holder_passes high c = le_key (weight s) s j ((j + 1) * 65536) (omega arith) (λ m r o l. each c m r o l)
      where
        each : (s.holder ≡ 0) ⊎ (s.holder ≡ j) → (m r o : ℕ) → OthersLock s j m r o → (j + 1) * 65536 ≤ lock_key (weight s m r o) r o
        each (inl e) m r o l = absurd (omega (arith, carried_first s H m r o l.held))
        each (inr e) m r o l =
            omega (arith, others_weigh s H m r o l.held (λ q. l.other (q ∙ e)))

    -- "otherwise only that job's locks decide it": the lowest key of all locks of others is the lowest of its keys
    module _ (some : s.holder ≢ 0) (other : s.holder ≢ j) where
      abbrev h : ℕ
      h = s.holder

      rank_small : (1 ≤ h) × (h ≤ most_jobs)
      rank_small = let w = carried_holds s H some in H.rank w.0 h w.1 w.2

      full_below : lowest_key s j ≤ holder_key s h
      unfolding holder_key
      full_below =
          le-least s.counts.objects no_key (holder_key_at s h) (lowest_key s j) (key_top (weight s) s j)
          (λ o a b. omega (arith, one read o (inl refl) (a, b), one write o (inr refl) (a, b)))
        where
          one : (m o : ℕ) → Mode m → (1 ≤ o) × (o ≤ s.counts.objects) → lowest_key s j ≤ held_key (holders s m o) (weight s m h o) o h
          one m o mode object =
              le_held (lowest_key s j) (holders s m o) (weight s m h o) o h (key_top (weight s) s j)
              (λ i. key_below (weight s) s j m h o (record { mode = mode; other = other; rank = rank_small; object = object; held = i }))

      own_first : holder_key s h ≤ lowest_key s j
      unfolding holder_key
      own_first = le_key (weight s) s j (holder_key s h) (least_top s.counts.objects no_key (holder_key_at s h)) each
        where
          each : (m r o : ℕ) → OthersLock s j m r o → holder_key s h ≤ lock_key (weight s m r o) r o
          each m r o l = elim (ℕ_discrete r h) [
            | yes e ↦ subst (λ x. In (holders s m o) x → holder_key s h ≤ lock_key (weight s m x o) x o) (sym e) (own_below h m o l.mode) l.held
            | no d ↦
                omega (arith, own_high some, others_weigh s H m r o l.held d, rank_small)
          ]

      pub holder_decides : lowest_key s j ≡ holder_key s h
      holder_decides = le_antisymm full_below own_first

    -- so the deciding key decides as the full reading does
    pub deciding : j ≤ most_jobs → Decides j (deciding_key s j) (lowest_key s j)
    deciding high = go (eqb s.holder j) refl (ℕ_discrete s.holder 0)
      where
        passing : (s.holder ≡ 0) ⊎ (s.holder ≡ j) → Decides j no_key (lowest_key s j)
        passing c =
            let passes : ltb j (key_weight (lowest_key s j)) ≡ true = lt-ltb j (key_weight (lowest_key s j)) (omega (arith, holder_passes high c)) in
            record { same = lt-ltb j (key_weight no_key) (omega arith) ∙ sym passes; stops = λ e. absurd (clash passes e) }

        go : (b : Bool) → eqb s.holder j ≡ b → Dec (s.holder ≡ 0) → Decides j (if b then no_key else holder_key s s.holder) (lowest_key s j)
        go true e d = passing (inr (eqb-true s.holder j e))
        go false e (yes z) = subst (λ k. Decides j k (lowest_key s j)) (sym (ap (holder_key s) z ∙ nobody_key s)) (passing (inl z))
        go false e (no d) =
            let is = holder_decides d (eqb-false s.holder j e) in
            record { same = ap (λ k. ltb j (key_weight k)) (sym is); stops = λ q. sym is }
