-- The mode in which a run holds a lock, in the words and in what the states show, of any events from a fresh state, where each event is a Step and a ModeStep:
-- a grant gives its mode; and as long as the lock is not released it is held in that mode, or in a stronger one by a later grant there.
use Rattle.std.specs.Prelude.{◌≡◌, refl, ◌⊎◌, ℕ, zero, suc, ◌≤◌, ◌<◌}
use Rattle.std.proofs.Common.{sym, subst, ap, ◌∙◌, inl, inr, arith}
use Rattle.std.proofs.Math.Decide.{ℕ_discrete, dec_le, le_ind}
use Rattle.theory.specs.Words.{Label, Waits, Never, Run, Pending, by_that_answer, after_waits, Grant, Holds}
use Rattle.theory.specs.WriteLocks.{GrantIn, HoldsIn}
use Rattle.theory.specs.Machine.{View, Releases, TurnsWait}
use Rattle.theory.proofs.Keeps.{began_wait, takes_stays}
use Rattle.theory.specs.Links.{Trace}
use Rattle.theory.proofs.Links.{extend, nothing_between, run_on, run_before, pending_before, grant_run, holds_on}
use Rattle.theory.proofs.Links.{one_run, pending_requested, grant_takes, takes_own, grant_held, held_holds}
use Rattle.theory.specs.Modes.{Modes, Gives, Given, ModeStep}

module _ {N : ℕ} {view : ℕ → View} {modes : ℕ → Modes} {label : ℕ → Label} (T : Trace N view label)
    (M : (i : ℕ) → ModeStep (view i) (modes i) (label i) (modes (suc i))) where
  -- ---- grants

  -- a pending request is in the state with its mode
  pending_asked : (j k o r t : ℕ) → Pending label j k o r t → (modes t).asked j ≡ (label r).mode
  pending_asked j k o r zero p = absurd (omega (arith, p.before))
  pending_asked j k o r (suc t) p = elim (ℕ_discrete r t) [
    | yes e ↦ subst (λ n. (modes (suc t)).asked j ≡ (label n).mode) (sym e) (now (subst (λ n. Waits (label n) j o) e p.waits))
    | no d ↦
        let l : r < t = omega (arith, p.before) in
        let q = pending_before label j k o r t p l in
        later l q (pending_asked j k o r t q) ((M t).asked_same j)
  ]
    where
      now : Waits (label t) j o → (modes (suc t)).asked j ≡ (label t).mode
      now v = rw v.of_job at ((M t).wait v.waits)

      later : r < t → Pending label j k o r t → (modes t).asked j ≡ (label r).mode
          → ((modes (suc t)).asked j ≡ (modes t).asked j) ⊎ TurnsWait (label t) j → (modes (suc t)).asked j ≡ (label r).mode
      later l q h (inl e) = e ∙ h
      later l q h (inr (inl v)) = absurd (omega (arith, pending_requested T j k o r t q, (began_wait (T.step t) j v).1))
      later l q h (inr (inr (inl v))) = absurd (p.not_woken t l (omega arith) v)
      later l q h (inr (inr (inr e))) = absurd (p.run.not_ended t (omega (arith, p.after_start)) (omega arith) e)

  -- what a grant gives
  pub grant_gives : (j k o g : ℕ) (v : Grant label j k o g) → Gives (view g) (modes g) (label g) j o (label v.asked).mode
  grant_gives j k o g v = elim v.granted [
    | by_that_answer e a ↦ inl (a, sym (ap (λ i. (label i).mode) e))
    | after_waits p w ↦ inr (w, (pending_requested T j k o v.asked g p).0, pending_asked j k o v.asked g p)
  ]

  -- is held then, and is stronger than what was held
  pub grant_given : (j k o g : ℕ) (v : Grant label j k o g) → Given (modes g).held (modes (suc g)).held j o (label v.asked).mode
  grant_given j k o g v = (M g).give j o (label v.asked).mode (grant_gives j k o g v)

  -- an event that does not release a run's lock leaves it as it is, or is the run's grant there
  pub same_or_granted : (j k o t : ℕ) → Run label j k t → ¬ Releases (label t) j o
      → ((modes (suc t)).held j o ≡ (modes t).held j o) ⊎ Grant label j k o t
  same_or_granted j k o t r n = elim ((M t).held_same j o) [
    | inl e ↦ inl e
    | inr x ↦ elim x [ inl a ↦ inr (takes_own T j k o t r a) | inr a ↦ absurd (n a) ]
  ]

  -- ---- locks

  -- since its last grant the lock has not been released
  pub not_released : (m j k o t : ℕ) (h : HoldsIn label m j k o t) → Never (λ i. Releases (label i) j o) h.last t
  not_released m j k o t h i a b (inl u) = h.holds.not_unlocked i (omega (arith, first)) b u
    where
      first : h.holds.first ≤ h.last
      first = elim (dec_le h.holds.first h.last) [
        | yes l ↦ l
        | no l ↦ absurd (h.holds.none_earlier h.last (grant_run label j k o h.last h.grant.grant).begun (omega arith) h.grant.grant)
      ]
  not_released m j k o t h i a b (inr e) =
      h.holds.run.not_ended i (omega (arith, (grant_run label j k o h.last h.grant.grant).begun)) b e

  -- and so the state shows it in its mode
  pub held_in : (m j k o t : ℕ) → HoldsIn label m j k o t → (modes t).held j o ≡ m
  held_in m j k o t h =
      le_ind (λ n. n ≤ t → (modes n).held j o ≡ m) (λ a. (grant_given j k o h.last h.grant.grant).holds ∙ h.grant.in_mode) next t
      h.before (omega arith)
    where
      next : (n : ℕ) → h.last < n → (n ≤ t → (modes n).held j o ≡ m) → suc n ≤ t → (modes (suc n)).held j o ≡ m
      next n a ih b =
          let begun = (grant_run label j k o h.last h.grant.grant).begun in
          let r = run_before label j k n t h.holds.run (omega (arith, begun)) (omega arith) in
          elim (same_or_granted j k o n r (not_released m j k o t h n a (omega arith))) [
            | inl e ↦ e ∙ ih (omega arith)
            | inr v ↦ absurd (h.none_later n a (omega arith) v)
          ]

  -- what is granted is held in its mode,
  pub holds_first : (m j k o g : ℕ) → GrantIn label m j k o g → HoldsIn label m j k o (suc g)
  holds_first m j k o g v =
      let stays = takes_stays (T.step g) j o o (grant_takes T j k o g v.grant) in
      let r = run_on label j k g (grant_run label j k o g v.grant) (λ e. stays (inr e)) in
      let h = held_holds T j o (suc g) (grant_held T j k o g (suc g) (omega arith) v.grant (nothing_between (λ i. Releases (label i) j o) g)) in
      record {
        holds = subst (λ i. Holds label j i o (suc g)) (one_run T j h.0 k (suc g) h.1.run r) h.1;
        last = g;
        before = omega arith;
        grant = v;
        none_later = nothing_between (λ i. Grant label j k o i) g;
      }

  -- a mode m or a stronger one in which the run holds the lock
  abbrev pub HoldsFrom : (m j k o t : ℕ) → Type 0
  HoldsFrom m j k o t = (n : ℕ) × (m ≤ n) × HoldsIn label n j k o t

  -- and behind an event that does not release it in the same one or, by that event, in a stronger one
  pub holds_next : (m j k o t : ℕ) → HoldsFrom m j k o t → ¬ Releases (label t) j o → HoldsFrom m j k o (suc t)
  holds_next m j k o t (n, l, h) stays = elim (same_or_granted j k o t h.holds.run stays) [
    | inl e ↦ (
      n,
      l,
      record {
        holds = on;
        last = h.last;
        before = omega (arith, h.before);
        grant = h.grant;
        none_later =
            extend (λ i. Grant label j k o i) h.none_later
            (λ v. (let G = grant_given j k o t v in omega (arith, G.holds, G.stronger)));
      },
    )
    | inr v ↦ (
      (label v.asked).mode,
      omega (arith, l, (grant_given j k o t v).stronger, held_in n j k o t h),
      record {
        holds = on;
        last = t;
        before = omega arith;
        grant = record { grant = v; in_mode = refl };
        none_later = nothing_between (λ i. Grant label j k o i) t;
      },
    )
  ]
    where
      on : Holds label j k o (suc t)
      on = holds_on label j k o t h.holds stays

  -- so it is as long as the run goes on and the lock is not released
  pub holds_since : (m j k o g t : ℕ) → GrantIn label m j k o g → g < t → Run label j k t
      → Never (λ i. HoldsFrom m j k o i × Releases (label i) j o) g t → HoldsFrom m j k o t
  holds_since m j k o g t v l r never =
      le_ind (λ n. n ≤ t → HoldsFrom m j k o n) (λ a. (m, omega arith, holds_first m j k o g v))
      (λ n a ih b. (let h = ih (omega arith) in holds_next m j k o n h (λ x. never n a b (h, x)))) t l (omega arith)
