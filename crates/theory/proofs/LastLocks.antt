-- Locks that conflict, of two runs, and the last lock of a finished run, of any events from a fresh state, where each event is a Step and a ModeStep
-- and keeps conflicting locks apart. A lock that conflicts with one of another run meets in it a weight at least as urgent as its rank:
-- so it is granted only once that one is released, and the two are never held together.
use Rattle.std.specs.Prelude.{◌≡◌, refl, ◌≢◌, ◌⊎◌, ℕ, suc, ◌≤◌, ◌<◌}
use Rattle.std.proofs.Common.{sym, subst, ◌∙◌, inl, inr, arith}
use Rattle.std.proofs.Math.Decide.{ℕ_discrete, dec_le, le_ind}
use Rattle.theory.specs.Words.{Label, Unlocks, Ends, Never, Run}
use Rattle.theory.specs.WriteLocks.{GrantIn, HoldsIn, Finishes}
use Rattle.theory.specs.Arrows.{Conflict, Finished, Released, InConflict, NeverTogether}
use Rattle.theory.specs.Machine.{View, Releases}
use Rattle.theory.specs.Modes.{Modes, Gives, ModeStep, KeepsApart}
use Rattle.theory.proofs.Keeps.{takes_took}
use Rattle.theory.specs.Links.{Trace}
use Rattle.theory.proofs.Links.{extend, nothing_between, run_before, grant_run, one_run, grant_takes, grants_apart, granted_earlier}
use Rattle.theory.proofs.HeldModes.{grant_gives, not_released, held_in, HoldsFrom, holds_since}
use Rattle.theory.proofs.ConflictLaws.{conflict_turned, conflict_meets}

module _ (label : ℕ → Label) where
  pub finish_ends : {j k f : ℕ} → Finishes label j k f → Ends (label f) j
  finish_ends F = record { finish_or_abandonment_done = inl F.finish_done; of_job = F.of_job }

  dec_unlocks : (j o t : ℕ) → Unlocks (label t) j o ⊎ (¬ Unlocks (label t) j o)
  dec_unlocks j o t = elim (ℕ_discrete (label t).what 4) [
    | yes a ↦ elim (ℕ_discrete (label t).job j) [
      | yes b ↦ elim (ℕ_discrete (label t).object o) [
        | yes c ↦ inl (record { unlock_done = a; of_job = b; of_object = c })
        | no c ↦ inr (λ u. c u.of_object)
      ]
      | no b ↦ inr (λ u. b u.of_job)
    ]
    | no a ↦ inr (λ u. a u.unlock_done)
  ]

  -- the first release of job j's lock on object o after event g: the first unlock, or else the finish f
  record FirstRelease (j o g f : ℕ) : Type 0 where
    event : ℕ
    after : g < event
    in_time : event ≤ f
    never : Never (λ i. Unlocks (label i) j o) g event
    by : Unlocks (label event) j o ⊎ (event ≡ f)

  first_release : (j o g f : ℕ) → g < f → FirstRelease j o g f
  first_release j o g f l = elim (le_ind P (inl (nothing_between Q g)) next f l) [
    | inl never ↦ record { event = f; after = l; in_time = omega arith; never = never; by = inr refl }
    | inr x ↦ record { event = x.0; after = x.1; in_time = omega (arith, x.2); never = x.3; by = inl x.4 }
  ]
    where
      Q : ℕ → Type 0
      Q i = Unlocks (label i) j o

      P : ℕ → Type 0
      P t = Never Q g t ⊎ ((i : ℕ) × (g < i) × (i < t) × Never Q g i × Q i)

      next : (n : ℕ) → g < n → P n → P (suc n)
      next n a (inl never) = elim (dec_unlocks j o n) [ inl u ↦ inr (n, a, omega arith, never, u) | inr d ↦ inl (extend Q never d) ]
      next n a (inr x) = inr (x.0, x.1, omega (arith, x.2), x.3, x.4)

module _ {N version : ℕ} {view : ℕ → View} {modes : ℕ → Modes} {label : ℕ → Label} (T : Trace N view label)
    (M : (i : ℕ) → ModeStep (view i) (modes i) (label i) (modes (suc i)))
    (K : (i : ℕ) → KeepsApart version (view i) (modes i) (label i)) where
  gives : (j k o m g : ℕ) → GrantIn label m j k o g → Gives (view g) (modes g) (label g) j o m
  gives j k o m g v = subst (Gives (view g) (modes g) (label g) j o) v.in_mode (grant_gives T M j k o g v.grant)

  -- ---- conflicting locks

  -- a lock of mode m or a stronger one that one run holds and does not release keeps another run from what conflicts with m
  kept_from : (j k j' k' o m n g : ℕ) → k ≢ k' → HoldsFrom T M m j k o g → ¬ Releases (label g) j o → GrantIn label n j' k' o g
      → ¬ Conflict version m n
  kept_from j k j' k' o m n g d (m', l, h) stays v c =
      let meets = conflict_meets c l in
      let e : (modes g).held j o ≡ m' = held_in T M m' j k o g h in
      let weighs = (K g).meets j' o n j (gives j' k' o n g v) other (omega (arith, meets.0)) (elim meets.1 [ inl a ↦ inl a | inr a ↦ inr (omega arith) ]) in
      elim ((T.step g).release j o) [
        | inl same ↦ omega (arith, weighs, (takes_took (T.step g) j' o (grant_takes T j' k' o g v.grant)).pass j o other)
        | inr r ↦ stays r
      ]
    where
      -- runs of one job don't overlap
      other : j ≢ j'
      other q = d (one_run T j k k' g h.holds.run (subst (λ x. Run label x k' g) (sym q) (grant_run label j' k' o g v.grant)))

  -- of two conflicting locks that are held together the one granted last would have met the other
  met : (j k j' k' o m n t : ℕ) → k ≢ k' → (h : HoldsIn label m j k o t) (h' : HoldsIn label n j' k' o t) → h.last < h'.last → ¬ Conflict version m n
  met j k j' k' o m n t d h h' l =
      let g = h'.last in
      let never = not_released T M m j k o t h in
      let begun = (grant_run label j k o h.last h.grant.grant).begun in
      let r = run_before label j k g t h.holds.run (omega (arith, begun)) (omega (arith, h'.before)) in
      let before = holds_since T M m j k o h.last g h.grant l r (λ i a b x. never i a (omega (arith, h'.before)) x.1) in
      kept_from j k j' k' o m n g d before (never g l h'.before) h'.grant

  pub trace_never_together : NeverTogether label version
  trace_never_together j k j' k' o m n t d h h' c =
      elim (grants_apart T j k o j' k' o h.last h'.last d h.grant.grant h'.grant.grant) [
        | inl l ↦ met j k j' k' o m n t d h h' l c
        | inr l ↦ met j' k' j k o n m t (λ e. d (sym e)) h' h l (conflict_turned c)
      ]

  -- ---- the last lock of a finished run

  -- the lock that the run was granted in mode m on object o by event g, and what has replaced it, to its release:
  -- it is released in a mode that the version knows, and in version 2 not as a write lock
  pub record LastLock (m j k o g : ℕ) : Type 0 where
    pub mode : ℕ
    pub stronger : m ≤ mode
    pub known : mode ≤ suc version
    pub final : version ≡ 2 → mode ≢ 2
    pub release : ℕ
    pub after : g < release
    pub released : Released label mode j k o release
    pub never : Never (λ i. Releases (label i) j o) g release

  pub last_lock : (m j k o g : ℕ) → Finished label j k → GrantIn label m j k o g → LastLock m j k o g
  last_lock m j k o g F v =
      let h = holds_since T M m j k o g R.event v R.after run (λ i a b x. never i a b x.1) in
      record {
        mode = h.0;
        stronger = h.1;
        known = (K h.2.last).mode j o h.0 (gives j k o h.0 h.2.last h.2.grant);
        final = λ e. final e h.0 h.2 R.by;
        release = R.event;
        after = R.after;
        released = record {
          held = h.2;
          unlock_or_end = elim R.by [ inl u ↦ inl u | inr e ↦ inr (subst (λ i. Ends (label i) j) (sym e) (finish_ends label F.finishes)) ];
        };
        never = never;
      }
    where
      f : ℕ
      f = F.finish

      begun : k < g
      begun = (grant_run label j k o g v.grant).begun

      R : FirstRelease label j o g f
      R = first_release label j o g f (granted_earlier T j k o f o g F.finishes.run (inr (finish_ends label F.finishes)) v.grant)

      run : Run label j k R.event
      run = run_before label j k R.event f F.finishes.run (omega (arith, begun, R.after)) R.in_time

      never : Never (λ i. Releases (label i) j o) g R.event
      never i a b (inl u) = R.never i a b u
      never i a b (inr e) = run.not_ended i (omega (arith, begun)) b e

      final : version ≡ 2 → (n : ℕ) → HoldsIn label n j k o R.event → Unlocks (label R.event) j o ⊎ (R.event ≡ f) → n ≢ 2
      final e n h (inl u) q = omega (arith, held_in T M n j k o R.event h, rw (u.of_job, u.of_object) at ((M R.event).unlock u.unlock_done))
      final e n h (inr z) q =
          (K f).finish e F.finishes.finish_done o
          (subst (λ x. (modes f).held x o ≡ 2) (sym F.finishes.of_job) (subst (λ i. (modes i).held j o ≡ n) z (held_in T M n j k o R.event h) ∙ q))

  -- ---- two runs in conflict

  -- THE ARGUMENT: what conflicts with an earlier lock of another run is granted once that one is released
  pub released_before : {j k j' k' o m n g h : ℕ} (C : InConflict label version j k j' k' o m n g h) → g < h
      → (last_lock m j k o g C.first_finished C.first_granted).release ≤ h
  released_before {j} {k} {j'} {k'} {o} {m} {n} {g} {h} C l =
      let L = last_lock m j k o g C.first_finished C.first_granted in
      elim (dec_le L.release h) [
        | yes a ↦ a
        | no a ↦
            let begun = (grant_run label j k o g C.first_granted.grant).begun in
            let run = run_before label j k h L.release L.released.held.holds.run (omega (arith, begun)) (omega arith) in
            let held = holds_since T M m j k o g h C.first_granted l run (λ i b c x. L.never i b (omega arith) x.1) in
            absurd (kept_from j k j' k' o m n h C.another held (L.never h l (omega arith)) C.second_granted C.conflict)
      ]
