-- The words of demand 3 and the states say the same, for any events from a fresh state, each one a Step:
-- a job waits where its request is pending, is active where a run goes on, and holds a lock where one weighs.
use Rattle.std.specs.Prelude.{◌≡◌, refl, ◌≢◌, ◌⊎◌, ℕ, zero, suc, ◌≤◌, ◌<◌}
use Rattle.std.proofs.Common.{sym, subst, ◌∙◌, inl, inr, arith}
use Rattle.std.proofs.Math.Decide.{ℕ_discrete, dec_lt}
use Rattle.theory.specs.Words.{Label, Starts, Waits, Unlocks, Ends, Wakens, Never, Run, Pending, by_that_answer, after_waits, Grant, Holds}
use Rattle.theory.specs.Machine.{View, Releases, TurnsWait, Invariant}
use Rattle.theory.specs.Keeps.{Takes}
use Rattle.theory.specs.Links.{Trace}
use Rattle.theory.proofs.Machine.{fresh_invariant}
use Rattle.theory.proofs.Keeps.{ends_kind, takes_took, took_or_kept, wakens_waited, wait_over, began_wait, takes_may}
use Rattle.theory.proofs.Keeps.{step_invariant, takes_stays, takes_one, held_on}

-- ---- intervals

pub extend : (P : ℕ → Type 0) {k t : ℕ} → Never P k t → ¬ P t → Never P k (suc t)
extend P {k} {t} q n i a b p = elim (ℕ_discrete i t) [ yes e ↦ n (subst P e p) | no d ↦ q i a (omega arith) p ]

pub shorter : (P : ℕ → Type 0) {k t : ℕ} → Never P k (suc t) → Never P k t
shorter P q i a b p = q i a (omega arith) p

pub nothing_between : (P : ℕ → Type 0) (t : ℕ) → Never P t (suc t)
nothing_between P t i a b p = omega arith

-- event i ends the run of job j, or wakes it
abbrev pub EndsRun : (ℕ → Label) → ℕ → ℕ → Type 0
EndsRun label j i = Ends (label i) j

abbrev pub WakesJob : (ℕ → Label) → ℕ → ℕ → Type 0
WakesJob label j i = Wakens (label i) j

pub run_on : (label : ℕ → Label) (j k t : ℕ) → Run label j k t → ¬ Ends (label t) j → Run label j k (suc t)
run_on label j k t r n =
    record { begun = omega arith; starts = r.starts; not_ended = extend (EndsRun label j) r.not_ended n }

pub run_before : (label : ℕ → Label) (j k r t : ℕ) → Run label j k t → k < r → r ≤ t → Run label j k r
run_before label j k r t u a b =
    record { begun = a; starts = u.starts; not_ended = λ i c d. u.not_ended i c (omega arith) }

-- a run that goes on behind event r, and that no later event before time t ends
pub run_through : (label : ℕ → Label) (j k r t : ℕ) → r < t → Run label j k (suc r) → Never (EndsRun label j) r t
    → Run label j k t
run_through label j k r t l u n = record {
  begun = omega arith;
  starts = u.starts;
  not_ended = λ i a b e. elim (dec_lt r i) [ yes c ↦ n i c b e | no c ↦ u.not_ended i a (omega arith) e ];
}

pub pending_on : (label : ℕ → Label) (j k o r t : ℕ) → Pending label j k o r t → ¬ Wakens (label t) j → ¬ Ends (label t) j
    → Pending label j k o r (suc t)
pending_on label j k o r t p n m =
    record {
      after_start = p.after_start;
      before = omega arith;
      waits = p.waits;
      run = run_on label j k t p.run m;
      not_woken = extend (WakesJob label j) p.not_woken n;
    }

pub pending_before : (label : ℕ → Label) (j k o r t : ℕ) → Pending label j k o r (suc t) → r < t → Pending label j k o r t
pending_before label j k o r t p l =
    record {
      after_start = p.after_start;
      before = l;
      waits = p.waits;
      run = run_before label j k t (suc t) p.run (omega arith) (omega arith);
      not_woken = shorter (WakesJob label j) p.not_woken;
    }

-- event t begins the wait
pub pending_first : (label : ℕ → Label) (j k o t : ℕ) → Run label j k t → Waits (label t) j o
    → Pending label j k o t (suc t)
pending_first label j k o t r w =
    record {
      after_start = r.begun;
      before = omega arith;
      waits = w;
      run = run_on label j k t r (λ e. omega (arith, ends_kind e));
      not_woken = nothing_between (WakesJob label j) t;
    }

-- the run of a grant goes on
pub grant_run : (label : ℕ → Label) (j k o i : ℕ) → Grant label j k o i → Run label j k i
grant_run label j k o i v = elim v.granted [
  | by_that_answer e g ↦ subst (Run label j k) e v.request.run
  | after_waits p w ↦ p.run
]

-- a lock that the event does not release stays held
pub holds_on : (label : ℕ → Label) (j k o t : ℕ) → Holds label j k o t → ¬ Releases (label t) j o → Holds label j k o (suc t)
holds_on label j k o t h n =
    record {
      first = h.first;
      before = omega (arith, h.before);
      grant = h.grant;
      none_earlier = h.none_earlier;
      not_unlocked = extend (λ i. Unlocks (label i) j o) h.not_unlocked (λ u. n (inl u));
      run = run_on label j k t h.run (λ e. n (inr e));
    }

module _ {N : ℕ} {view : ℕ → View} {label : ℕ → Label} (T : Trace N view label) where
  pub invariant : (t : ℕ) → Invariant N (view t)
  invariant zero = fresh_invariant T.fresh
  invariant (suc t) = step_invariant (T.step t) (invariant t)

  -- ---- runs

  pub active_run : (j t : ℕ) → (view t).active j ≢ 0 → (k : ℕ) × Run label j k t
  active_run j zero b = absurd (b (T.fresh.idle j))
  active_run j (suc t) b = go (active_run j t) ((T.step t).active_same j)
    where
      stays : ¬ Ends (label t) j
      stays e = b (rw e.of_job at ((T.step t).end (ends_kind e)).0)

      go : ((view t).active j ≢ 0 → (k : ℕ) × Run label j k t)
          → ((view (suc t)).active j ≡ (view t).active j) ⊎ (Starts (label t) j ⊎ Ends (label t) j)
          → (k : ℕ) × Run label j k (suc t)
      go ih (inl e) = let h = ih (omega arith) in (h.0, run_on label j h.0 t h.1 stays)
      go ih (inr (inl v)) = (t, record { begun = omega arith; starts = v; not_ended = nothing_between (EndsRun label j) t })
      go ih (inr (inr v)) = absurd (stays v)

  pub run_active : (j k t : ℕ) → Run label j k t → (view t).active j ≢ 0
  run_active j k zero r = absurd (omega (arith, r.begun))
  run_active j k (suc t) r = elim (ℕ_discrete k t) [
    | yes e ↦ started (subst (λ n. Starts (label n) j) e r.starts)
    | no d ↦
        let l : k < t = omega (arith, r.begun) in
        later l (run_active j k t (run_before label j k t (suc t) r l (omega arith))) ((T.step t).active_same j)
  ]
    where
      started : Starts (label t) j → (view (suc t)).active j ≢ 0
      started v = rw v.of_job at ((T.step t).start v.start_done).1

      later : k < t → (view t).active j ≢ 0
          → ((view (suc t)).active j ≡ (view t).active j) ⊎ (Starts (label t) j ⊎ Ends (label t) j)
          → (view (suc t)).active j ≢ 0
      later l h (inl e) = omega arith
      later l h (inr (inl v)) = started v
      later l h (inr (inr v)) = absurd (r.not_ended t l (omega arith) v)

  -- runs of one job don't overlap: only an idle job is started
  not_started_later : (j k k' t : ℕ) → Run label j k t → Run label j k' t → ¬ (k < k')
  not_started_later j k k' t r r' l =
      let u = r'.starts in
      run_active j k k' (run_before label j k k' t r l (omega (arith, r'.begun))) (rw u.of_job at ((T.step k').start u.start_done).0)

  pub one_run : (j k k' t : ℕ) → Run label j k t → Run label j k' t → k ≡ k'
  one_run j k k' t r r' = elim (dec_lt k k') [
    | yes l ↦ absurd (not_started_later j k k' t r r' l)
    | no l ↦ elim (dec_lt k' k) [ yes h ↦ absurd (not_started_later j k' k t r' r h) | no h ↦ omega arith ]
  ]

  pub unlocked_on : (j o i t : ℕ) → i < t → Unlocks (label i) j o → Never (EndsRun label j) i t → (view t).unlocked j ≢ 0
  unlocked_on j o i zero l u q = absurd (omega arith)
  unlocked_on j o i (suc t) l u q = elim (ℕ_discrete i t) [
    | yes e ↦ now o (subst (λ n. Unlocks (label n) j o) e u)
    | no d ↦
        let h = unlocked_on j o i t (omega arith) u (shorter (EndsRun label j) q) in
        later (omega arith) h ((T.step t).unlocked_same j)
  ]
    where
      now : (p : ℕ) → Unlocks (label t) j p → (view (suc t)).unlocked j ≢ 0
      now p v = rw v.of_job at ((T.step t).unlock v.unlock_done).1

      later : i < t → (view t).unlocked j ≢ 0
          → ((view (suc t)).unlocked j ≡ (view t).unlocked j) ⊎ (Unlocks (label t) j (label t).object ⊎ Ends (label t) j)
          → (view (suc t)).unlocked j ≢ 0
      later k h (inl e) = omega arith
      later k h (inr (inl v)) = now (label t).object v
      later k h (inr (inr v)) = absurd (q t k (omega arith) v)

  -- ---- waiting

  pub pending_requested : (j k o r t : ℕ) → Pending label j k o r t → ((view t).requested j ≡ o) × (0 < o)
  pending_requested j k o r zero w = absurd (omega arith)
  pending_requested j k o r (suc t) w = elim (ℕ_discrete r t) [
    | yes e ↦ now (subst (λ n. Waits (label n) j o) e w.waits)
    | no d ↦
        let l : r < t = omega arith in
        let h = pending_requested j k o r t (pending_before label j k o r t w l) in
        later l h ((T.step t).requested_same j)
  ]
    where
      now : Waits (label t) j o → ((view (suc t)).requested j ≡ o) × (0 < o)
      now v = let b = (T.step t).wait v.waits in (rw (v.of_job, v.for_object) at b.1, omega (arith, b.0))

      later : r < t → ((view t).requested j ≡ o) × (0 < o)
          → ((view (suc t)).requested j ≡ (view t).requested j) ⊎ TurnsWait (label t) j
          → ((view (suc t)).requested j ≡ o) × (0 < o)
      later l h (inl e) = (e ∙ h.0, h.1)
      later l h (inr (inl v)) = absurd (omega (arith, (began_wait (T.step t) j v).1))
      later l h (inr (inr (inl v))) = absurd (w.not_woken t l (omega arith) v)
      later l h (inr (inr (inr e))) = absurd (w.run.not_ended t (omega arith) (omega arith) e)

  pub requested_pending : (j t : ℕ) → (view t).requested j ≢ 0
      → (k : ℕ) × (r : ℕ) × Pending label j k ((view t).requested j) r t
  requested_pending j zero a = absurd (a (T.fresh.no_request j))
  requested_pending j (suc t) a = go (requested_pending j t) ((T.step t).requested_same j)
    where
      stays : ¬ (Wakens (label t) j ⊎ Ends (label t) j)
      stays v = a (wait_over (T.step t) j v)

      began : Waits (label t) j (label t).object → Waits (label t) j ((view (suc t)).requested j)
      began v = record {
        waits = v.waits;
        of_job = v.of_job;
        for_object = sym (rw v.of_job at ((T.step t).wait v.waits).1);
      }

      go : ((view t).requested j ≢ 0 → (k : ℕ) × (r : ℕ) × Pending label j k ((view t).requested j) r t)
          → ((view (suc t)).requested j ≡ (view t).requested j) ⊎ TurnsWait (label t) j
          → (k : ℕ) × (r : ℕ) × Pending label j k ((view (suc t)).requested j) r (suc t)
      go ih (inl e) =
          let o = (view (suc t)).requested j in
          let h = subst (λ p. (k : ℕ) × (r : ℕ) × Pending label j k p r t) (sym e) (ih (λ z. a (e ∙ z))) in
          (h.0, h.1, pending_on label j h.0 o h.1 t h.2 (λ w. stays (inl w)) (λ w. stays (inr w)))
      go ih (inr (inl v)) =
          let u = active_run j t (began_wait (T.step t) j v).0.active in
          (u.0, t, pending_first label j u.0 ((view (suc t)).requested j) t u.1 (began v))
      go ih (inr (inr v)) = absurd (stays v)

  -- ---- locks

  pub grant_takes : (j k o t : ℕ) → Grant label j k o t → Takes (view t) (label t) j o
  grant_takes j k o t v = elim v.granted [
    | by_that_answer e g ↦ inl g
    | after_waits p w ↦ inr (w, (pending_requested j k o v.asked t p).0)
  ]

  pub takes_grant : (j o t : ℕ) → Takes (view t) (label t) j o → (k : ℕ) × Grant label j k o t
  takes_grant j o t (inl g) =
      let u = active_run j t (takes_may (T.step t) (invariant t) j o (inl g)).active in (
        u.0,
        record {
          asked = t;
          request = record { run = u.1; granted_or_waits = inl g };
          granted = by_that_answer refl g;
        },
      )
  takes_grant j o t (inr w) =
      let h = requested_pending j t (wakens_waited (T.step t) j w.0).1 in
      let p : Pending label j h.0 o h.1 t = rw w.1 at h.2 in
      let u = run_before label j h.0 h.1 t p.run p.after_start (omega arith) in (
        h.0,
        record {
          asked = h.1;
          request = record { run = u; granted_or_waits = inr p.waits };
          granted = after_waits p w.0;
        },
      )

  -- what a job takes while its run goes on is a grant of that run
  pub takes_own : (j k o t : ℕ) → Run label j k t → Takes (view t) (label t) j o → Grant label j k o t
  takes_own j k o t r x =
      let v = takes_grant j o t x in
      subst (λ n. Grant label j n o t) (one_run j v.0 k t (grant_run label j v.0 o t v.1) r) v.1

  -- an event is a grant to one run at most
  pub one_taker : (j k o j' k' o' g : ℕ) → Grant label j k o g → Grant label j' k' o' g → k ≡ k'
  one_taker j k o j' k' o' g v v' =
      let e = takes_one (T.step g) j o j' o' (grant_takes j k o g v) (grant_takes j' k' o' g v') in
      one_run j k k' g (grant_run label j k o g v) (subst (λ i. Run label i k' g) (sym e) (grant_run label j' k' o' g v'))

  -- so grants of two different runs are at different events
  pub grants_apart : (j k o j' k' o' g g' : ℕ) → k ≢ k' → Grant label j k o g → Grant label j' k' o' g' → (g < g') ⊎ (g' < g)
  grants_apart j k o j' k' o' g g' d v v' = elim (dec_lt g g') [
    | yes l ↦ inl l
    | no l ↦ elim (dec_lt g' g) [
      | yes l' ↦ inr l'
      | no l' ↦ (let e : g ≡ g' = omega arith in absurd (d (one_taker j k o j' k' o' g' (subst (Grant label j k o) e v) v')))
    ]
  ]

  -- a run is granted nothing from the event on that releases one of its locks
  pub granted_earlier : (j k o i p g : ℕ) → Run label j k i → Releases (label i) j o → Grant label j k p g → g < i
  granted_earlier j k o i p g r u v = elim (dec_lt g i) [
    | yes l ↦ l
    | no l ↦ elim (ℕ_discrete i g) [
      | yes e ↦ absurd (takes_stays (T.step g) j p o x (subst (λ n. Releases (label n) j o) e u))
      | no d ↦ absurd (later (omega arith) u)
    ]
  ]
    where
      x : Takes (view g) (label g) j p
      x = grant_takes j k p g v

      goes_on : Run label j k g
      goes_on = grant_run label j k p g v

      later : i < g → ¬ Releases (label i) j o
      later l (inl z) =
          unlocked_on j o i g l z (λ n a b. goes_on.not_ended n (omega (arith, r.begun)) b)
          (takes_may (T.step g) (invariant g) j p x).not_unlocked
      later l (inr e) = goes_on.not_ended i r.begun l e

  -- a lock that was granted and not released is held
  pub grant_held : (j k o g t : ℕ) → g < t → Grant label j k o g → Never (λ i. Releases (label i) j o) g t
      → (view t).weight j o < N
  grant_held j k o g zero l v q = absurd (omega arith)
  grant_held j k o g (suc t) l v q = elim (ℕ_discrete g t) [
    | yes e ↦ now (grant_takes j k o t (subst (Grant label j k o) e v))
    | no d ↦
        let h = grant_held j k o g t (omega arith) v (shorter (λ i. Releases (label i) j o) q) in
        held_on (T.step t) j o h (q t (omega arith) (omega arith))
  ]
    where
      now : Takes (view t) (label t) j o → (view (suc t)).weight j o < N
      now k' = omega (arith, (takes_took (T.step t) j o k').cap, (takes_may (T.step t) (invariant t) j o k').rank)

  pub holds_held : (j k o t : ℕ) → Holds label j k o t → (view t).weight j o < N
  holds_held j k o t h = grant_held j k o h.first t h.before h.grant never
    where
      never : Never (λ i. Releases (label i) j o) h.first t
      never i a b (inl u) = h.not_unlocked i a b u
      never i a b (inr e) = h.run.not_ended i (omega (arith, (grant_run label j k o h.first h.grant).begun)) b e

  -- a job that has not unlocked in its run still holds what it was granted since the run began
  pub grant_kept : (j k o k' g t : ℕ) → Run label j k t → (view t).unlocked j ≡ 0 → k < g → g < t → Grant label j k' o g
      → (view t).weight j o < N
  grant_kept j k o k' g t r z a l v = grant_held j k' o g t l v never
    where
      never : Never (λ i. Releases (label i) j o) g t
      never i c d (inl u) = unlocked_on j o i t d u (λ n e f. r.not_ended n (omega arith) f) z
      never i c d (inr e) = r.not_ended i (omega arith) d e

  pub held_holds : (j o t : ℕ) → (view t).weight j o < N → (k : ℕ) × Holds label j k o t
  held_holds j o zero h = absurd (omega (arith, T.fresh.no_lock j o))
  held_holds j o (suc t) h = go (held_holds j o t) (dec_lt ((view t).weight j o) N) (took_or_kept (T.step t) j o h)
    where
      more : ¬ Releases (label t) j o → (k : ℕ) × Holds label j k o t → (k : ℕ) × Holds label j k o (suc t)
      more n h = (h.0, holds_on label j h.0 o t h.1 n)

      go : ((view t).weight j o < N → (k : ℕ) × Holds label j k o t) → Dec ((view t).weight j o < N)
          → Takes (view t) (label t) j o ⊎ (((view t).weight j o ≡ (view (suc t)).weight j o) × (¬ Releases (label t) j o))
          → (k : ℕ) × Holds label j k o (suc t)
      go ih (yes b) (inl x) = more (takes_stays (T.step t) j o o x) (ih b)
      go ih (yes b) (inr m) = more m.1 (ih b)
      go ih (no b) (inl x) =
          let f = takes_may (T.step t) (invariant t) j o x in
          let v = takes_grant j o t x in
          let k = v.0 in
          let r = grant_run label j k o t v.1 in (
            k,
            record {
              first = t;
              before = omega arith;
              grant = v.1;
              none_earlier = λ i a c u. b (grant_kept j k o k i t r f.not_unlocked a c u);
              not_unlocked = nothing_between (λ i. Unlocks (label i) j o) t;
              run = run_on label j k t r (λ e. takes_stays (T.step t) j o o x (inr e));
            },
          )
      go ih (no b) (inr m) = absurd (omega arith)
