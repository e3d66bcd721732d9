-- Demand 3 holds of any events from a fresh state, where each event is a Step and each state is Seen.
-- Sentence 1: whoever waits names the most urgent holder, which does not wait (Keeps).
-- Sentence 2: in one wait no further less urgent job comes to block j,
-- and once it has a lock a run names only more urgent jobs.
-- Sentence 3: while j waits, each other holder is one of those that held a lock when the wait began, unless another job
-- took its first lock since; that one is more urgent than j, for a less urgent one is given a lock only if it holds one
-- that blocks j.
-- Last: what the statement says besides, of two waiting jobs and of meanwhile.
use Rattle.std.specs.Prelude.{◌≡◌, refl, ◌≢◌, ◌↔◌, ◌⊎◌, ℕ, zero, suc, ◌≤◌, ◌<◌}
use Rattle.std.proofs.Common.{sym, subst, ◌∙◌, inl, inr, arith}
use Rattle.std.proofs.Math.Decide.{ℕ_discrete, dec_le, dec_lt, le_ind}
use Rattle.theory.specs.Words.{Label, Waits, Ends, Abandons, Wakens, Never, Run, Pending, after_waits, Waiting, Grant, FirstLock, ThoseEnded, Meanwhile, EndsLast, MostUrgentHolder, Sentence1, Sentence2, GrantedBy, Excepted, abandoned, took_first_lock, Sentence3, Demand3}
use Rattle.theory.specs.Machine.{View, TurnsWait, Seen, Invariant}
use Rattle.theory.specs.Keeps.{Takes, TopHolder}
use Rattle.theory.proofs.Keeps.{taking, took_or_kept, began_wait, takes_may, takes_stays, takes_one, taker_held, blockers_shrink, named_lock, named_top, top_not_waiting, one_blocker}
use Rattle.theory.specs.Links.{Trace}
use Rattle.theory.proofs.Links.{extend, nothing_between, EndsRun, run_before, run_through, pending_on, pending_first, grant_run, invariant, pending_requested, active_run, takes_grant, grant_kept, holds_held, held_holds}

-- some number has the property, or none below n has
find : (P : ℕ → Type 0) → ((i : ℕ) → Dec (P i)) → (n : ℕ) → ((i : ℕ) × P i) ⊎ ((i : ℕ) → i < n → ¬ P i)
find P d zero = inr (λ i h p. omega arith)
find P d (suc n) = go (find P d n) (d n)
  where
    go : ((i : ℕ) × P i) ⊎ ((i : ℕ) → i < n → ¬ P i) → Dec (P n) → ((i : ℕ) × P i) ⊎ ((i : ℕ) → i < suc n → ¬ P i)
    go (inl f) e = inl f
    go (inr f) (yes p) = inl (n, p)
    go (inr f) (no q) = inr (λ i h p. elim (ℕ_discrete i n) [ yes e ↦ q (subst P e p) | no d' ↦ f i (omega arith) p ])

dec_ends : (l : Label) (j : ℕ) → Dec (Ends l j)
dec_ends l j = elim (ℕ_discrete l.job j) [
  | yes e ↦ elim (ℕ_discrete l.what 5) [
    | yes a ↦ yes (record { finish_or_abandonment_done = inl a; of_job = e })
    | no a ↦ elim (ℕ_discrete l.what 6) [
      | yes b ↦ yes (record { finish_or_abandonment_done = inr b; of_job = e })
      | no b ↦ no (λ z. elim z.finish_or_abandonment_done [ inl c ↦ a c | inr c ↦ b c ])
    ]
  ]
  | no d ↦ no (λ z. d z.of_job)
]

-- what is meanwhile comes before the time at which those runs have ended
pub meanwhile_before : (label : ℕ → Label) (j r i t : ℕ) → Meanwhile label j r i → ThoseEnded label j r t → i < t
meanwhile_before label j r i t m ended = elim (dec_lt i t) [
  | yes l ↦ l
  | no l ↦
      let e = ended m.job m.start m.one_of_those in
      absurd (m.goes_on.not_ended e.end e.after_start (omega arith) e.ends)
]

module _ {N M : ℕ} {view : ℕ → View} {label : ℕ → Label} (T : Trace N view label) (W : (i : ℕ) → Seen N M (view i)) where
  abbrev named : ℕ → ℕ → ℕ
  named t = (view t).names

  I : (t : ℕ) → Invariant N (view t)
  I = invariant T

  pending_waits : (j k o r t : ℕ) → Pending label j k o r t → (view t).requested j ≢ 0
  pending_waits j k o r t p = let h = pending_requested T j k o r t p in omega arith

  waiting_waits : (j t : ℕ) → Waiting label j t → (view t).requested j ≢ 0
  waiting_waits j t w = pending_waits j w.start w.object w.asked t w.pending

  -- ---- sentence 1

  top_most_urgent : (m t : ℕ) → TopHolder N (view t) m → MostUrgentHolder label m t
  top_most_urgent m t u =
      let h = held_holds T m u.0.0 t u.0.1 in
      record {
        holder = record { start = h.0; object = u.0.0; holds = h.1 };
        most_urgent = λ x y z. omega (arith, u.1 x y.object (holds_held T x y.start y.object t y.holds));
      }

  one : (t : ℕ) → Sentence1 label named t
  one t j w =
      let a = waiting_waits j t w in
      let u = named_top (I t) (W t) j a in
      let r = active_run T j t ((I t).waits j a).active in
      let m = (view t).names j in
      record {
        named_job = m;
        start = r.0;
        names = record { run = r.1; question_gives = refl };
        most_urgent_holder = top_most_urgent m t u;
        not_waiting = λ w'. waiting_waits m t w' (top_not_waiting (I t) (W t) m u);
      }

  -- ---- sentence 2

  -- j names a less urgent job at time t
  abbrev NamesLess : (j t : ℕ) → Type 0
  NamesLess j t = j < (view t).names j

  -- then it waits
  less_waits : (j t : ℕ) → NamesLess j t → (view t).requested j ≢ 0
  less_waits j t l e = omega (arith, (W t).names_nobody j e)

  -- and holds nothing
  less_bare : (j t : ℕ) → NamesLess j t → (o : ℕ) → ¬ ((view t).weight j o < N)
  less_bare j t l o h = omega (arith, (named_top (I t) (W t) j (less_waits j t l)).1 j o h)

  -- from time b on, in one run: j has been granted a lock, or it still waits and no further less urgent job blocks it
  abbrev Since : (j b t : ℕ) → Type 0
  Since j b t =
      ((g : ℕ) × (o : ℕ) × (k : ℕ) × (b ≤ g) × (g < t) × Grant label j k o g)
      ⊎ (((view t).requested j ≢ 0) × ((m o : ℕ) → j < m → (view t).weight m o ≤ j → (p : ℕ) × ((view b).weight m p ≤ j)))

  since : (j k b t : ℕ) → b ≤ t → k < b → (view b).requested j ≢ 0 → Run label j k t → Since j b t
  since j k b t l c a r =
      le_ind (λ n. n ≤ t → Since j b n) (λ z. inr (a, λ m o d h. (o, h)))
      (λ n z ih h. step n z h (ih (omega arith)) ((T.step n).requested_same j)) t l (omega arith)
    where
      step : (n : ℕ) → b ≤ n → suc n ≤ t → Since j b n
          → ((view (suc n)).requested j ≡ (view n).requested j) ⊎ TurnsWait (label n) j → Since j b (suc n)
      step n z h (inl g) s = inl (g.0, g.1, g.2, g.3, omega (arith, g.4), g.5)
      step n z h (inr x) (inl e) =
          let a' : (view (suc n)).requested j ≢ 0 = λ u. x.0 (sym e ∙ u) in
          inr (
            a',
            λ m o d g.
                let y = blockers_shrink (T.step n) (I n) j m o a' ((I n).waits j x.0).rank d g in
                x.1 m y.0 d y.1,
          )
      step n z h (inr x) (inr (inl v)) = absurd (x.0 (began_wait (T.step n) j v).1)
      step n z h (inr x) (inr (inr (inl w))) =
          let o = (view n).requested j in
          let v = takes_grant T j o n (inr (w, refl)) in
          inl (n, o, v.0, z, omega arith, v.1)
      step n z h (inr x) (inr (inr (inr e))) = absurd (r.not_ended n (omega arith) h e)

  two : (j k : ℕ) → Sentence2 label named j k
  two j k = record {
    at_most_one = λ t t' m m' n n' l l'.
        sym n.question_gives ∙ (both t t' n.run n'.run (omega arith) (omega arith) ∙ n'.question_gives);
    only_without_lock = λ t m o n l h. less_bare j t (omega arith) o (holds_held T j k o t h);
  }
    where
      meet : (t t' : ℕ) → k < t → Run label j k t' → NamesLess j t → NamesLess j t' → Since j t t' → named t j ≡ named t' j
      meet t t' c r l l' (inl g) =
          let f = (I t').waits j (less_waits j t' l') in
          let h = grant_kept T j k g.1 g.2 g.0 t' r f.not_unlocked (omega (arith, g.3)) g.4 g.5 in
          absurd (less_bare j t' l' g.1 h)
      meet t t' c r l l' (inr x) =
          let n = named_lock (I t) (W t) j (less_waits j t l) in
          let n' = named_lock (I t') (W t') j x.0 in
          let y = x.1 ((view t').names j) n'.0 l' n'.1.1 in
          let rank = ((I t').waits j x.0).rank in
          one_blocker (I t) (W t) j ((view t).names j) ((view t').names j) n.0 y.0 rank l l' n.1.1 y.1

      ordered : (t t' : ℕ) → t ≤ t' → k < t → Run label j k t' → NamesLess j t → NamesLess j t' → named t j ≡ named t' j
      ordered t t' z c r l l' = meet t t' c r l l' (since j k t t' z c (less_waits j t l) r)

      both : (t t' : ℕ) → Run label j k t → Run label j k t' → NamesLess j t → NamesLess j t' → named t j ≡ named t' j
      both t t' r r' l l' = elim (dec_le t t') [
        | yes z ↦ ordered t t' z r.begun r' l l'
        | no z ↦ sym (ordered t' t (omega arith) r'.begun r l' l)
      ]

  -- ---- sentence 3

  -- h held a lock when event r had happened, and its run has not ended since
  abbrev Old : (r h t : ℕ) → Type 0
  Old r h t = ((q : ℕ) × ((view (suc r)).weight h q < N)) × Never (EndsRun label h) r t

  -- j's request of event r is pending, and every other holder is an old one
  abbrev OldHolders : (j k o r t : ℕ) → Type 0
  OldHolders j k o r t = Pending label j k o r t × ((h p : ℕ) → h ≢ j → (view t).weight h p < N → Old r h t)

  -- then an event at time t is meanwhile: the named job's run is one of those, and goes on
  meanwhile : (j k o r t : ℕ) → r < t → OldHolders j k o r t → Meanwhile label j r t
  meanwhile j k o r t l L =
      let a = pending_waits j k o r t L.0 in
      let n = named_lock (I t) (W t) j a in
      let h = (view t).names j in
      let x = L.1 h n.0 n.1.0 (omega (arith, n.1.1, ((I t).waits j a).rank)) in
      let y = held_holds T h x.0.0 (suc r) x.0.1 in
      record {
        since = omega arith;
        job = h;
        start = y.0;
        one_of_those = record { of_other = n.1.0; object = x.0.0; held = y.1 };
        goes_on = run_through label h y.0 r t l y.1.run x.1;
      }

  -- event t, through which j's request stays pending
  module _ (j k o r t : ℕ) (l : r < t) (L : OldHolders j k o r t) (pending : Pending label j k o r (suc t)) where
    a : (view t).requested j ≢ 0
    a = pending_waits j k o r t L.0

    not_self : (q : ℕ) → ¬ Takes (view t) (label t) j q
    not_self q (inl g) = a (rw g.to_job at ((T.step t).request (omega arith) (omega arith)).1)
    not_self q (inr w) = pending.not_woken t l (omega arith) w.0

    stays : (h p : ℕ) → h ≢ j → (view t).weight h p < N → ¬ Ends (label t) h → Old r h (suc t)
    stays h p d m n = let x = L.1 h p d m in (x.0, extend (EndsRun label h) x.1 n)

    -- if whoever takes a lock in it held one before, the holders stay old
    stay_old : ((h p : ℕ) → Takes (view t) (label t) h p → (q : ℕ) × ((view t).weight h q < N))
        → OldHolders j k o r (suc t)
    stay_old old = (
      pending,
      λ h p d m. elim (took_or_kept (T.step t) h p m) [
        | inl x ↦ (let y = old h p x in stays h y.0 d y.1 (λ e. takes_stays (T.step t) h p p x (inr e)))
        | inr b ↦ stays h p d (omega arith) (λ e. b.1 (inr e))
      ],
    )

    -- a taker that held none takes its run's first lock
    first_lock : (x q : ℕ) → Takes (view t) (label t) x q → ((p : ℕ) → ¬ ((view t).weight x p < N))
        → (k : ℕ) × FirstLock label x k t
    first_lock x q m none =
        let f = takes_may (T.step t) (I t) x q m in
        let v = takes_grant T x q t m in
        let u = grant_run label x v.0 q t v.1 in (
          v.0,
          record {
            object = q;
            grant = v.1;
            none_earlier = λ p g c d w. none p (grant_kept T x v.0 p v.0 g t u f.not_unlocked c d w);
          },
        )

    -- x takes a lock; it held one before, or none
    taken : (x q : ℕ) → Takes (view t) (label t) x q
        → ((p : ℕ) × ((view t).weight x p < N)) ⊎ ((p : ℕ) → p < M → ¬ ((view t).weight x p < N))
        → Excepted label j r ⊎ OldHolders j k o r (suc t)
    taken x q m (inl y) = inr (stay_old (λ h p m'. (y.0, rw (takes_one (T.step t) x q h p m m') at y.1)))
    taken x q m (inr none) =
        let bare : (p : ℕ) → ¬ ((view t).weight x p < N) = λ p h. none p ((W t).objects x p h) h in
        elim (dec_lt x j) [
          | yes z ↦
              let f = first_lock x q m bare in
              inl (took_first_lock t x f.0 (meanwhile j k o r t l L) z f.1)
          | no z ↦ elim (ℕ_discrete x j) [
            | yes y ↦ absurd (not_self q (rw y at m))
            | no y ↦
                let rank = ((I t).waits j a).rank in
                let a' = pending_waits j k o r (suc t) pending in
                let b = taker_held (T.step t) (I t) j x q a' rank m (omega arith) in
                absurd (bare b.0 (omega arith))
          ]
        ]

    next : Excepted label j r ⊎ OldHolders j k o r (suc t)
    next = elim (taking (T.step t)) [
      | inl x ↦
          let held = find (λ p. (view t).weight x.0 p < N) (λ p. dec_lt ((view t).weight x.0 p) N) M in
          taken x.0 x.1 x.2 held
      | inr n ↦ inr (stay_old (λ h p m. absurd (n.0 h p m)))
    ]

  -- at time t the request has been granted, or was excepted, or it is pending among old holders
  abbrev History : (j k o r t : ℕ) → Type 0
  History j k o r t = (GrantedBy label j o r t ⊎ Excepted label j r) ⊎ OldHolders j k o r t

  history : (j k o r t : ℕ) → Run label j k r → Waits (label r) j o → r < t → History j k o r t
  history j k o r t u w l =
      let first : OldHolders j k o r (suc r) =
      (pending_first label j k o r u w, λ h p d m. ((p, m), nothing_between (EndsRun label h) r)) in
      le_ind (History j k o r) (inr first) step t l
    where
      step : (n : ℕ) → r < n → History j k o r n → History j k o r (suc n)
      step n z (inl (inl x)) =
          inl (inl (record { start = x.start; event = x.event; before = omega arith; granted = x.granted }))
      step n z (inl (inr x)) = inl (inr x)
      step n z (inr L) =
          let a = pending_waits j k o r n L.0 in
          elim (ℕ_discrete (label n).woken j) [
            | yes b ↦
                let w : Wakens (label n) j = record { a_rank = ((I n).waits j a).positive; given_as_woken = b } in
                inl (inl (record { start = k; event = n; before = omega arith; granted = after_waits L.0 w }))
            | no b ↦ elim (dec_ends (label n) j) [
              | yes c ↦ elim c.finish_or_abandonment_done [
                | inl d ↦ absurd (a (rw c.of_job at ((T.step n).finish d)))
                | inr d ↦
                    let w : Abandons (label n) j = record { abandonment_done = d; of_job = c.of_job } in
                    inl (inr (abandoned n (meanwhile j k o r n z L) w))
              ]
              | no c ↦ elim (next j k o r n z L (pending_on label j k o r n L.0 (λ x. b x.given_as_woken) c)) [
                | inl x ↦ inl (inr x)
                | inr y ↦ inr y
              ]
            ]
          ]

  three : (j o r t : ℕ) → Sentence3 label j o r t
  three j o r t w l ended =
      let v : Waits (label r) j (label r).object = record { waits = w.waits; of_job = w.of_job; for_object = refl } in
      let u = active_run T j r (began_wait (T.step r) j v).0.active in
      elim (history j u.0 o r t u.1 w l) [
        | inl x ↦ x
        | inr L ↦ absurd (omega (arith, meanwhile_before label j r t t (meanwhile j u.0 o r t l L) ended))
      ]

  pub trace_demand3 : Demand3 label named
  trace_demand3 = record { one = one; two = two; three = three }

-- ---- what the statement says besides

-- "all waiting jobs name one and the same job": any two of them name the same
pub same_name : (label : ℕ → Label) (named : ℕ → ℕ → ℕ) → Demand3 label named → (t j j' : ℕ)
    → Waiting label j t → Waiting label j' t → named t j ≡ named t j'
same_name label named D t j j' w w' =
    let x = D.one t j w in
    let y = D.one t j' w' in
    let not_less = x.most_urgent_holder.most_urgent y.named_job y.most_urgent_holder.holder in
    let not_more = y.most_urgent_holder.most_urgent x.named_job x.most_urgent_holder.holder in
    omega (arith, x.names.question_gives, y.names.question_gives)

-- "Meanwhile is from the event that began the wait to the one that ended the last of those runs": from event r to event e
pub meanwhile_until : (label : ℕ → Label) (j r e : ℕ) → EndsLast label j r e
    → (i : ℕ) → Meanwhile label j r i ↔ ((r ≤ i) × (i ≤ e))
meanwhile_until label j r e E i = (
  λ m. (m.since, omega (arith, meanwhile_before label j r i (suc e) m E.all_ended)),
  λ b. record {
    since = b.0;
    job = E.job;
    start = E.start;
    one_of_those = E.one_of_those;
    goes_on = run_before label E.job E.start i e E.goes_on (omega (arith, began_before)) b.1;
  },
)
  where
    -- the run began before the wait did
    began_before : E.start < r
    began_before =
        let h = E.one_of_those.held in
        omega (arith, h.before, (grant_run label E.job E.start E.one_of_those.object h.first h.grant).begun)
