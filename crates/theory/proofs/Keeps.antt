-- One event keeps the invariant, and what it does to locks and waits: shown from the fields of Step alone.
-- Last: in one state whoever waits names the most urgent lock holder, which does not wait.
use Rattle.std.specs.Prelude.{◌≡◌, refl, ◌≢◌, ◌⊎◌, ℕ, ◌≤◌, ◌<◌}
use Rattle.std.proofs.Common.{◌∙◌, inl, inr, arith}
use Rattle.std.proofs.Math.Decide.{ℕ_discrete, dec_le, dec_lt}
use Rattle.theory.specs.Words.{Label, Waits, Ends, Wakens}
use Rattle.theory.specs.Machine.{View, Blocked, NamedLock, Took, MayRequest, Releases, Step, Seen, Sound, Invariant}
use Rattle.theory.specs.Keeps.{Takes, TopHolder}
use Rattle.theory.proofs.Machine.{release_sound, took_sound}

-- ---- a lock is taken

pub blocked_down : {u v : ℕ → ℕ → ℕ} {x : ℕ} → ((r p : ℕ) → v r p ≤ u r p) → Blocked u x → Blocked v x
blocked_down {u} {v} {x} d b = (b.0, b.1, b.2, omega (arith, d b.0 b.1, b.3))

pub took_down : {u v : ℕ → ℕ → ℕ} {x q : ℕ} → Took u v x q → (r p : ℕ) → v r p ≤ u r p
took_down {u} {v} {x} {q} T r p = elim (T.same r p) [ inl e ↦ omega arith | inr e ↦ rw (e.0, e.1) T.down ]

-- a job that takes a lock while a more urgent one is blocked is the one that blocks it
pub taker_blocks : {u v : ℕ → ℕ → ℕ} {x q j : ℕ} → Took u v x q → Blocked u j → j < x → (p : ℕ) × (u x p ≤ j)
taker_blocks {u} {v} {x} {q} {j} T b l = elim (ℕ_discrete b.0 x) [
  | yes e ↦ (b.1, rw e at b.3)
  | no n ↦ absurd (omega (arith, T.pass b.0 b.1 n, b.3))
]

-- an event that ends a run is a finish or an abandonment
pub ends_kind : {l : Label} {j : ℕ} → Ends l j → 5 ≤ l.what
ends_kind {l} e = elim e.finish_or_abandonment_done [ inl a ↦ omega arith | inr a ↦ omega arith ]

-- ---- one event

module _ {N : ℕ} {s : View} {l : Label} {s' : View} (S : Step N s l s') where
  pub takes_took : (x o : ℕ) → Takes s l x o → Took S.after_release s'.weight x o
  takes_took x o (inl g) = rw (g.to_job, g.on_object) at (S.grant g.granted)
  takes_took x o (inr w) = rw (← w.1) (rw (← w.0.given_as_woken) (S.wake (omega arith)).4)

  -- somebody takes a lock, or nobody does
  pub taking : ((x : ℕ) × (o : ℕ) × Takes s l x o)
      ⊎ (((x o : ℕ) → ¬ Takes s l x o) × ((r p : ℕ) → s'.weight r p ≡ S.after_release r p))
  taking = elim (dec_lt 0 l.woken) [
    | yes h ↦ inl (l.woken, s.requested l.woken, inr (omega arith, refl))
    | no h ↦ elim (ℕ_discrete l.what 2) [
      | yes e ↦ inl (l.job, l.object, inl (omega arith))
      | no n ↦ inr (λ x o t. elim t [ inl g ↦ n g.granted | inr w ↦ omega arith ], S.weight_same n (omega arith))
    ]
  ]

  -- an event only releases locks of its own job
  pub releases_own : (r p : ℕ) → Releases l r p → (4 ≤ l.what) × (l.job ≡ r)
  releases_own r p (inl u) = omega arith
  releases_own r p (inr e) = omega (arith, ends_kind e)

  pub released : (r p : ℕ) → Releases l r p → S.after_release r p ≡ N
  released r p (inl u) = rw (u.of_job, u.of_object) at (S.unlock u.unlock_done).2
  released r p (inr e) = rw (← e.of_job) ((S.end (ends_kind e)).2 p)

  pub after_release_lem : (r p : ℕ) → (S.after_release r p ≡ s.weight r p) ⊎ (S.after_release r p ≡ N)
  after_release_lem r p = elim (S.release r p) [ inl e ↦ inl e | inr f ↦ inr (released r p f) ]

  pub kept : (r p : ℕ) → S.after_release r p < N → (S.after_release r p ≡ s.weight r p) × (¬ Releases l r p)
  kept r p h = elim (S.release r p) [
    | inl e ↦ (e, λ f. omega (arith, released r p f))
    | inr f ↦ absurd (omega (arith, released r p f))
  ]

  -- who holds a lock after the event took it in the event, or held it before
  pub took_or_kept : (r p : ℕ) → s'.weight r p < N
      → Takes s l r p ⊎ ((s.weight r p ≡ s'.weight r p) × (¬ Releases l r p))
  took_or_kept r p h = elim taking [
    | inl t ↦ elim ((takes_took t.0 t.1 t.2).same r p) [
      | inl e ↦ let m = kept r p (omega arith) in inr (omega (arith, m.0), m.1)
      | inr e ↦ inl (rw (e.0, e.1) t.2)
    ]
    | inr n ↦
        let e = n.1 r p in
        let m = kept r p (omega arith) in
        inr (omega (arith, m.0), m.1)
  ]

  pub wakens_waited : (x : ℕ) → Wakens l x → (4 ≤ l.what) × (s.requested x ≢ 0) × (l.job ≢ x)
  wakens_waited x w = let h = S.wake (omega arith) in (h.0, rw w.given_as_woken at h.2, omega (arith, h.1))

  -- a job that is woken, or whose run ends, does not wait after the event
  pub wait_over : (x : ℕ) → Wakens l x ⊎ Ends l x → s'.requested x ≡ 0
  wait_over x (inl w) = rw w.given_as_woken at (S.wake (omega arith)).3
  wait_over x (inr e) = rw e.of_job at (S.end (ends_kind e)).1

  -- who begins to wait did not wait before
  pub began_wait : (x : ℕ) → Waits l x l.object → MayRequest N s x × (s.requested x ≡ 0)
  began_wait x w = rw w.of_job at (S.request (omega arith) (omega arith))

  -- who takes a lock releases none
  pub takes_stays : (x o p : ℕ) → Takes s l x o → ¬ Releases l x p
  takes_stays x o p (inl g) f = omega (arith, releases_own x p f)
  takes_stays x o p (inr w) f = omega (arith, releases_own x p f, (wakens_waited x w.0).2)

  -- at most one job takes a lock
  pub takes_one : (x o y p : ℕ) → Takes s l x o → Takes s l y p → x ≡ y
  takes_one x o y p (inl g) (inl h) = omega arith
  takes_one x o y p (inl g) (inr w) = omega (arith, (wakens_waited y w.0).0)
  takes_one x o y p (inr v) (inl h) = omega (arith, (wakens_waited x v.0).0)
  takes_one x o y p (inr v) (inr w) = omega arith

  -- a lock that is not released stays
  pub held_on : (r p : ℕ) → s.weight r p < N → ¬ Releases l r p → s'.weight r p < N
  held_on r p h n = elim (S.release r p) [
    | inl e ↦ elim taking [
      | inl t ↦ omega (arith, took_down (takes_took t.0 t.1 t.2) r p)
      | inr m ↦ omega (arith, m.1 r p)
    ]
    | inr f ↦ absurd (n f)
  ]

  -- whoever waits after a search was blocked once the locks were released, or a more urgent job has been woken
  abbrev BlockedOrWoken : ℕ → Type 0
  BlockedOrWoken x = Blocked S.after_release x ⊎ ((w : ℕ) × (Wakens l w) × (w < x))

  searched : 4 ≤ l.what → (x : ℕ) → s'.requested x ≢ 0 → BlockedOrWoken x
  searched h x a = elim (ℕ_discrete l.woken 0) [
    | yes e ↦ inl (S.search h x a (inl e))
    | no n ↦ elim (dec_lt x l.woken) [
      | yes k ↦ inl (S.search h x a (inr k))
      | no k ↦ elim (ℕ_discrete l.woken x) [
        | yes e ↦ absurd (a (wait_over x (inl (omega arith))))
        | no d ↦ inr (l.woken, omega arith, omega arith)
      ]
    ]
  ]

  -- so it is blocked after the event: locks that are taken only weigh more, and the woken job's new lock weighs at least as urgent as that job
  blocked_then : (x : ℕ) → BlockedOrWoken x → Blocked s'.weight x
  blocked_then x (inl b) = elim taking [
    | inl t ↦ blocked_down (took_down (takes_took t.0 t.1 t.2)) b
    | inr n ↦ blocked_down (λ r p. omega (arith, n.1 r p)) b
  ]
  blocked_then x (inr w) = (
    w.0,
    s.requested w.0,
    omega arith,
    omega (arith, (takes_took w.0 (s.requested w.0) (inr (w.1, refl))).cap),
  )

  -- "No second one could": after a search, in whatever state, no waiting job's request passes
  pub none_passes : 4 ≤ l.what → (x : ℕ) → s'.requested x ≢ 0 → Blocked s'.weight x
  none_passes h x a = blocked_then x (searched h x a)

  module _ (I : Invariant N s) where
    pub takes_may : (x o : ℕ) → Takes s l x o → MayRequest N s x
    takes_may x o (inl g) = rw g.to_job at (S.request (omega arith) (omega arith)).0
    takes_may x o (inr w) = I.waits x (wakens_waited x w.0).1

    -- who waits after the event waited before it, or began in it
    waited : (x : ℕ) → s'.requested x ≢ 0 → (s.requested x ≢ 0) ⊎ Waits l x l.object
    waited x a = elim (S.requested_same x) [
      | inl e ↦ inl (rw e at a)
      | inr t ↦ elim t [ inl w ↦ inr w | inr v ↦ absurd (a (wait_over x v)) ]
    ]

    pub blocked_after_release : (x : ℕ) → s'.requested x ≢ 0 → BlockedOrWoken x
    blocked_after_release x a = elim (dec_le 4 l.what) [
      | yes h ↦ searched h x a
      | no h ↦ inl (blocked_down (same h) (before (waited x a)))
    ]
      where
        same : ¬ (4 ≤ l.what) → (r p : ℕ) → S.after_release r p ≤ s.weight r p
        same h r p = elim (S.release r p) [ inl e ↦ omega arith | inr f ↦ omega (arith, releases_own r p f) ]

        before : (s.requested x ≢ 0) ⊎ Waits l x l.object → Blocked s.weight x
        before (inl b) = I.blocked x b
        before (inr w) = rw w.of_job at (S.wait w.waits).2

    blocked' : (x : ℕ) → s'.requested x ≢ 0 → Blocked s'.weight x
    blocked' x a = blocked_then x (blocked_after_release x a)

    sound' : Sound N s'.weight
    sound' =
        let after = release_sound I.sound after_release_lem in
        elim taking [
          | inl t ↦ took_sound after (takes_took t.0 t.1 t.2) (takes_may t.0 t.1 t.2).rank
          | inr n ↦ release_sound after (λ r p. inl (n.1 r p))
        ]

    active' : (x : ℕ) → ¬ Ends l x → s.active x ≢ 0 → s'.active x ≢ 0
    active' x n b = elim (S.active_same x) [
      | inl e ↦ omega arith
      | inr t ↦ elim t [ inl u ↦ rw u.of_job at (S.start u.start_done).1 | inr e ↦ absurd (n e) ]
    ]

    -- whoever waits after the event has not unlocked in it
    unlocked' : (x : ℕ) → s'.requested x ≢ 0 → s'.unlocked x ≡ s.unlocked x
    unlocked' x a = elim (S.unlocked_same x) [
      | inl e ↦ e
      | inr t ↦ elim t [
        | inl u ↦ elim (waited x a) [
          | inl b ↦ absurd (b (rw u.of_job at (S.unlock u.unlock_done).0))
          | inr w ↦ absurd (omega arith)
        ]
        | inr e ↦ absurd (a (wait_over x (inr e)))
      ]
    ]

    waits' : (x : ℕ) → s'.requested x ≢ 0 → MayRequest N s' x
    waits' x a =
        let f : MayRequest N s x = elim (waited x a) [ inl b ↦ I.waits x b | inr w ↦ (began_wait x w).0 ] in
        record {
          positive = f.positive;
          rank = f.rank;
          active = active' x (λ e. a (wait_over x (inr e))) f.active;
          not_unlocked = unlocked' x a ∙ f.not_unlocked;
        }

    holder' : (r o : ℕ) → s'.weight r o < N → s'.active r ≢ 0
    holder' r o h = elim (took_or_kept r o h) [
      | inl t ↦ active' r (λ e. takes_stays r o o t (inr e)) (takes_may r o t).active
      | inr m ↦ active' r (λ e. m.1 (inr e)) (I.holder r o (omega arith))
    ]

    pub step_invariant : Invariant N s'
    step_invariant = record { sound = sound'; blocked = blocked'; waits = waits'; holder = holder' }

    -- THE ARGUMENT: while j waits, a less urgent job is given a lock only if one of its own locks blocks j
    pub taker_held : (j x o : ℕ) → s'.requested j ≢ 0 → j < N → Takes s l x o → j < x
        → (p : ℕ) × (s.weight x p ≤ j)
    taker_held j x o a rank t k = elim (blocked_after_release j a) [
      | inl b ↦
          let q = taker_blocks (takes_took x o t) b k in
          (q.0, omega (arith, (kept x q.0 (omega arith)).0))
      | inr w ↦ absurd (omega (arith, takes_one x o w.0 (s.requested w.0) t (inr (w.1, refl))))
    ]

    -- so the less urgent jobs that block j become no more
    pub blockers_shrink : (j m o : ℕ) → s'.requested j ≢ 0 → j < N → j < m → s'.weight m o ≤ j
        → (p : ℕ) × (s.weight m p ≤ j)
    blockers_shrink j m o a rank k h = elim (took_or_kept m o (omega arith)) [
      | inl t ↦ taker_held j m o a rank t k
      | inr e ↦ (o, omega arith)
    ]

-- ---- one state

module _ {N M : ℕ} {s : View} (I : Invariant N s) (W : Seen N M s) where
  pub named_lock : (j : ℕ) → s.requested j ≢ 0 → (o : ℕ) × NamedLock s.weight j (s.names j) o
  named_lock j a = W.names_holder j a (I.blocked j a)

  pub named_top : (j : ℕ) → s.requested j ≢ 0 → TopHolder N s (s.names j)
  named_top j a =
      let n = named_lock j a in
      let f = I.waits j a in (
        (n.0, omega (arith, n.1.1)),
        λ h p k. elim (dec_le (s.names j) h) [
          | yes l ↦ l
          | no l ↦
              let z = I.sound.order h (s.names j) p n.0 (omega arith) k in
              elim (ℕ_discrete h j) [
                | yes e ↦ absurd (omega (arith, n.1.1))
                | no d ↦ absurd (omega (arith, n.1.2 h p d, I.sound.cap h p k))
              ]
        ],
      )

  pub top_not_waiting : (m : ℕ) → TopHolder N s m → s.requested m ≡ 0
  top_not_waiting m t = elim (ℕ_discrete (s.requested m) 0) [
    | yes e ↦ e
    | no a ↦
        let b = I.blocked m a in
        let f = I.waits m a in
        let g = t.1 b.0 b.1 (omega (arith, b.3)) in
        absurd (omega (arith, b.2, b.3, I.sound.order m b.0 t.0.0 b.1 (omega (arith, b.2)) t.0.1))
  ]

  -- two less urgent jobs that block j are one
  pub one_blocker : (j m n o p : ℕ) → j < N → j < m → j < n → s.weight m o ≤ j → s.weight n p ≤ j → m ≡ n
  one_blocker j m n o p rank k l h g = elim (dec_lt m n) [
    | yes z ↦ absurd (omega (arith, I.sound.order m n o p z (omega arith)))
    | no z ↦ elim (dec_lt n m) [
      | yes y ↦ absurd (omega (arith, I.sound.order n m p o y (omega arith)))
      | no y ↦ omega arith
    ]
  ]
