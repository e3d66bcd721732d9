-- Each change keeps the facts of a well-formed state: a start, a wait, a job that falls asleep or is awakened, a release, the end of a run; and a grant with
-- which no other job's lock conflicts.
-- Assumes nothing.
use Rattle.std.specs.Prelude.{◌≡◌, ◌≢◌, ◌⊎◌, Bool, not, ◌&&◌, ◌||◌, ℕ, ◌^◌, ◌≤◌, ◌<◌, if◌then◌else◌}
use Rattle.std.proofs.Math.Path.{refl, sym, subst, ap}
use Rattle.std.proofs.Common.{ap₂, ◌∙◌, eq-eqb, ne_eqb}
use Rattle.std.proofs.Math.Logic.{inl, inr}
use Rattle.std.proofs.Math.Bool.{true, false}
use native.Mathlib.Omega.{arith}
use Rattle.std.proofs.Math.Decide.{ℕ_discrete}
use Rattle.std.proofs.Math.Dec.{eqb}
use Rattle.std.proofs.Math.ListN.{length}
use Rattle.basics.specs.Choice.{clash, neither}
use Rattle.basics.specs.Arrays.{put, length-put, length-mapped}
use Rattle.ranks.specs.Ranks.{member, with, without}
use Rattle.ranks.specs.RankLaws.{member-with_same, member-with_other, member-without_same, member-without_other, with-lt, without-lt}
use Rattle.state.specs.declared.State.{State}
use Rattle.state.specs.State.{most_jobs, most_objects, mark_words, read, write, certify, mark, declared, holders, holds, most_urgent_holder, is_certified, shares_with_none, holds_already, is_active, is_sleeping}
use Rattle.state.specs.State.{request_of, request_for, mode_of_request, object_of_request, requested_mode, requested_object, with_sleepers, activate, await, grant, fall_asleep, awaken, end_run}
use Rattle.state.specs.Facts.{Sized, In, Alone, LockFacts, RequestFacts, InOrder, Facts}
use Rattle.state.specs.Weights.{weight, write_ceiling_of, absolute_ceiling_of}
use Rattle.state.specs.Holders.{HolderFacts, AboveOthers, holder_facts, own_weight, end_run_holders}
use Rattle.state.specs.Modes.{either_mode}
use Rattle.state.specs.Marks.{length_mark, length-drop}
use Rattle.state.specs.WellFormedFacts.{held_object}
use Rattle.state.specs.Changes.{with_in, without_in, with_grows}
use Rattle.state.specs.Changes.{over_table, Same, object_fits, readers_after, writers_after, readers_after_lt, writers_after_lt, activate_same, sleepers_same}
use Rattle.state.specs.Changes.{await_same, await_request, grant_request, end_request, end_holders, end_mark_kept, end_mark_gone, end_same}
use Rattle.state.specs.Changes.{grant_readers_lem, grant_writers_lem, grant_others, grant_mark_kept, grant_mark_other, grant_same}

or_mono : (a : Bool) {b c : Bool} → (b ≡ true → c ≡ true) → a || b ≡ true → a || c ≡ true
or_mono true f e = refl
or_mono false f e = f e

-- ---- the locks of t over the table of s

module _ (s t : State) where
  pub fewer_locks : (o : ℕ) → ((m : ℕ) → holders t m o < 2 ^ s.counts.jobs)
      → ((m x : ℕ) → In (holders t m o) x → In (holders s m o) x × (In s.active x → In t.active x))
      → (is_certified t o ≡ true → (is_certified s o ≡ true) × ((x : ℕ) × In (holders t write o) x))
      → LockFacts s o → LockFacts (over_table s t) o
  fewer_locks o small fewer mark L = record {
    jobs = small;
    active = λ m x i. (fewer m x i).1 (L.active m x (fewer m x i).0);
    right = λ m x i. L.right m x (fewer m x i).0;
    once = λ x i j. L.once x (fewer read x i).0 (fewer write x j).0;
    alone = λ a b i.
        let f = L.alone a b (fewer write a i).0 in
        (λ j. f.0 (fewer write b j).0, λ q j. f.1 (or_mono (eqb s.counts.version 1) (λ e. (mark e).0) q) (fewer read b j).0);
    certified = λ e. ((L.certified (mark e).0).0, (mark e).1);
  }

  same_already : (m x o : ℕ) → Same s t x → holds_already (over_table s t) m x o ≡ holds_already s m x o
  same_already m x o S = go (eqb m certify)
    where
      same_mark : (b : Bool) → holds s write x o ≡ b → b && is_certified t o ≡ b && is_certified s o
      same_mark true e = S.certified o e
      same_mark false e = refl

      go : (b : Bool) → (if b then holds t write x o && is_certified t o else (holds t m x o || holds t write x o))
          ≡ (if b then holds s write x o && is_certified s o else (holds s m x o || holds s write x o))
      go true = ap (λ v. v && is_certified t o) (S.locks write o) ∙ same_mark (holds s write x o) refl
      go false = ap₂ ◌||◌ (S.locks m o) (S.locks write o)

  same_request : (m x o : ℕ) → Same s t x → RequestFacts s m x o → RequestFacts (over_table s t) m x o
  same_request m x o S A = record {
    mode = A.mode;
    object = A.object;
    active = S.active ∙ A.active;
    not_unlocked = S.unlocked ∙ A.not_unlocked;
    awake = S.sleeping ∙ A.awake;
    right = A.right;
    new = same_already m x o S ∙ A.new;
    before = λ q. S.locks write o ∙ A.before q;
  }

  -- a lock weighs what it weighed where its object is certified as it was
  kept_weight : (x m o : ℕ) → (In (holders s write o) x → is_certified t o ≡ is_certified s o) → In (holders s m o) x → weight (over_table s t) m x o ≡ weight s m x o
  unfolding weight
  kept_weight x m o mark i =
      either_mode (λ f. In (f (holders s read o) (holders s write o)) x
      → f (weight (over_table s t) read x o) (weight (over_table s t) write x o) ≡ f (weight s read x o) (weight s write x o))
      (λ j. refl) (λ j. ap (λ b. if eqb s.counts.version 1 || b then absolute_ceiling_of s o else write_ceiling_of s o) (mark j)) m i

  module _ (F : Facts s) where
    same_waits : (x : ℕ) → Same s t x → request_of t x ≢ 0 → RequestFacts (over_table s t) (requested_mode t x) x (requested_object t x)
    same_waits x S d =
        subst (λ q. RequestFacts (over_table s t) (mode_of_request q) x (object_of_request q)) (sym S.request)
        (same_request (requested_mode s x) x (requested_object s x) S (F.requests x (λ z. d (S.request ∙ z))))

    -- a change of job r alone
    pub keep : (r : ℕ) → length t.readers ≡ most_objects → length t.writers ≡ most_objects → length t.certified ≡ mark_words
        → length t.request ≡ most_jobs → ((o : ℕ) → LockFacts (over_table s t) o) → t.active < 2 ^ s.counts.jobs → t.unlocked < 2 ^ s.counts.jobs
        → ((x : ℕ) → In t.unlocked x → In t.active x) → t.sleeping < 2 ^ s.counts.jobs → ((x : ℕ) → In t.sleeping x → In t.active x)
        → (request_of t r ≢ 0 → RequestFacts (over_table s t) (requested_mode t r) r (requested_object t r))
        → ((x : ℕ) → r ≢ x → Same s t x) → t.holder ≡ most_urgent_holder t.readers t.writers → InOrder (over_table s t) → Facts (over_table s t)
    keep r long_readers long_writers long_certified long_request locks active unlocked marks sleeping sleepers waits same carried order = record {
      sized = record {
        processor_of = F.sized.processor_of;
        may_read = F.sized.may_read;
        may_write = F.sized.may_write;
        readers = long_readers;
        writers = long_writers;
        certified = long_certified;
        request = long_request;
      };
      counts = F.counts;
      processors = F.processors;
      declared_objects = F.declared_objects;
      declared_jobs = F.declared_jobs;
      active_jobs = active;
      locks = locks;
      requests = λ x d. elim (ℕ_discrete r x) [
        | yes e ↦ subst (λ y. request_of t y ≢ 0 → RequestFacts (over_table s t) (requested_mode t y) y (requested_object t y)) e waits d
        | no n ↦ same_waits x (same x n) d
      ];
      marks = marks;
      marks_jobs = unlocked;
      sleepers = sleepers;
      sleepers_jobs = sleeping;
      version = F.version;
      carried = carried;
      order = order;
    }

-- ---- the changes, one by one

module _ (s : State) (F : Facts s) (r : ℕ) (low : 1 ≤ r) (high : r ≤ s.counts.jobs) where
  abbrev Z : Sized s
  Z = F.sized

  rank_fits : r ≤ most_jobs
  rank_fits = omega (arith, F.counts.jobs)

  -- a mark that stays, on writers that stay
  pub kept_mark : (o : ℕ) → is_certified s o ≡ true → (is_certified s o ≡ true) × ((x : ℕ) × In (holders s write o) x)
  kept_mark o e = (e, ((F.locks o).certified e).1)

  pub activate_keeps : is_active s r ≡ false → Facts (activate s r)
  unfolding activate weight
  activate_keeps idle =
      keep s (activate s r) F r F.sized.readers F.sized.writers F.sized.certified F.sized.request
      (λ o. fewer_locks s (activate s r) o (F.locks o).jobs (λ m x i. (i, grows x)) (kept_mark o) (F.locks o))
      (with-lt s.counts.jobs s.active r F.active_jobs high) F.marks_jobs (λ x i. grows x (F.marks x i))
      F.sleepers_jobs (λ x i. grows x (F.sleepers x i))
      (λ d. absurd (clash (F.requests r d).active idle)) (activate_same s r) F.carried F.order
    where
      grows : (x : ℕ) → In s.active x → In (with s.active r) x
      grows x = with_grows s.active r x low

  pub await_keeps : (m o : ℕ) → RequestFacts s m r o → Facts (await s m r o)
  unfolding await weight
  await_keeps m o A =
      keep s (await s m r o) F r F.sized.readers F.sized.writers F.sized.certified
      (length-put s.request r (request_for m o) ∙ F.sized.request)
      (λ p. fewer_locks s (await s m r o) p (F.locks p).jobs (λ n x i. (i, λ j. j)) (kept_mark p) (F.locks p))
      F.active_jobs F.marks_jobs F.marks F.sleepers_jobs F.sleepers (λ d. waits) (await_same s r m o) F.carried
      F.order
    where
      -- the request holds the mode and the object
      waits : RequestFacts (await s m r o) (mode_of_request (request_of (await s m r o) r)) r (object_of_request (request_of (await s m r o) r))
      waits =
          let mode : m ≡ mode_of_request (request_for m o) = omega (arith, A.object, F.counts.objects) in
          let object : o ≡ object_of_request (request_for m o) = omega (arith, A.object, F.counts.objects) in
          subst (λ q. RequestFacts (await s m r o) (mode_of_request q) r (object_of_request q)) (sym (await_request s F r m o A))
          (subst (λ p. RequestFacts (await s m r o) (mode_of_request (request_for m o)) r p) object
          (subst (λ n. RequestFacts (await s m r o) n r o) mode
          (record {
            mode = A.mode;
            object = A.object;
            active = A.active;
            not_unlocked = A.not_unlocked;
            awake = A.awake;
            right = A.right;
            new = A.new;
            before = A.before;
          })))

  -- other sleepers, of whom r alone is new or missing
  sleepers_keep : (z : ℕ) → z < 2 ^ s.counts.jobs → ((x : ℕ) → In z x → In s.active x) → request_of s r ≡ 0
      → ((x : ℕ) → r ≢ x → member z x ≡ is_sleeping s x) → Facts (with_sleepers s z)
  unfolding weight
  sleepers_keep z small active free same =
      keep s (with_sleepers s z) F r F.sized.readers F.sized.writers F.sized.certified F.sized.request
      (λ o. fewer_locks s (with_sleepers s z) o (F.locks o).jobs (λ m x i. (i, λ j. j)) (kept_mark o) (F.locks o))
      F.active_jobs F.marks_jobs F.marks small active (λ d. absurd (d free)) (λ x d. sleepers_same s z x (same x d))
      F.carried F.order

  pub fall_asleep_keeps : is_active s r ≡ true → request_of s r ≡ 0 → Facts (fall_asleep s r)
  unfolding fall_asleep
  fall_asleep_keeps active free =
      sleepers_keep (with s.sleeping r) (with-lt s.counts.jobs s.sleeping r F.sleepers_jobs high)
      (λ x i. elim (with_in s.sleeping r x i) [ inl e ↦ subst (λ y. In s.active y) e active | inr j ↦ F.sleepers x j ])
      free (member-with_other s.sleeping r)

  pub awaken_keeps : request_of s r ≡ 0 → Facts (awaken s r)
  unfolding awaken
  awaken_keeps free =
      sleepers_keep (without s.sleeping r) (without-lt s.counts.jobs s.sleeping r F.sleepers_jobs)
      (λ x i. F.sleepers x (without_in s.sleeping r x i).0) free (member-without_other s.sleeping r)

  pub end_keeps : Facts (end_run s r)
  unfolding end_run
  end_keeps =
      keep s (end_run s r) F r (length-mapped (λ v. without v r) most_objects s.readers ∙ F.sized.readers)
      (length-mapped (λ v. without v r) most_objects s.writers ∙ F.sized.writers)
      (length-drop r s.writers s.certified) (length-put s.request r 0 ∙ F.sized.request)
      (λ o. fewer_locks s (end_run s r) o
      (λ m. subst (λ v. v < 2 ^ s.counts.jobs) (sym (end_holders s F r m o)) (without-lt s.counts.jobs (holders s m o) r ((F.locks o).jobs m)))
      (λ m x i. (let z = without_in (holders s m o) r x (sym (ap (λ v. member v x) (end_holders s F r m o)) ∙ i) in (z.0, stays x z.1)))
      (λ e. marks o (holds s write r o) refl e) (F.locks o))
      (without-lt s.counts.jobs s.active r F.active_jobs) (without-lt s.counts.jobs s.unlocked r F.marks_jobs)
      (λ x i. (let z = without_in s.unlocked r x i in stays x z.1 (F.marks x z.0)))
      (without-lt s.counts.jobs s.sleeping r F.sleepers_jobs)
      (λ x i. (let z = without_in s.sleeping r x i in stays x z.1 (F.sleepers x z.0)))
      (λ d. absurd (d (end_request s F r low high))) (end_same s F r) refl (end_run_holders s (holder_facts s F) r).order
    where
      stays : (x : ℕ) → r ≢ x → In s.active x → In (without s.active r) x
      stays x d i = member-without_other s.active r x d ∙ i

      -- a mark is left where another job writes
      marks : (o : ℕ) → (b : Bool) → holds s write r o ≡ b → is_certified (end_run s r) o ≡ true
          → (is_certified s o ≡ true) × ((x : ℕ) × In (holders (end_run s r) write o) x)
      marks o true h e =
          let object = held_object s F write r o h in
          absurd (clash e (end_mark_gone s F r o object.0 (omega (arith, object.1, F.counts.objects)) h))
      marks o false h e =
          let before = sym (end_mark_kept s F r o h) ∙ e in
          let w = ((F.locks o).certified before).1 in
          let other : r ≢ w.0 = λ q. clash (subst (λ y. In (holders s write o) y) (sym q) w.1) h in
          (before, (w.0, ap (λ v. member v w.0) (end_holders s F r write o) ∙ (member-without_other (holders s write o) r w.0 other ∙ w.1)))

-- ---- a grant

-- no lock of another job on o conflicts with one of r in mode m
pub record NoConflict (s : State) (m r o : ℕ) : Type 0 where
  -- none of them is a write lock that shares with none
  pub none_alone : shares_with_none s o ≡ true → (x : ℕ) → r ≢ x → In (holders s write o) x → ⊥
  -- and where r does not only read, none writes and none reads
  pub no_writer : m ≢ read → (x : ℕ) → r ≢ x → In (holders s write o) x → ⊥
  pub no_reader : m ≢ read → (x : ℕ) → r ≢ x → In (holders s read o) x → ⊥

module _ (s : State) (F : Facts s) (r : ℕ) (low : 1 ≤ r) (high : r ≤ s.counts.jobs) (m o : ℕ) (A : RequestFacts s m r o) where
  -- r holds neither that lock nor the write lock, unless it asks to certify
  pub unheld : m ≢ certify → (holds s m r o ≡ false) × (holds s write r o ≡ false)
  unheld d = neither (holds s m r o) (holds s write r o) (ap not (simp (ne_eqb m certify d) at A.new))

  pub writable : m ≢ read → In (declared s write o) r
  writable d = subst (λ b. In (if b then declared s read o else declared s write o) r) (ne_eqb m read d) A.right

  readers_after_lem : holders (grant s m r o) read o ≡ readers_after m r (holders s read o)
  readers_after_lem = grant_readers_lem s F r m o A

  writers_after_lem : holders (grant s m r o) write o ≡ writers_after m r (holders s write o)
  writers_after_lem = grant_writers_lem s F r m o A

  -- a read lock: r joins the readers, the writers stay
  pub read_granted : m ≡ read → (holds (grant s m r o) read r o ≡ true) × (holders (grant s m r o) write o ≡ holders s write o)
  read_granted e =
      let q = eq-eqb m read e in (
        ap (λ v. member v r) (readers_after_lem ∙ ap (λ b. if b then with (holders s read o) r else without (holders s read o) r) q)
            ∙ member-with_same (holders s read o) r low,
        writers_after_lem ∙ ap (λ b. if b then holders s write o else with (holders s write o) r) q,
      )

  -- a write or certify lock: r joins the writers, and leaves the readers
  pub write_granted : m ≢ read
      → (holders (grant s m r o) write o ≡ with (holders s write o) r) × (holders (grant s m r o) read o ≡ without (holders s read o) r)
  write_granted e =
      let q = ne_eqb m read e in (
        writers_after_lem ∙ ap (λ b. if b then holders s write o else with (holders s write o) r) q,
        readers_after_lem ∙ ap (λ b. if b then with (holders s read o) r else without (holders s read o) r) q,
      )

  -- what holds of the readers and of the writers of o after the grant holds of its holders in either mode
  granted_either : (P : ℕ → ℕ → Type 0) → P (holders (grant s m r o) read o) (declared s read o)
      → P (holders (grant s m r o) write o) (declared s write o) → (n : ℕ) → P (holders (grant s m r o) n o) (declared s n o)
  granted_either P = either_mode (λ f. P (f (holders (grant s m r o) read o) (holders (grant s m r o) write o)) (f (declared s read o) (declared s write o)))

  granted_jobs : (n : ℕ) → holders (grant s m r o) n o < 2 ^ s.counts.jobs
  granted_jobs =
      granted_either (λ v right. v < 2 ^ s.counts.jobs)
      (subst (λ v. v < 2 ^ s.counts.jobs) (sym readers_after_lem) (readers_after_lt m r (holders s read o) s.counts.jobs ((F.locks o).jobs read) high))
      (subst (λ v. v < 2 ^ s.counts.jobs) (sym writers_after_lem) (writers_after_lt m r (holders s write o) s.counts.jobs ((F.locks o).jobs write) high))

  granted_right : (n : ℕ) → In (holders (grant s m r o) n o) r → In (declared s n o) r
  granted_right = elim (ℕ_discrete m read) [
    | yes e ↦ granted_either (λ v right. In v r → In right r)
        (λ i. subst (λ n. In (declared s n o) r) e A.right)
        (λ i. (F.locks o).right write r (ap (λ v. member v r) (sym (read_granted e).1) ∙ i))
    | no e ↦ granted_either (λ v right. In v r → In right r)
        (λ i. absurd (clash i (ap (λ v. member v r) (write_granted e).1 ∙ member-without_same (holders s read o) r)))
        (λ i. writable e)
  ]

  module _ (N : NoConflict s m r o) where
    abbrev t : State
    t = over_table s (grant s m r o)

    -- where r is given a read lock
    module _ (e : m ≡ read) where
      not_certify : m ≢ certify
      not_certify q = omega arith

      reading : (x : ℕ) → In (holders (grant s m r o) read o) x → (r ≡ x) ⊎ In (holders s read o) x
      reading x i =
          with_in (holders s read o) r x
          (ap (λ v. member v x) (sym (readers_after_lem ∙ ap (λ b. if b then with (holders s read o) r else without (holders s read o) r) (eq-eqb m read e))) ∙ i)

      unwritten : (x : ℕ) → In (holders s write o) x → r ≢ x
      unwritten x i q = clash (subst (λ y. In (holders s write o) y) (sym q) i) (unheld not_certify).1

      written : (x : ℕ) → In (holders (grant s m r o) write o) x → In (holders s write o) x
      written x i = ap (λ v. member v x) (sym (read_granted e).1) ∙ i

    -- where r is given a write or certify lock
    module _ (d : m ≢ read) where
      others_reading : (x : ℕ) → In (holders (grant s m r o) read o) x → In (holders s read o) x × (r ≢ x)
      others_reading x i = without_in (holders s read o) r x (ap (λ v. member v x) (sym (write_granted d).1) ∙ i)

      own : (x : ℕ) → In (holders (grant s m r o) write o) x → r ≡ x
      own x j = elim (with_in (holders s write o) r x (ap (λ v. member v x) (sym (write_granted d).0) ∙ j)) [
        | inl q ↦ q
        | inr q ↦ elim (ℕ_discrete r x) [ yes e ↦ e | no k ↦ absurd (N.no_writer d x k q) ]
      ]

    granted_once : (x : ℕ) → In (holders (grant s m r o) read o) x → In (holders (grant s m r o) write o) x → ⊥
    granted_once x i j = elim (ℕ_discrete m read) [
      | yes e ↦ elim (reading e x i) [ inl q ↦ unwritten e x (written e x j) q | inr k ↦ (F.locks o).once x k (written e x j) ]
      | no d ↦ (others_reading d x i).1 (own d x j)
    ]

    granted_alone : Alone (shares_with_none t o) (holders (grant s m r o) read o) (holders (grant s m r o) write o)
    unfolding grant
    granted_alone a b i = elim (ℕ_discrete m read) [
      | yes e ↦
          let i' = written e a i in
          let before = (F.locks o).alone a b i' in
          let none : shares_with_none t o ≡ true → shares_with_none s o ≡ true =
          or_mono (eqb s.counts.version 1) (λ q. sym (grant_mark_kept s F r m o A (not_certify e) o) ∙ q) in (
            λ j. before.0 (written e b j),
            λ q j. elim (reading e b j) [ inl k ↦ N.none_alone (none q) a (unwritten e a i') i' | inr k ↦ before.1 (none q) k ],
          )
      | no d ↦ (λ j. sym (own d a i) ∙ own d b j, λ q j. (let z = others_reading d b j in N.no_reader d b z.1 z.0))
    ]

    granted_certified : is_certified (grant s m r o) o ≡ true → (s.counts.version ≡ 2) × ((x : ℕ) × In (holders (grant s m r o) write o) x)
    granted_certified e = elim (ℕ_discrete m certify) [
      | yes q ↦ (
        omega (arith, A.mode, F.version),
        (r, ap (λ v. member v r) (write_granted (λ k. omega arith)).0 ∙ member-with_same (holders s write o) r low),
      )
      | no d ↦
          let c = (F.locks o).certified (sym (grant_mark_kept s F r m o A d o) ∙ e) in
          (c.0, (c.1.0, still c.1.0 c.1.1))
    ]
      where
        still : (x : ℕ) → In (holders s write o) x → In (holders (grant s m r o) write o) x
        still x i = elim (ℕ_discrete m read) [
          | yes e ↦ ap (λ v. member v x) (read_granted e).1 ∙ i
          | no d ↦ ap (λ v. member v x) (write_granted d).0 ∙ with_grows (holders s write o) r x low i
        ]

    granted_locks : (p : ℕ) → LockFacts (over_table s (grant s m r o)) p
    unfolding grant
    granted_locks p = elim (ℕ_discrete o p) [
      | yes e ↦ subst (λ q. LockFacts (over_table s (grant s m r o)) q) e (record {
        jobs = granted_jobs;
        active = λ n x i. elim (ℕ_discrete r x) [
          | yes q ↦ subst (λ y. In s.active y) q A.active
          | no d ↦ (F.locks o).active n x (sym ((same x d).locks n o) ∙ i)
        ];
        right = λ n x i. elim (ℕ_discrete r x) [
          | yes q ↦ subst (λ y. In (holders (grant s m r o) n o) y → In (declared s n o) y) q (granted_right n) i
          | no d ↦ (F.locks o).right n x (sym ((same x d).locks n o) ∙ i)
        ];
        once = granted_once;
        alone = granted_alone;
        certified = granted_certified;
      })
      | no d ↦ fewer_locks s (grant s m r o) p (λ n. omega (arith, others n p d, (F.locks p).jobs n))
          (λ n x i. (sym (ap (λ v. member v x) (others n p d)) ∙ i, λ j. j)) (marks p d) (F.locks p)
    ]
      where
        same : (x : ℕ) → r ≢ x → Same s (grant s m r o) x
        same = grant_same s F r m o A

        others : (n p : ℕ) → o ≢ p → holders (grant s m r o) n p ≡ holders s n p
        others = grant_others s F r m o A

        marks : (p : ℕ) → o ≢ p → is_certified (grant s m r o) p ≡ true → (is_certified s p ≡ true) × ((x : ℕ) × In (holders (grant s m r o) write p) x)
        marks p d e =
            let before = sym (grant_mark_other s F r m o A p d) ∙ e in
            let w = ((F.locks p).certified before).1 in
            (before, (w.0, ap (λ v. member v w.0) (others write p d) ∙ w.1))

    -- r, which is more urgent than each lock of another job, is in order with every other holder, and they stay so
    granted_order : AboveOthers s r → InOrder t
    unfolding grant
    granted_order above a n p b k q i j l = elim (ℕ_discrete r b) [
      | yes e ↦
          let other : r ≢ a = λ d. omega arith in
          let held = sym ((same a other).locks n p) ∙ i in
          absurd (omega (arith, above a n p other held, own_weight s H n a p held))
      | no d ↦
          let held = sym ((same b d).locks k q) ∙ j in
          let weighs = same_weight b k q d held in
          elim (ℕ_discrete r a) [
            | yes e ↦ omega (arith, above b k q d held)
            | no c ↦ omega (arith, F.order a n p b k q (sym ((same a c).locks n p) ∙ i) held l)
          ]
    ]
      where
        H : HolderFacts s
        H = holder_facts s F

        same : (x : ℕ) → r ≢ x → Same s (grant s m r o) x
        same = grant_same s F r m o A

        same_weight : (x k q : ℕ) → r ≢ x → In (holders s k q) x → weight t k x q ≡ weight s k x q
        same_weight x k q d = kept_weight s (grant s m r o) x k q ((same x d).certified q)

    pub grant_keeps : AboveOthers s r → Facts (grant s m r o)
    unfolding grant
    grant_keeps above =
        keep s (grant s m r o) F r (length-put s.readers o (readers_after m r (holders s read o)) ∙ F.sized.readers)
        (long (eqb m read)) (marks_long (eqb m certify)) (length-put s.request r 0 ∙ F.sized.request) granted_locks F.active_jobs F.marks_jobs F.marks
        F.sleepers_jobs F.sleepers
        (λ d. absurd (d (grant_request s F r m o A)))
        (grant_same s F r m o A) refl (granted_order above)
      where
        marks_long : (b : Bool) → length (if b then mark o s.certified else s.certified) ≡ mark_words
        marks_long true = length_mark o A.object.0 (object_fits s F r m o A) s.certified F.sized.certified
        marks_long false = F.sized.certified

        long : (b : Bool) → length (if b then s.writers else put s.writers o (with (holders s write o) r)) ≡ most_objects
        long true = F.sized.writers
        long false = length-put s.writers o (with (holders s write o) r) ∙ F.sized.writers
