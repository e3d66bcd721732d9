-- What each change of a state does: `Same s t x` says that t says of job x what s says, and every change leaves each job but its own so.
-- Then what a change does to the holders of each object, and to the request of its own job.
-- Assumes nothing.
use Rattle.std.specs.Prelude.{◌≡◌, ◌≢◌, ◌⊎◌, Bool, ℕ, zero, suc, ◌^◌, ◌≤◌, ◌<◌, eqb, if◌then◌else◌}
use Rattle.std.proofs.Math.Path.{refl, subst, ap}
use Rattle.std.proofs.Common.{sym, ◌∙◌, inl, inr, arith, eq-eqb, ne_eqb}
use Rattle.std.proofs.Math.Bool.{true, false}
use Rattle.std.proofs.Math.Decide.{ℕ_discrete}
use Rattle.basics.specs.Choice.{clash}
use Rattle.basics.specs.Arrays.{at, put, at-put_same, at-put_other, at-mapped}
use Rattle.ranks.specs.Ranks.{member, with, without}
use Rattle.ranks.specs.RankLaws.{member-with_same, member-with_other, member-without_same, member-without_other, with-lt, without-lt}
use Rattle.state.specs.declared.State.{State}
use Rattle.state.specs.State.{most_jobs, most_objects, read, write, certify, marked, mark, holders, holds, is_certified, is_active, has_unlocked, is_sleeping, request_of, request_for}
use Rattle.state.specs.State.{with_locks, with_sleepers}
use Rattle.state.specs.State.{activate, await, grant, end_run}
use Rattle.state.specs.Facts.{Sized, In, RequestFacts, Facts}
use Rattle.state.specs.Marks.{mark_same, mark_other, drop_kept, drop_gone}
use Rattle.state.specs.Modes.{either_mode}
use Rattle.state.specs.WellFormedFacts.{active_rank}

-- the locks of t over the table of s: every change of s is of this form
abbrev pub over_table : State → State → State
over_table s t = with_locks s t.active t.unlocked t.sleeping t.holder t.readers t.writers t.certified t.request

-- t says of job x what s says
pub record Same (s t : State) (x : ℕ) : Type 0 where
  pub active : is_active t x ≡ is_active s x
  pub unlocked : has_unlocked t x ≡ has_unlocked s x
  pub sleeping : is_sleeping t x ≡ is_sleeping s x
  pub request : request_of t x ≡ request_of s x
  pub locks : (m o : ℕ) → holds t m x o ≡ holds s m x o
  pub certified : (o : ℕ) → holds s write x o ≡ true → is_certified t o ≡ is_certified s o

-- t says of job x's locks on object p what s says
pub record SameLocks (s t : State) (x p : ℕ) : Type 0 where
  pub locks : (m : ℕ) → holds t m x p ≡ holds s m x p
  pub certified : holds s write x p ≡ true → is_certified t p ≡ is_certified s p

-- at most one job writes an object
pub one_writer : {s : State} → Facts s → (o a b : ℕ) → In (holders s write o) a → In (holders s write o) b → a ≡ b
one_writer F o a b i = ((F.locks o).alone a b i).0

-- where the other jobs' locks stay, and those on other objects, each lock stays but r's on o
pub other_locks : (s t : State) (r o : ℕ) → ((x : ℕ) → r ≢ x → Same s t x) → ((m p : ℕ) → o ≢ p → holders t m p ≡ holders s m p)
    → ((p : ℕ) → o ≢ p → is_certified t p ≡ is_certified s p) → (x p : ℕ) → SameLocks s t x p ⊎ ((r ≡ x) × (o ≡ p))
other_locks s t r o jobs objects marks x p = elim (ℕ_discrete r x) [
  | yes e ↦ elim (ℕ_discrete o p) [
    | yes q ↦ inr (e, q)
    | no d ↦ inl (record { locks = λ m. ap (λ v. member v x) (objects m p d); certified = λ h. marks p d })
  ]
  | no d ↦ inl (record { locks = λ m. (jobs x d).locks m p; certified = (jobs x d).certified p })
]

-- ---- members of a set that one rank was put into or taken out of

pub with_in : (set r x : ℕ) → In (with set r) x → (r ≡ x) ⊎ In set x
with_in set r x i = elim (ℕ_discrete r x) [ yes e ↦ inl e | no d ↦ inr (sym (member-with_other set r x d) ∙ i) ]

pub without_in : (set r x : ℕ) → In (without set r) x → In set x × (r ≢ x)
without_in set r x i = elim (ℕ_discrete r x) [
  | yes e ↦ absurd (clash i (rw (← e) (member-without_same set r)))
  | no d ↦ (sym (member-without_other set r x d) ∙ i, d)
]

pub with_grows : (set r x : ℕ) → 1 ≤ r → In set x → In (with set r) x
with_grows set r x low i = elim (ℕ_discrete r x) [
  | yes e ↦ subst (λ n. In (with set r) n) e (member-with_same set r low)
  | no d ↦ member-with_other set r x d ∙ i
]

-- ---- the holders of an object after a grant to r in mode m

-- r joins the readers, or leaves them for the writers
abbrev pub readers_after : (m r readers : ℕ) → ℕ
readers_after m r readers = if eqb m read then with readers r else without readers r

abbrev pub writers_after : (m r writers : ℕ) → ℕ
writers_after m r writers = if eqb m read then writers else with writers r

module _ (m r v : ℕ) where
  pub readers_after_other : (x : ℕ) → r ≢ x → member (readers_after m r v) x ≡ member v x
  readers_after_other x d = go (eqb m read)
    where
      go : (b : Bool) → member (if b then with v r else without v r) x ≡ member v x
      go true = member-with_other v r x d
      go false = member-without_other v r x d

  writers_after_other : (x : ℕ) → r ≢ x → member (writers_after m r v) x ≡ member v x
  writers_after_other x d = go (eqb m read)
    where
      go : (b : Bool) → member (if b then v else with v r) x ≡ member v x
      go true = refl
      go false = member-with_other v r x d

  pub readers_after_lt : (k : ℕ) → v < 2 ^ k → r ≤ k → readers_after m r v < 2 ^ k
  readers_after_lt k l h = go (eqb m read)
    where
      go : (b : Bool) → (if b then with v r else without v r) < 2 ^ k
      go true = with-lt k v r l h
      go false = without-lt k v r l

  pub writers_after_lt : (k : ℕ) → v < 2 ^ k → r ≤ k → writers_after m r v < 2 ^ k
  writers_after_lt k l h = go (eqb m read)
    where
      go : (b : Bool) → (if b then v else with v r) < 2 ^ k
      go true = l
      go false = with-lt k v r l h

-- ---- start, wait and sleep

module _ (s : State) (r : ℕ) where
  pub activate_same : (x : ℕ) → r ≢ x → Same s (activate s r) x
  unfolding activate
  activate_same x d = record { active = member-with_other s.active r x d; unlocked = refl; sleeping = refl; request = refl; locks = λ m o. refl; certified = λ o h. refl }

  pub await_same : (m o x : ℕ) → r ≢ x → Same s (await s m r o) x
  unfolding await
  await_same m o x d = record {
    active = refl;
    unlocked = refl;
    sleeping = refl;
    request = at-put_other s.request r (request_for m o) x d;
    locks = λ n p. refl;
    certified = λ p h. refl;
  }

-- other sleepers say the same of whoever is asleep in both or in neither
pub sleepers_same : (s : State) (z x : ℕ) → member z x ≡ is_sleeping s x → Same s (with_sleepers s z) x
sleepers_same s z x e = record { active = refl; unlocked = refl; sleeping = e; request = refl; locks = λ m o. refl; certified = λ o h. refl }

-- ---- the end of a run

pub without_none : (r : ℕ) → without 0 r ≡ 0
unfolding without
without_none zero = refl
without_none (suc i) = refl

module _ (s : State) (F : Facts s) (r : ℕ) where
  pub end_holders : (m o : ℕ) → holders (end_run s r) m o ≡ without (holders s m o) r
  unfolding end_run
  end_holders m o =
      either_mode (λ f. f (at (end_run s r).readers o) (at (end_run s r).writers o) ≡ without (f (at s.readers o) (at s.writers o)) r)
      (at-mapped (λ v. without v r) most_objects s.readers o (without_none r) F.sized.readers)
      (at-mapped (λ v. without v r) most_objects s.writers o (without_none r) F.sized.writers) m

  -- the marks on what r does not write stay, those on what it writes go
  pub end_mark_kept : (o : ℕ) → holds s write r o ≡ false → is_certified (end_run s r) o ≡ is_certified s o
  unfolding end_run
  end_mark_kept o h = drop_kept r s.writers s.certified F.sized.certified o h

  pub end_mark_gone : (o : ℕ) → 1 ≤ o → o ≤ most_objects → holds s write r o ≡ true → is_certified (end_run s r) o ≡ false
  unfolding end_run
  end_mark_gone o a b h = drop_gone r s.writers s.certified o a b h

  pub end_same : (x : ℕ) → r ≢ x → Same s (end_run s r) x
  unfolding end_run
  end_same x d = record {
    active = member-without_other s.active r x d;
    unlocked = member-without_other s.unlocked r x d;
    sleeping = member-without_other s.sleeping r x d;
    request = at-put_other s.request r 0 x d;
    locks = λ m o. ap (λ v. member v x) (end_holders m o) ∙ member-without_other (holders s m o) r x d;
    certified = λ o h. end_mark_kept o (other o h (holds s write r o) refl);
  }
    where
      other : (o : ℕ) → holds s write x o ≡ true → (b : Bool) → holds s write r o ≡ b → b ≡ false
      other o h true e = absurd (d (one_writer F o r x e h))
      other o h false e = refl

  pub end_none : (m o : ℕ) → holds (end_run s r) m r o ≡ false
  end_none m o = ap (λ v. member v r) (end_holders m o) ∙ member-without_same (holders s m o) r

  -- each lock stays but those of r
  pub end_locks : (x p : ℕ) → SameLocks s (end_run s r) x p ⊎ (r ≡ x)
  end_locks x p = elim (ℕ_discrete r x) [
    | yes e ↦ inr e
    | no d ↦ inl (record { locks = λ m. (end_same x d).locks m p; certified = (end_same x d).certified p })
  ]

  pub end_request : 1 ≤ r → r ≤ s.counts.jobs → request_of (end_run s r) r ≡ 0
  unfolding end_run
  end_request low high = at-put_same s.request r 0 low (omega (arith, F.sized.request, F.counts.jobs))

-- ---- a wait for what r may ask for, and a grant of it

module _ (s : State) (F : Facts s) (r m o : ℕ) (A : RequestFacts s m r o) where
  abbrev Z : Sized s
  Z = F.sized

  pub object_fits : o ≤ most_objects
  object_fits = omega (arith, A.object, F.counts.objects)

  rank_fits : (1 ≤ r) × (r ≤ most_jobs)
  rank_fits = let rank = active_rank s F r A.active in (rank.0, omega (arith, rank.1, F.counts.jobs))

  pub await_request : request_of (await s m r o) r ≡ request_for m o
  unfolding await
  await_request = at-put_same s.request r (request_for m o) rank_fits.0 (omega (arith, rank_fits.1, Z.request))

  pub grant_request : request_of (grant s m r o) r ≡ 0
  unfolding grant
  grant_request = at-put_same s.request r 0 rank_fits.0 (omega (arith, rank_fits.1, Z.request))

  pub grant_readers_lem : holders (grant s m r o) read o ≡ readers_after m r (holders s read o)
  unfolding grant
  grant_readers_lem = at-put_same s.readers o (readers_after m r (at s.readers o)) A.object.0 (omega (arith, object_fits, Z.readers))

  pub grant_writers_lem : holders (grant s m r o) write o ≡ writers_after m r (holders s write o)
  unfolding grant
  grant_writers_lem = go (eqb m read)
    where
      go : (b : Bool) → at (if b then s.writers else put s.writers o (with (at s.writers o) r)) o
          ≡ (if b then at s.writers o else with (at s.writers o) r)
      go true = refl
      go false = at-put_same s.writers o (with (at s.writers o) r) A.object.0 (omega (arith, object_fits, Z.writers))

  pub grant_others : (n p : ℕ) → o ≢ p → holders (grant s m r o) n p ≡ holders s n p
  unfolding grant
  grant_others n p d =
      either_mode (λ f. f (at (grant s m r o).readers p) (at (grant s m r o).writers p) ≡ f (at s.readers p) (at s.writers p))
      (at-put_other s.readers o (readers_after m r (at s.readers o)) p d) (go (eqb m read)) n
    where
      go : (b : Bool) → at (if b then s.writers else put s.writers o (with (at s.writers o) r)) p ≡ at s.writers p
      go true = refl
      go false = at-put_other s.writers o (with (at s.writers o) r) p d

  -- the mark of o is set by a certify lock, and no other mark changes
  pub grant_certified : m ≡ certify → is_certified (grant s m r o) o ≡ true
  unfolding grant
  grant_certified e =
      ap (λ b. marked (if b then mark o s.certified else s.certified) o) (eq-eqb m certify e)
      ∙ mark_same o A.object.0 object_fits s.certified Z.certified

  pub grant_mark_kept : m ≢ certify → (p : ℕ) → is_certified (grant s m r o) p ≡ is_certified s p
  unfolding grant
  grant_mark_kept d p = ap (λ b. marked (if b then mark o s.certified else s.certified) p) (ne_eqb m certify d)

  pub grant_mark_other : (p : ℕ) → o ≢ p → is_certified (grant s m r o) p ≡ is_certified s p
  unfolding grant
  grant_mark_other p d = go (eqb m certify)
    where
      go : (b : Bool) → marked (if b then mark o s.certified else s.certified) p ≡ marked s.certified p
      go true = mark_other o A.object.0 object_fits s.certified Z.certified p d
      go false = refl

  pub grant_same : (x : ℕ) → r ≢ x → Same s (grant s m r o) x
  unfolding grant
  grant_same x d = record {
    active = refl;
    unlocked = refl;
    sleeping = refl;
    request = at-put_other s.request r 0 x d;
    locks = λ n p. elim (ℕ_discrete o p) [
      | yes e ↦ subst (λ q. holds (grant s m r o) n x q ≡ holds s n x q) e (there n)
      | no k ↦ ap (λ v. member v x) (grant_others n p k)
    ];
    certified = λ p h. elim (ℕ_discrete o p) [
      | yes e ↦ grant_mark_kept (λ q. d (one_writer F o r x (A.before q) (subst (λ y. holds s write x y ≡ true) (sym e) h))) p
      | no k ↦ grant_mark_other p k
    ];
  }
    where
      there : (n : ℕ) → holds (grant s m r o) n x o ≡ holds s n x o
      there =
          either_mode (λ f. member (f (holders (grant s m r o) read o) (holders (grant s m r o) write o)) x
          ≡ member (f (holders s read o) (holders s write o)) x)
          (ap (λ v. member v x) grant_readers_lem ∙ readers_after_other m r (holders s read o) x d)
          (ap (λ v. member v x) grant_writers_lem ∙ writers_after_other m r (holders s write o) x d)

  -- each lock stays but that of r on o
  pub grant_locks : (x p : ℕ) → SameLocks s (grant s m r o) x p ⊎ ((r ≡ x) × (o ≡ p))
  grant_locks = other_locks s (grant s m r o) r o grant_same grant_others grant_mark_other
