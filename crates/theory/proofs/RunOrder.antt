-- Finished runs as if one by one (Arrows), of any events from a fresh state, where each event is a Step and a ModeStep and keeps conflicting locks apart.
-- A run is granted nothing once it has released a lock (GrantsFirst). So an arrow leads from a run whose grants are all past to one that has a grant to come,
-- which gives claims 2 and 3, and that there is no arrow both ways. Of two finished runs granted conflicting locks on one object the last locks there
-- conflict too, and the later one was granted once the other was released (LastLocks): that is the arrow.
use Rattle.std.specs.Prelude.{◌≡◌, refl, ◌≢◌, ◌⊎◌, ℕ, zero, suc, ◌≤◌, ◌<◌}
use Rattle.std.proofs.Common.{sym, subst, ◌∙◌, inl, inr, arith}
use Rattle.std.proofs.Math.Decide.{ℕ_discrete, dec_le, dec_lt}
use Rattle.theory.specs.Words.{Label, Starts, Never, Grant}
use Rattle.theory.specs.Arrows.{Finished, Released, LastGrant, ReleasedBefore, Arrow, Leads, arrow, follow, InConflict, Claim1, Claim2, OneByOne}
use Rattle.theory.specs.Arrows.{Place, at_last_grant, at_start, OneOrder}
use Rattle.theory.specs.Machine.{View}
use Rattle.theory.specs.Modes.{Modes, ModeStep, KeepsApart}
use Rattle.theory.specs.RunOrder.{InOrder}
use Rattle.theory.proofs.Keeps.{taking, wakens_waited, takes_one}
use Rattle.theory.specs.Links.{Trace}
use Rattle.theory.proofs.Links.{extend, nothing_between, grant_takes, takes_grant, one_taker, grants_apart, granted_earlier}
use Rattle.theory.proofs.GrantsFirst.{trace_grants_first}
use Rattle.theory.proofs.ConflictLaws.{conflict_last, in_conflict_turned}
use Rattle.theory.proofs.LastLocks.{finish_ends, trace_never_together, last_lock, released_before}

module _ {N version : ℕ} {view : ℕ → View} {modes : ℕ → Modes} {label : ℕ → Label} (T : Trace N view label)
    (M : (i : ℕ) → ModeStep (view i) (modes i) (label i) (modes (suc i)))
    (K : (i : ℕ) → KeepsApart version (view i) (modes i) (label i)) where
  -- ---- two runs in conflict

  -- the last locks of the two there conflict too
  released_there : {j k j' k' o m n g h : ℕ} → InConflict label version j k j' k' o m n g h → g < h → ReleasedBefore label version j k j' k' o
  released_there {j} {k} {j'} {k'} {o} {m} {n} {g} {h} C l =
      let L = last_lock T M K m j k o g C.first_finished C.first_granted in
      let L' = last_lock T M K n j' k' o h C.second_finished C.second_granted in
      let later : h ≤ L'.released.held.last =
      elim (dec_le h L'.released.held.last) [
        | yes a ↦ a
        | no a ↦ absurd (L'.released.held.none_later h (omega arith) L'.after C.second_granted.grant)
      ] in
      record {
        released_mode = L.mode;
        granted_mode = L'.mode;
        release = L.release;
        grant = L'.released.held.last;
        released = L.released;
        granted = L'.released.held.grant;
        before = omega (arith, released_before T M K C l);
        conflict = conflict_last C.conflict L.stronger L'.stronger L.known L'.known (λ e. (L.final e, L'.final e));
      }

  drawn : {j k j' k' o m n g h : ℕ} → InConflict label version j k j' k' o m n g h → g < h → Arrow label version j k j' k'
  drawn {o = o} C l = record {
    another = C.another;
    from_finished = C.first_finished;
    to_finished = C.second_finished;
    object = o;
    there = released_there C l;
  }

  -- one of the two was granted its lock first
  one_first : {j k j' k' o m n g h : ℕ} → InConflict label version j k j' k' o m n g h → (g < h) ⊎ (h < g)
  one_first {j} {k} {j'} {k'} {o} {m} {n} {g} {h} C =
      grants_apart T j k o j' k' o g h C.another C.first_granted.grant C.second_granted.grant

  -- ---- last grants

  -- an event is a grant of the run, or is none
  dec_grant : (j k t : ℕ) → ((o : ℕ) × Grant label j k o t) ⊎ ((o : ℕ) → ¬ Grant label j k o t)
  dec_grant j k t = elim (taking (T.step t)) [
    | inr none ↦ inr (λ o v. none.0 j o (grant_takes T j k o t v))
    | inl x ↦ elim (ℕ_discrete x.0 j) [
      | no d ↦ inr (λ o v. d (takes_one (T.step t) x.0 x.1 j o x.2 (grant_takes T j k o t v)))
      | yes e ↦ own x.1 (takes_grant T j x.1 t (rw e at x.2))
    ]
  ]
    where
      own : (p : ℕ) → (i : ℕ) × Grant label j i p t → ((o : ℕ) × Grant label j k o t) ⊎ ((o : ℕ) → ¬ Grant label j k o t)
      own p (i, v) = elim (ℕ_discrete i k) [
        | yes e ↦ inl (p, rw e at v)
        | no d ↦ inr (λ o w. d (one_taker T j i p j k o t v w))
      ]

  -- the run's last grant before time t, or none came
  abbrev LastBy : (j k t : ℕ) → Type 0
  LastBy j k t = (g : ℕ) × (g < t) × ((o : ℕ) × Grant label j k o g) × Never (λ x. (o : ℕ) × Grant label j k o x) g t

  last_by : (j k t : ℕ) → LastBy j k t ⊎ ((o g : ℕ) → g < t → ¬ Grant label j k o g)
  last_by j k zero = inr (λ o g l v. omega arith)
  last_by j k (suc t) = elim (dec_grant j k t) [
    | inl v ↦ inl (t, omega arith, v, nothing_between P t)
    | inr none ↦ elim (last_by j k t) [
      | inl x ↦ inl (x.0, omega (arith, x.1), x.2, extend P x.3 (λ v. none v.0 v.1))
      | inr earlier ↦ inr (λ o g l v. elim (ℕ_discrete g t) [ yes e ↦ none o (rw e at v) | no d ↦ earlier o g (omega arith) v ])
    ]
  ]
    where
      P : ℕ → Type 0
      P x = (o : ℕ) × Grant label j k o x

  -- a finished run has a last grant, or it was granted no lock
  last_or_none : (j k : ℕ) → Finished label j k → ((g : ℕ) × LastGrant label j k g) ⊎ ((o g : ℕ) → ¬ Grant label j k o g)
  last_or_none j k F = elim (last_by j k F.finish) [
    | inl x ↦ inl (x.0, record { object = x.2.0; grant = x.2.1; none_later = λ o y l v. x.3 y l (in_time o y v) (o, v) })
    | inr none ↦ inr (λ o g v. none o g (in_time o g v) v)
  ]
    where
      in_time : (o g : ℕ) → Grant label j k o g → g < F.finish
      in_time o g v = granted_earlier T j k o F.finish o g F.finishes.run (inr (finish_ends label F.finishes)) v

  has_last : (j k o g : ℕ) → Finished label j k → Grant label j k o g → (x : ℕ) × LastGrant label j k x
  has_last j k o g F v = elim (last_or_none j k F) [ inl x ↦ x | inr none ↦ absurd (none o g v) ]

  last_least : {j k g : ℕ} → LastGrant label j k g → (o x : ℕ) → Grant label j k o x → x ≤ g
  last_least {j} {k} {g} a o x v = elim (dec_le x g) [ yes l ↦ l | no l ↦ absurd (a.none_later o x (omega arith) v) ]

  last_apart : (j k j' k' g g' : ℕ) → k ≢ k' → LastGrant label j k g → LastGrant label j' k' g' → (g < g') ⊎ (g' < g)
  last_apart j k j' k' g g' d a b = grants_apart T j k a.object j' k' b.object g g' d a.grant b.grant

  agrees : (j k j' k' g g' : ℕ) → Arrow label version j k j' k' → LastGrant label j k g → LastGrant label j' k' g' → g < g'
  agrees j k j' k' g g' a x y =
      let z = a.there in
      omega (
        arith,
        trace_grants_first T z.released_mode j k a.object z.release x.object g z.released x.grant,
        z.before,
        last_least y a.object z.grant z.granted.grant,
      )

  -- ---- the three claims

  last_of_first : {j k j' k' : ℕ} → Arrow label version j k j' k' → (g : ℕ) × LastGrant label j k g
  last_of_first {j} {k} a = let h = a.there.released.held in has_last j k a.object h.last a.from_finished h.grant.grant

  last_of_second : {j k j' k' : ℕ} → Arrow label version j k j' k' → (g : ℕ) × LastGrant label j' k' g
  last_of_second {j' = j'} {k' = k'} a = has_last j' k' a.object a.there.grant a.to_finished a.there.granted.grant

  leads_later : (j k j' k' g g' : ℕ) → Leads label version j k j' k' → LastGrant label j k g → LastGrant label j' k' g' → g < g'
  leads_later j k j' k' g g' (arrow a) x y = agrees j k j' k' g g' a x y
  leads_later j k j' k' g g' (follow {j' = i} {k' = l} a more) x y =
      let z = last_of_second a in
      omega (arith, agrees j k i l g z.0 a x z.1, leads_later i l j' k' z.0 g' more z.1 y)

  leads_from : (j k j' k' : ℕ) → Leads label version j k j' k' → (g : ℕ) × LastGrant label j k g
  leads_from j k j' k' (arrow a) = last_of_first a
  leads_from j k j' k' (follow a more) = last_of_first a

  two : Claim2 label version
  two j k l = let x = leads_from j k j k l in omega (arith, leads_later j k j k x.0 x.0 l x.1 x.1)

  one : Claim1 label version
  one j k j' k' o m n g h C = elim (one_first C) [
    | inl l ↦ (let a = drawn C l in inl (a, λ b. two j k (follow a (arrow b))))
    | inr l ↦ (let b = drawn (in_conflict_turned C) l in inr (b, λ a. two j k (follow a (arrow b))))
  ]

  trace_one_by_one : OneByOne label version
  trace_one_by_one = record { one = one; two = two; three = record { has_last = has_last; one_earlier = last_apart; agrees = agrees } }

  -- ---- one order

  -- a start grants no lock
  start_grants_none : (i j k o t : ℕ) → Starts (label t) i → ¬ Grant label j k o t
  start_grants_none i j k o t u v = elim (grant_takes T j k o t v) [
    | inl g ↦ omega arith
    | inr w ↦ omega (arith, wakens_waited (T.step t) j w.0)
  ]

  has_place : (j k : ℕ) → Finished label j k → (p : ℕ) × Place label j k p
  has_place j k F = elim (last_or_none j k F) [ inl x ↦ (x.0, at_last_grant x.1) | inr none ↦ (k, at_start none refl) ]

  one_place : (j k p p' : ℕ) → Place label j k p → Place label j k p' → p ≡ p'
  one_place j k p p' (at_last_grant a) (at_last_grant b) =
      omega (arith, last_least a b.object p' b.grant, last_least b a.object p a.grant)
  one_place j k p p' (at_last_grant a) (at_start none e) = absurd (none a.object p a.grant)
  one_place j k p p' (at_start none e) (at_last_grant b) = absurd (none b.object p' b.grant)
  one_place j k p p' (at_start none e) (at_start none' e') = sym e ∙ e'

  places_differ : (j k j' k' p : ℕ) → k ≢ k' → Finished label j k → Finished label j' k' → Place label j k p → ¬ Place label j' k' p
  places_differ j k j' k' p d F F' (at_last_grant a) (at_last_grant b) = d (one_taker T j k a.object j' k' b.object p a.grant b.grant)
  places_differ j k j' k' p d F F' (at_last_grant a) (at_start none e) =
      start_grants_none j' j k a.object p (subst (λ t. Starts (label t) j') e F'.finishes.run.starts) a.grant
  places_differ j k j' k' p d F F' (at_start none e) (at_last_grant b) =
      start_grants_none j j' k' b.object p (subst (λ t. Starts (label t) j) e F.finishes.run.starts) b.grant
  places_differ j k j' k' p d F F' (at_start none e) (at_start none' e') = d (e ∙ sym e')

  one_earlier : (j k j' k' p p' : ℕ) → k ≢ k' → Finished label j k → Finished label j' k' → Place label j k p → Place label j' k' p'
      → (p < p') ⊎ (p' < p)
  one_earlier j k j' k' p p' d F F' x y = elim (dec_lt p p') [
    | yes l ↦ inl l
    | no l ↦ elim (dec_lt p' p) [
      | yes l' ↦ inr l'
      | no l' ↦ (let e : p' ≡ p = omega arith in absurd (places_differ j k j' k' p d F F' x (subst (Place label j' k') e y)))
    ]
  ]

  -- the place of a run that was granted a lock
  place_last : {j k p : ℕ} → Place label j k p → (o g : ℕ) → Grant label j k o g → LastGrant label j k p
  place_last (at_last_grant a) o g v = a
  place_last (at_start none e) o g v = absurd (none o g v)

  released_first : (j k j' k' o m n g h p p' : ℕ) → InConflict label version j k j' k' o m n g h
      → Place label j k p → Place label j' k' p' → p < p' → (r : ℕ) × (i : ℕ) × Released label r j k o i × (i ≤ h)
  released_first j k j' k' o m n g h p p' C x y l = elim (one_first C) [
    | inl a ↦ (let L = last_lock T M K m j k o g C.first_finished C.first_granted in (L.mode, L.release, L.released, released_before T M K C a))
    | inr a ↦
        absurd (omega (
          arith,
          agrees j' k' j k p' p (drawn (in_conflict_turned C) a) (place_last y o h C.second_granted.grant) (place_last x o g C.first_granted.grant),
        ))
  ]

  trace_one_order : OneOrder label version
  trace_one_order = record { has_place = has_place; one_place = one_place; one_earlier = one_earlier; released_first = released_first }

  pub trace_in_order : InOrder label version
  trace_in_order = record {
    one_by_one = trace_one_by_one;
    one_order = trace_one_order;
    never_together = trace_never_together T M K;
    grants_first = trace_grants_first T;
  }
