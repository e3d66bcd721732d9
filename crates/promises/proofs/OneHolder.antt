-- What the carried rank, the most urgent holder's, decides (02, CR 9): whose lock stops a request, in any well-formed state, and that a request passes where it
-- passes that one job's locks; then what a request that is not refused is answered, and whom a waiting job names.
-- Assumes nothing.
use Rattle.std.specs.Prelude.{◌≡◌, refl, ◌≢◌, ◌↔◌, ◌⊎◌, Bool, true, false, ℕ, ◌≤◌, ◌<◌, eqb, get_or}
use Rattle.std.proofs.Common.{sym, subst, ◌∙◌, inl, inr, arith, ne_eqb}
use Rattle.std.proofs.Math.Decide.{ℕ_discrete}
use Rattle.std.proofs.lemmas.Bool.{eqb-false, not-true}
use Rattle.basics.specs.Choice.{clash}
use Rattle.state.specs.declared.State.{State}
use Rattle.state.specs.State.{most_jobs, read, write, holders, holds, request_of, is_waiting}
use Rattle.state.specs.Facts.{Sized, In, Facts}
use Rattle.state.specs.Modes.{Mode}
use Rattle.state.specs.Weights.{weight}
use Rattle.state.specs.WellFormed.{well_formed}
use Rattle.state.specs.WellFormedFacts.{facts, facts_well_formed, waiting_rank}
use Rattle.state.specs.Holders.{HolderFacts, holder_facts, carried_holds, carried_small, own_weight, others_weigh}
use Rattle.rule.specs.Granting.{passes}
use Rattle.rule.specs.GrantingTheorems.{HeldByAnother, MoreUrgentThanOthers, ComesFirst, by_weight, by_rank, by_object, FirstOfOthers}
use Rattle.rule.specs.GrantingTheorems.{stopping_holder, stopping_object}
use Rattle.rule.proofs.GrantingTheorems.{passes_iff, stopping_lock}
use Rattle.rule.specs.Decided.{holder_grants}
use Rattle.events.specs.Answers.{paper}
use Rattle.refusals.specs.Refusals.{is_request}
use Rattle.manager.specs.Step.{step}
use Rattle.promises.specs.Terms.{named, Reached, MoreUrgentThanLocksOf, FirstOfLocks}
use Rattle.promises.proofs.View.{names_lowest}
use Rattle.promises.proofs.ReachedStates.{kept}
use Rattle.promises.proofs.Waking.{blocked_not_woken}
use Rattle.promises.proofs.Requests.{rank_fits, granted_exactly, waits_stopped}

-- a lock that comes first weighs no more
first_weight : {w r o v q p : ℕ} → ComesFirst w r o v q p → w ≤ v
first_weight (by_weight a) = omega arith
first_weight (by_rank e a) = omega arith
first_weight (by_object e f a) = omega arith

module _ (s : State) (sized : Sized s) (well : well_formed s ≡ true) where
  H : HolderFacts s
  H = holder_facts s (facts s sized well)

  -- a lock of the most urgent holder, which weighs at most its rank
  record OneLock : Type 0 where
    mode : ℕ
    object : ℕ
    known : Mode mode
    held : holds s mode s.holder object ≡ true
    weighs : weight s mode s.holder object ≤ s.holder

  one_lock : s.holder ≢ 0 → OneLock
  one_lock some = let w = carried_holds s H some in go w.0 w.1 w.2
    where
      known_mode : (m o : ℕ) → Mode m → In (holders s m o) s.holder → OneLock
      known_mode m o k i = record { mode = m; object = o; known = k; held = i; weighs = own_weight s H m s.holder o i }

      go : (m o : ℕ) → In (holders s m o) s.holder → OneLock
      go m o i = elim (ℕ_discrete m read) [
        | yes e ↦ known_mode m o (inl e) i
        | no d ↦ known_mode write o (inr refl) (simp (ne_eqb m read d) at i)
      ]

  module _ (j : ℕ) where
    -- a request that passes the locks of the most urgent holder passes all
    one_holder_all : s.holder ≢ 0 → MoreUrgentThanLocksOf s s.holder j → MoreUrgentThanOthers s j
    one_holder_all some own m r o l = elim (ℕ_discrete r s.holder) [
      | yes e ↦ subst (λ x. holds s m x o ≡ true → j < weight s m x o) (sym e) (own m o l.mode) l.held
      | no d ↦
          let k = one_lock some in
          omega (arith, own k.mode k.object k.known k.held, k.weighs, others_weigh s H m r o l.held d)
    ]

    -- the first of the locks of others is the most urgent holder's, unless that is j itself
    first_of_holder : (r o : ℕ) → s.holder ≢ 0 → s.holder ≢ j → FirstOfOthers s j r o → r ≡ s.holder
    first_of_holder r o some other f = elim (ℕ_discrete r s.holder) [
      | yes e ↦ e
      | no d ↦
          let k = one_lock some in
          let l : HeldByAnother s j k.mode s.holder k.object = record { mode = k.known; other = other; held = k.held } in
          absurd (omega (
            arith,
            k.weighs,
            first_weight (f.first k.mode s.holder k.object l),
            others_weigh s H f.mode r o f.lock.held d,
          ))
    ]

    module _ (small : j ≤ most_jobs) (stops : passes s j ≡ false) where
      -- where a request does not pass, somebody else is carried
      somebody : s.holder ≢ 0
      somebody e = clash (holder_grants s sized well j small (inl e)) stops

      somebody_else : s.holder ≢ j
      somebody_else e = clash (holder_grants s sized well j small (inr e)) stops

      -- and it is that job's lock that stops it
      stopped_by_holder : stopping_holder s j ≡ s.holder
      stopped_by_holder =
          first_of_holder (stopping_holder s j) (stopping_object s j) somebody somebody_else (stopping_lock s sized well j small stops)

      -- the first of its locks
      stopped_by_first : FirstOfLocks s s.holder (stopping_object s j)
      stopped_by_first =
          let f = subst (λ h. FirstOfOthers s j h (stopping_object s j)) stopped_by_holder (stopping_lock s sized well j small stops) in
          record {
            mode = f.mode;
            known = f.lock.mode;
            held = f.lock.held;
            first = λ m p k i. f.first m s.holder p (record { mode = k; other = somebody_else; held = i });
          }

  -- ---- the answer to a request that is not refused

  module _ (k r o : ℕ) (kind : is_request k ≡ true) (ok : (paper (step s k r o).answer).number ≢ 4) where
    small_rank : r ≤ most_jobs
    small_rank = rank_fits s sized well k r o kind ok

    pub granted_to_holder : (s.holder ≡ 0) ⊎ (s.holder ≡ r) → (paper (step s k r o).answer).number ≡ 1
    granted_to_holder c =
        (granted_exactly s sized well k r o kind ok).1 ((passes_iff s sized well r small_rank).0 (holder_grants s sized well r small_rank c))

    pub granted_by_one : s.holder ≢ 0 → s.holder ≢ r → ((paper (step s k r o).answer).number ≡ 1) ↔ MoreUrgentThanLocksOf s s.holder r
    granted_by_one some other =
        let all = granted_exactly s sized well k r o kind ok in
        (λ one m p mode held. all.0 one m s.holder p (record { mode = mode; other = other; held = held }), λ own. all.1 (one_holder_all r some own))

    pub waits_one : (paper (step s k r o).answer).number ≡ 2 → get_or (paper (step s k r o).answer).values 0 0 ≡ s.holder
    waits_one two = let is = waits_stopped s sized well k r o kind ok two in is.1 ∙ stopped_by_holder r small_rank is.0

    pub waits_first : (paper (step s k r o).answer).number ≡ 2 → FirstOfLocks s s.holder (get_or (paper (step s k r o).answer).values 1 0)
    waits_first two = let is = waits_stopped s sized well k r o kind ok two in rw is.2 (stopped_by_first r small_rank is.0)

-- ---- the waiting jobs, in every state that is reached

module _ {t : State} (r : Reached t) where
  F : Facts t
  F = (kept r).facts

  well_formed_lem : well_formed t ≡ true
  well_formed_lem = facts_well_formed t F

  fails : (j : ℕ) → is_waiting t j ≡ true → passes t j ≡ false
  fails = blocked_not_woken t F (kept r).invariant.blocked

  pub names_carried : (j : ℕ) → is_waiting t j ≡ true → named t j ≡ t.holder
  names_carried j waits =
      let d = eqb-false (request_of t j) 0 (not-true (eqb (request_of t j) 0) waits) in
      names_lowest t F j d (fails j waits)
      ∙ stopped_by_holder t F.sized well_formed_lem j (omega (arith, waiting_rank t F j d, F.counts.jobs)) (fails j waits)

  pub carried_goes_on : is_waiting t t.holder ≡ false
  carried_goes_on = go (is_waiting t t.holder) refl
    where
      go : (b : Bool) → is_waiting t t.holder ≡ b → b ≡ false
      go true e =
          absurd (clash (holder_grants t F.sized well_formed_lem t.holder (carried_small t (holder_facts t F)) (inr refl)) (fails t.holder e))
      go false e = refl
