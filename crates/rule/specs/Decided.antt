-- What the most urgent holder's key decides is what the lowest of all keys does (02, CR 9: "Both must equal the full reading of all locks"): in any state of
-- which the facts of its holders are known, for any rank. First the lock that is named, then the two sentences for well-formed states.
-- Assumes nothing.
use Rattle.std.specs.Prelude.{◌≡◌, refl, ◌≢◌, ◌⊎◌, Bool, true, false, not, ◌&&◌, ℕ, ◌≤◌, eqb, if◌then◌else◌}
use Rattle.std.proofs.Common.{arith, lt-ltb}
use Rattle.state.specs.declared.State.{State}
use Rattle.state.specs.State.{most_jobs}
use Rattle.state.specs.Weights.{weight}
use Rattle.state.specs.WellFormed.{well_formed}
use Rattle.state.specs.Facts.{Sized}
use Rattle.state.specs.WellFormedFacts.{facts}
use Rattle.state.specs.Holders.{HolderFacts, held_of, holder_facts}
use Rattle.weights.specs.Keys.{no_key, key_weight, others_key, object_key, lowest_key_by, lowest_key}
use Rattle.one_holder.specs.OneHolder.{holder_key, deciding_key, Decides}
use Rattle.one_holder.specs.OneHolderLaws.{deciding, holder_passes, holder_decides}
use Rattle.rule.specs.Granting.{passes_below, passes, named_key_of}

-- the same lock is named
named_same : (request k full j : ℕ) → Decides j k full → named_key_of request k j ≡ named_key_of request full j
named_same request k full j D = go (passes_below j full) refl (eqb request 0)
  where
    go : (b : Bool) → passes_below j full ≡ b → (none : Bool)
        → (if not none && not (passes_below j k) then k else no_key) ≡ (if not none && not (passes_below j full) then full else no_key)
    go b e true = refl
    go true e false = simp (D.same, e)
    go false e false = simp (D.same, e) (D.stops e)

pub named_decided : (s : State) → HolderFacts (held_of s) → (request j : ℕ) → j ≤ most_jobs
    → named_key_of request (deciding_key (held_of s) j) j ≡ named_key_of request (lowest_key s j) j
unfolding lowest_key_by object_key others_key weight
named_decided s H request j small = named_same request (deciding_key (held_of s) j) (lowest_key (held_of s) j) j (deciding (held_of s) H j small)

-- ---- in every well-formed state, for any rank

module _ (s : State) (sized : Sized s) (well : well_formed s ≡ true) (j : ℕ) where
  -- "If, after the refusals, that is the requester, the answer is a grant", and so where nobody holds a lock
  pub holder_grants : j ≤ most_jobs → (s.holder ≡ 0) ⊎ (s.holder ≡ j) → passes s j ≡ true
  holder_grants small c =
      lt-ltb j (key_weight (lowest_key s j)) (omega (arith, holder_passes s (holder_facts s (facts s sized well)) j small c))

  -- "otherwise only that job's locks decide it": the lowest key of all locks of others is the lowest of its keys
  pub holder_stops : s.holder ≢ 0 → s.holder ≢ j → lowest_key s j ≡ holder_key s s.holder
  holder_stops some other = holder_decides s (holder_facts s (facts s sized well)) j some other
