-- What holds of every load, said of what the generator answers and leaves in the lent buffer (02, CR 5: the sentence in quotes): `made_in_two`, in the words of specs/LoadTheorems, and
-- `made_allowed`, that no event made is refused by 9, 10 or 11.
-- Assumes nothing.
use Rattle.std.specs.Prelude.{◌≡◌, ℕ, zero, suc, ◌+◌, ◌-◌, ◌*◌, ◌%◌, ◌<◌, ◌≤◌, Bool, true, false, not, ◌≢◌, List, [], ◌∷◌, ◌++◌, length, take, drop, nat_lt, slice_index, slice_index_or, refl}
use Rattle.std.proofs.Math.Path.{sym, ap, ap₂}
use Rattle.std.proofs.Common.{subst, ◌∙◌, mod-lt, arith, take-append-drop, length-drop, drop_at, get_or-drop}
use mathlib.Core.List.{append_assoc}
use Rattle.std.proofs.Math.ListN.{get_or-append}
use borrow.Author.Tests.{ltb-false, not-false}
use Rattle.basics.specs.Choice.{inside_between, if_zero}
use Rattle.state.specs.declared.Counts.{Counts}
use Rattle.state.specs.declared.State.{State}
use Rattle.state.specs.State.{counts_of, is_rank, is_object}
use Rattle.state.specs.WellFormed.{well_formed}
use Rattle.state.specs.Clauses.{Within, clauses, counts_within_lem}
use Rattle.decimals.specs.Laid.{at_front, front_more, front_length}
use Rattle.refusals.specs.Refusals.{object_allowed, refusal}
use Rattle.refusals.specs.EventBytes.{kind_of_both, bytes_not_refused}
use Rattle.generator.specs.Load.{Made, step, drawn, kind_from, rank_from, object_from, event_from, seed_after, load, load_refusal, make_events, events_made}
use Rattle.generator.specs.LoadTheorems as T
use Rattle.generator.proofs.LoadLaws.{load_length, seed_join, load_join, load_at, refused_by_8, made}

-- ---- "For one table, making m and then, behind them, n events from the seed left over equals making m + n where the buffer holds all."

-- The first m are made in state s, those behind them in state t: two states of one table have the same counts, and are both well formed or both not.
module _ (s t : State) (seed m n : ℕ) (buffer : List ℕ) (same : t.counts ≡ s.counts) (alike : well_formed t ≡ well_formed s) where
  abbrev left : ℕ
  left = T.left s t seed m n buffer

  abbrev filled : List ℕ
  filled = T.filled s t seed m n buffer

  abbrev InTwo : Type 0
  InTwo = T.InTwo s t seed m n buffer

  refused_in_two : well_formed s ≡ false → InTwo
  refused_in_two w =
      let one = refused_by_8 s seed m buffer w in
      let two = refused_by_8 t left n (drop (3 * m) filled) (alike ∙ w) in
      let all = refused_by_8 s seed (m + n) buffer w in (
        two.0 ∙ ap (λ (a : Made). record { refusal = 8; seed = a.seed }) one.0 ∙ sym all.0,
        ap (λ (l : List ℕ). take (3 * m) filled ++ l) two.1 ∙ take-append-drop (3 * m) filled ∙ one.1 ∙ sym all.1,
      )

  filled_in_two : well_formed s ≡ true → 3 * (m + n) ≤ length buffer → InTwo
  filled_in_two w h =
      let c : Counts = s.counts in
      let first : List ℕ = load c m seed in
      let one = made s seed m buffer w (omega arith) in
      let left_is : left ≡ seed_after m seed = ap (λ (a : Made). a.seed) one.0 in
      let long : length first ≡ 3 * m = load_length c m seed in
      let room : length filled ≡ length buffer = ap length one.1 ∙ front_length first buffer (omega arith) in
      let two = made t left n (drop (3 * m) filled) (alike ∙ w) (omega (arith, length-drop (3 * m) filled)) in
      let all = made s seed (m + n) buffer w h in
      let second : List ℕ = load c n (seed_after m seed) in (
        two.0
            ∙ ap (λ (k : ℕ). record { refusal = 0; seed = k }) (ap (seed_after n) left_is ∙ sym (seed_join m n seed))
            ∙ sym all.0,
        ap (λ (l : List ℕ). take (3 * m) filled ++ l)
            (two.1 ∙ ap (λ (k : Counts). at_front (load k n left) (drop (3 * m) filled)) same)
            ∙ ap₂ (λ (l : List ℕ) (k : ℕ). take (3 * m) l ++ at_front (load c n k) (drop (3 * m) l)) one.1 left_is
            ∙ front_more first second buffer (3 * m) (length second) long refl
            ∙ ap (λ (l : List ℕ). at_front l buffer) (sym (load_join c m n seed))
            ∙ sym all.1,
      )

  pub made_in_two : 3 * (m + n) ≤ length buffer → InTwo
  made_in_two h = go (well_formed s) refl
    where
      go : (w : Bool) → well_formed s ≡ w → InTwo
      go true e = filled_in_two e h
      go false e = refused_in_two e

-- ---- every event made has a kind from 1 to 6, and a rank and an object that 10 and 11 do not refuse

-- in a state of the table the numbers drawn give an event that 9, 10 and 11 let pass
module _ (t : State) (w : Within t.counts) (first second third : ℕ) where
  abbrev kind : ℕ
  kind = kind_from first

  abbrev rank : ℕ
  rank = rank_from t.counts.jobs second

  abbrev object : ℕ
  object = object_from t.counts.objects kind third

  kind_in : (1 ≤ kind) × (kind ≤ 6)
  kind_in = omega arith

  rank_in : is_rank t rank ≡ true
  rank_in = inside_between 1 t.counts.jobs rank (omega arith) (omega (arith, mod-lt second w.jobs.0))

  object_in : object_allowed t kind object ≡ true
  object_in =
      let next : suc (first % 6) ≡ kind = omega arith in
      subst (λ (k : ℕ). object_allowed t k (object_from t.counts.objects k third) ≡ true) next (go (first % 6) (omega arith))
    where
      drawn_in : is_object t (1 + third % t.counts.objects) ≡ true
      drawn_in = inside_between 1 t.counts.objects (1 + third % t.counts.objects) (omega arith) (omega (arith, mod-lt third w.objects.0))

      go : (x : ℕ) → x < 6 → object_allowed t (suc x) (object_from t.counts.objects (suc x) third) ≡ true
      go zero h = refl
      go (suc zero) h = drawn_in
      go (suc (suc zero)) h = drawn_in
      go (suc (suc (suc zero))) h = drawn_in
      go (suc (suc (suc (suc zero)))) h = refl
      go (suc (suc (suc (suc (suc zero))))) h = refl
      go (suc (suc (suc (suc (suc (suc x)))))) h = absurd (omega arith)

  passes : (v : ℕ) → 9 ≤ v → v ≤ 11 → refusal t kind rank object ≢ v
  passes v low high = bytes_not_refused t kind rank object v (kind_of_both t.counts.version kind (inside_between 1 6 kind kind_in.0 kind_in.1)) rank_in object_in low high

module _ (s : State) (seed count i : ℕ) (buffer : List ℕ) where
  -- byte j of event i in the lent buffer
  abbrev byte_made : ℕ → ℕ
  byte_made j = slice_index (events_made s seed count buffer) (3 * i + j)

  accepted : (make_events s seed count buffer).refusal ≡ 0 → (well_formed s ≡ true) × (3 * count ≤ length buffer)
  unfolding load_refusal make_events
  accepted e =
      let a = if_zero 7 (not (well_formed s)) _ e in
      let b = if_zero 22 (nat_lt (length buffer) (3 * count)) 0 a.1 in
      (not-false (well_formed s) a.0, ltb-false (length buffer) (3 * count) b.0)

  abbrev event : List ℕ
  event = event_from s.counts (seed_after i seed)

  made_event : (make_events s seed count buffer).refusal ≡ 0 → i < count → (j : ℕ) → j < 3 → byte_made j ≡ slice_index event j
  unfolding event_from
  made_event e h j l =
      let known = accepted e in
      let c : Counts = s.counts in
      let behind : List ℕ = load c (count - (i + 1)) (seed_after (i + 1) seed) in
      let rest : List ℕ = drop (length (load c count seed)) buffer in
      sym (get_or-drop (3 * i) (events_made s seed count buffer) j 0)
      ∙ ap (λ (m : List ℕ). slice_index (drop (3 * i) m) j)
      ((made s seed count buffer known.0 known.1).1
      ∙ ap (λ (m : List ℕ). m ++ rest) (load_at c count seed i h)
      ∙ append_assoc (load c i seed) (event ++ behind) rest)
      ∙ ap (λ (m : List ℕ). slice_index m j) (drop_at (load c i seed) (event ++ behind ++ rest) (3 * i) (load_length c i seed))
      ∙ ap (λ (m : List ℕ). slice_index m j) (append_assoc event behind rest)
      ∙ get_or-append event (behind ++ rest) 0 j l

  pub made_allowed : (make_events s seed count buffer).refusal ≡ 0 → i < count
      → (1 ≤ byte_made 0) × (byte_made 0 ≤ 6)
      × ((t : State) → t.counts ≡ s.counts → (v : ℕ) → 9 ≤ v → v ≤ 11 → refusal t (byte_made 0) (byte_made 1) (byte_made 2) ≢ v)
  unfolding event_from
  made_allowed e h =
      let at : (j : ℕ) → j < 3 → byte_made j ≡ slice_index_or event j 0 = made_event e h in
      let known : Within s.counts = counts_within_lem s.counts (clauses s (accepted e).0).counts in (
        omega (arith, at 0 (omega arith)),
        omega (arith, at 0 (omega arith)),
        λ t same v low high is.
            let first : ℕ = drawn (step (seed_after i seed)) in
            let second : ℕ = drawn (step (step (seed_after i seed))) in
            let third : ℕ = drawn (step (step (step (seed_after i seed)))) in
            passes t (subst Within (sym same) known) first second third v low high
            (ap (λ (c : Counts). refusal t (kind_from first) (rank_from c.jobs second) (object_from c.objects (kind_from first) third)) same
            ∙ ap₂ (λ (k r : ℕ). refusal t k r (slice_index event 2)) (sym (at 0 (omega arith))) (sym (at 1 (omega arith)))
            ∙ ap (refusal t (byte_made 0) (byte_made 1)) (sym (at 2 (omega arith)))
            ∙ is),
      )

-- ---- four events for 4 jobs and 3 objects from seed 7, and the seed left over

pub example_load : (load (counts_of 1 2 4 3) 4 7 ≡ 2 ∷ 2 ∷ 1 ∷ 4 ∷ 1 ∷ 1 ∷ 3 ∷ 2 ∷ 3 ∷ 6 ∷ 2 ∷ 0 ∷ []) × (seed_after 4 7 ≡ 2281704755)
unfolding step event_from seed_after load
example_load = (refl, refl)
