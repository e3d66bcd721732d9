-- The laws of a load in parts: no part, a part more (`after_part`, `after_made`), the seed that is gone on from (`seed_gone_on`), and that the parts joined are
-- the load (`parts_are_load`).
-- Assumes nothing.
use mathlib.Core.Bool.{false≢true}
use Rattle.std.specs.Prelude.{ℕ, zero, suc, ◌+◌, ◌*◌, ◌-◌, ◌≤◌, ◌<◌, min, ◌≡◌, refl, true, List, ◌++◌, length, Result, Ok, Err}
use Rattle.std.specs.Result.{IsErr, result_unwrap_or, result_and}
use Rattle.std.proofs.Common.{sym, ap, ap₂, subst, ◌∙◌, append-nil, arith, ne_eqb}
use Rattle.std.proofs.Math.Decide.{dec_le}
use Rattle.basics.specs.Loops.{joined}
use Rattle.state.specs.declared.Counts.{Counts}
use Rattle.state.specs.declared.State.{State}
use Rattle.state.specs.declared.refusal.Refusal.{Refusal}
use Rattle.state.specs.RefusalNumbers.{number, number_positive}
use Rattle.state.specs.WellFormed.{well_formed}
use Rattle.decimals.specs.Laid.{at_front, front_length}
use Rattle.generator.specs.Load.{Made, seed_after, load, load_refusal, make_events, events_made, made_of}
use Rattle.generator.proofs.LoadLaws.{load_length, seed_join, load_join}
use Rattle.generator.proofs.LoadLaws.{made as made_events}
use Rattle.loader.specs.Loading.{part_events, part, overlaid, AfterParts}

pub after_none : (c : Counts) (seed count : ℕ) (buffer : List ℕ) → AfterParts c seed count 0 seed buffer buffer
unfolding seed_after overlaid
after_none c seed count buffer = record { parts = 0; made_is = omega arith; next_is = refl; buffer_is = refl }

-- a part more, where there are events left
pub after_part : (c : Counts) (seed count made next : ℕ) (buffer buffer' : List ℕ) → AfterParts c seed count made next buffer buffer' → made < count
    → AfterParts c seed count (made + min part_events (count - made)) (seed_after (min part_events (count - made)) next) buffer
    (at_front (load c (min part_events (count - made)) next) buffer')
unfolding part overlaid
after_part c seed count made next buffer buffer' a h =
    let here : made ≡ part_events * a.parts = omega (arith, a.made_is) in
    let n : ℕ = min part_events (count - made) in
    let same : load c n next ≡ part c seed count (suc a.parts) =
    ap₂ (λ (m s : ℕ). load c (min part_events (count - m)) s) here (a.next_is ∙ ap (λ (m : ℕ). seed_after m seed) here) in
    record {
      parts = suc a.parts;
      made_is = omega arith;
      next_is = ap (seed_after n) a.next_is ∙ sym (seed_join made n seed);
      buffer_is = ap₂ at_front same a.buffer_is;
    }

-- "A refusal gives back the seed handed in": it is the one that a call which the generator refuses leaves
pub seed_given_back : (state : State) (seed count next : ℕ) (buffer : List ℕ) (r : Result (Unit {0}) Refusal)
    → made_of next r ≡ make_events state seed count buffer → IsErr r → next ≡ seed
unfolding make_events
seed_given_back state seed count next buffer (Ok done) is refused = absurd (false≢true refused)
seed_given_back state seed count next buffer (Err refusal) is refused =
    let n : number refusal ≡ load_refusal state count buffer = ap (λ (m : Made). m.refusal) is in
    ap (λ (m : Made). m.seed) is ∙ simp (ne_eqb (load_refusal state count buffer) 0 (λ z. number_positive refusal (n ∙ z)))

-- the seed that is gone on from, which the call left: the next one, or the one handed in where the generator refuses
pub seed_gone_on : (seed next : ℕ) (r : Result (Unit {0}) Refusal) → (IsErr r → next ≡ seed) → result_unwrap_or (result_and r (Ok next)) seed ≡ (made_of next r).seed
seed_gone_on seed next (Ok done) left = refl
seed_gone_on seed next (Err refusal) left = sym (left refl)

-- the same by what the generator gives for as many events as have room and are left
module _ (state : State) (seed count made next n : ℕ) (buffer buffer' buffer'' : List ℕ) (r : Made) (w : well_formed state ≡ true)
    (room : length buffer' ≡ 3 * part_events) (h : made < count) (n_is : n ≡ min part_events (count - made))
    (given : (r ≡ make_events state next n buffer') × (buffer'' ≡ events_made state next n buffer')) where
  fits : 3 * n ≤ length buffer'
  fits = omega arith

  laid : buffer'' ≡ at_front (load state.counts n next) buffer'
  laid = given.1 ∙ (made_events state next n buffer' w fits).1

  pub made_room : length buffer'' ≡ 3 * part_events
  made_room = ap length laid ∙ front_length (load state.counts n next) buffer' (omega (arith, load_length state.counts n next)) ∙ room

  pub after_made : AfterParts state.counts seed count made next buffer buffer' → AfterParts state.counts seed count (made + n) r.seed buffer buffer''
  after_made a =
      let c : Counts = state.counts in
      let there : AfterParts c seed count (made + n) (seed_after n next) buffer (at_front (load c n next) buffer') =
      subst (λ (k : ℕ). AfterParts c seed count (made + k) (seed_after k next) buffer (at_front (load c k next) buffer')) (sym n_is)
      (after_part c seed count made next buffer buffer' a h) in
      record {
        parts = there.parts;
        made_is = there.made_is;
        next_is = ap (λ (m : Made). m.seed) (given.0 ∙ (made_events state next n buffer' w fits).0) ∙ there.next_is;
        buffer_is = laid ∙ there.buffer_is;
      }

joined_parts_lem : (c : Counts) (seed count k : ℕ) → joined k (part c seed count) ≡ load c (min (part_events * k) count) seed
unfolding joined part load
joined_parts_lem c seed count zero = let none : 0 ≡ min (part_events * 0) count = omega arith in ap (λ (n : ℕ). load c n seed) none
joined_parts_lem c seed count (suc k) = go (joined_parts_lem c seed count k) (dec_le (part_events * k) count)
  where
    n : ℕ
    n = min part_events (count - part_events * k)

    go : joined k (part c seed count) ≡ load c (min (part_events * k) count) seed → Dec (part_events * k ≤ count)
        → joined k (part c seed count) ++ load c n (seed_after (part_events * k) seed) ≡ load c (min (part_events * suc k) count) seed
    go before (yes h) =
        let here : min (part_events * k) count ≡ part_events * k = omega arith in
        let all : part_events * k + n ≡ min (part_events * suc k) count = omega arith in
        ap (λ (l : List ℕ). l ++ load c n (seed_after (part_events * k) seed)) (before ∙ ap (λ (m : ℕ). load c m seed) here)
        ∙ sym (load_join c (part_events * k) n seed)
        ∙ ap (λ (m : ℕ). load c m seed) all
    go before (no d) =
        let none : n ≡ 0 = omega (arith, d) in
        let all : min (part_events * k) count ≡ min (part_events * suc k) count = omega (arith, d) in
        ap₂ (λ (l : List ℕ) (m : ℕ). l ++ load c m (seed_after (part_events * k) seed)) before none
        ∙ append-nil (load c (min (part_events * k) count) seed)
        ∙ ap (λ (m : ℕ). load c m seed) all

-- the parts joined are so many events as were made
pub parts_are_load : (c : Counts) (seed count made next : ℕ) (buffer buffer' : List ℕ) (a : AfterParts c seed count made next buffer buffer')
    → joined a.parts (part c seed count) ≡ load c made seed
parts_are_load c seed count made next buffer buffer' a =
    joined_parts_lem c seed count a.parts ∙ ap (λ (n : ℕ). load c n seed) (sym a.made_is)
