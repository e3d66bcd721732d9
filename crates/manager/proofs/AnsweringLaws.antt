-- A run over the events in some bytes, partway: the answers stored so far, and what is left.
-- Assumes nothing.
use Prim.Native.Nat.{ℕ, ◌+◌, ◌*◌, ◌≤◌, ◌<◌}
use mathlib.Core.Path.{◌≡◌, refl, sym, subst, ap, ap₂, ◌∙◌}
use mathlib.Core.Bool.{Bool}
use mathlib.Core.List.{List, [], ◌∷◌, ◌++◌, append_assoc, append-nil}
use native.Mathlib.Nat.{zero-add}
use native.Mathlib.Omega.{arith}
use lib.ListN.{length, set, take, drop, get_or, length-append, length-drop}
use lib.Seq.{sets, sets-eq, length-sets, length-take-le}
use Rattle.basics.specs.Threes.{drop_three}
use Rattle.basics.specs.Stores.{stored_more}
use Rattle.state.specs.declared.State.{State}
use Rattle.events.specs.declared.Outcome.{Outcome}
use Rattle.events.specs.Packing.{packed}
use Rattle.manager.specs.Step.{step}
use Rattle.manager.specs.Keeping.{Tested, tested_after}
use Rattle.manager.specs.EventList.{state_after, answers_to, event_count, whole_events}
use Rattle.manager.specs.EventList.{state_after_more, answers_to_more, state_after_none, answers_to_none, answers_to_length}

-- i events are answered, up to index `place`: the answers to them all are those stored so far and then those to what is left
pub record Answered (bytes : List ℕ) (well : Bool) (s₀ s : State) (list₀ list : List ℕ) (place i : ℕ) : Type 0 where
  pub tested : Tested well s
  pub events : place ≡ 3 * i
  pub inside : place ≤ length bytes
  pub text : List ℕ
  pub long : length text ≡ i
  pub stored : list ≡ sets list₀ 0 text
  pub answers : answers_to s₀ bytes ≡ text ++ answers_to s (drop place bytes)
  pub after : state_after s₀ bytes ≡ state_after s (drop place bytes)
  pub size : length list ≡ length list₀

pub answered_none : (bytes : List ℕ) (well : Bool) (s : State) (list : List ℕ) → Tested well s → Answered bytes well s s list list 0 0
answered_none bytes well s list T = record {
  tested = T;
  events = omega arith;
  inside = omega arith;
  text = [];
  long = refl;
  stored = refl;
  answers = refl;
  after = refl;
  size = refl;
}

-- a turn: one event more
module _ (bytes : List ℕ) (well : Bool) (s₀ s : State) (list₀ list : List ℕ) (place i : ℕ) (r : Answered bytes well s₀ s list₀ list place i) (h : place + 3 ≤ length bytes) where
  abbrev does : Outcome
  does = step s (get_or bytes place 0) (get_or bytes (place + 1) 0) (get_or bytes (place + 2) 0)

  pub answered_more : (s' : State) (v : ℕ) → s' ≡ does.state → v ≡ packed does.answer
      → Answered bytes well s₀ s' list₀ (set list i v) (place + 3) (i + 1)
  answered_more s' v state_is answer_is =
      let rest : List ℕ = drop (place + 3) bytes in
      let more = stored_more list₀ list r.text i v r.stored r.long in
      let q = r.events in
      record {
        tested =
            subst (Tested well) (sym state_is)
            (tested_after well s r.tested (get_or bytes place 0) (get_or bytes (place + 1) 0) (get_or bytes (place + 2) 0));
        events = omega arith;
        inside = h;
        text = r.text ++ (v ∷ []);
        long = omega (arith, length-append r.text (v ∷ []), r.long);
        stored = more;
        answers =
            r.answers
            ∙ ap (λ (l : List ℕ). r.text ++ answers_to s l) (drop_three bytes place h)
            ∙ ap (λ (l : List ℕ). r.text ++ l)
            (answers_to_more s (get_or bytes place 0) (get_or bytes (place + 1) 0) (get_or bytes (place + 2) 0) rest
            ∙ ap₂ (λ (n : ℕ) (t : State). n ∷ answers_to t rest) (sym answer_is) (sym state_is))
            ∙ sym (append_assoc r.text (v ∷ []) (answers_to s' rest));
        after =
            r.after ∙ ap (state_after s) (drop_three bytes place h)
            ∙ state_after_more s (get_or bytes place 0) (get_or bytes (place + 1) 0) (get_or bytes (place + 2) 0) rest ∙ ap (λ (t : State). state_after t rest) (sym state_is);
        size = ap length more ∙ length-sets list₀ 0 (r.text ++ (v ∷ []));
      }

-- fewer than three bytes are left: the answers to them all are stored
pub answered_all : (bytes : List ℕ) (well : Bool) (s₀ s : State) (list₀ list : List ℕ) (place i : ℕ) → Answered bytes well s₀ s list₀ list place i → length bytes < place + 3
    → (list ≡ sets list₀ 0 (answers_to s₀ bytes)) × (s ≡ state_after s₀ bytes)
answered_all bytes well s₀ s list₀ list place i r h =
    let few : length (drop place bytes) < 3 = omega (arith, r.inside, length-drop place bytes) in (
      r.stored ∙ sym (ap (sets list₀ 0) (r.answers ∙ ap (λ (l : List ℕ). r.text ++ l) (answers_to_none s (drop place bytes) few) ∙ append-nil r.text)),
      sym (r.after ∙ state_after_none s (drop place bytes) few),
    )

-- as many answers as there are whole events of both lists, stored at the front: the rest of the list stays behind them
pub front_stored : (s : State) (bytes list : List ℕ) (n : ℕ) → n ≡ event_count bytes list
    → sets list 0 (answers_to s (take (3 * n) bytes)) ≡ answers_to s (whole_events bytes list) ++ drop (event_count bytes list) list
front_stored s bytes list n e =
    let answers : List ℕ = answers_to s (take (3 * n) bytes) in
    let size : length (take (3 * n) bytes) ≡ 3 * n = length-take-le (3 * n) bytes (omega (arith, e)) in
    let long : length answers ≡ n = answers_to_length n s (take (3 * n) bytes) size in
    sets-eq answers list 0 (omega (arith, long, e))
    ∙ ap (λ (k : ℕ). answers ++ drop k list) (zero-add (length answers) ∙ long)
    ∙ ap (λ (k : ℕ). answers_to s (take (3 * k) bytes) ++ drop k list) e
