-- The laws of a load: an object by how many an event carries, how long a load is, m events and n behind them, an event by its index; and what the generator
-- answers, by the refusal.
-- Assumes nothing.
use Rattle.std.specs.Prelude.{◌≡◌, ℕ, zero, suc, ◌+◌, ◌-◌, ◌*◌, ◌%◌, ◌<◌, ◌≤◌, Bool, true, false, not, List, ◌++◌, length, refl, if◌then◌else◌}
use Rattle.std.proofs.Common.{sym, ap, ap₂, ◌∙◌, append-nil, append_assoc, add-zero, add-suc, zero-mul, one-mul, arith, length-append}
use Rattle.std.proofs.Math.Nat.{zero-mod}
use borrow.Author.Tests.{lt-ltb, le-ltb}
use Rattle.basics.specs.Loops.{one_if}
use Rattle.state.specs.declared.Counts.{Counts}
use Rattle.state.specs.declared.State.{State}
use Rattle.state.specs.WellFormed.{well_formed}
use Rattle.decimals.specs.Laid.{at_front}
use Rattle.generator.specs.Load.{step, event_from, seed_after, load, load_refusal, make_events, events_made}

-- ---- an object, by how many an event carries

pub carried_most : (b : Bool) → one_if b ≤ 1
carried_most true = omega arith
carried_most false = omega arith

pub carried_times : (b : Bool) (n : ℕ) → one_if b * n ≤ n
carried_times true n = omega (arith, one-mul n)
carried_times false n = omega (arith, zero-mul n)

pub object_by : (none : Bool) (objects third : ℕ) → one_if (not none) + one_if (not none) * third % objects ≡ (if none then 0 else 1 + third % objects)
object_by true objects third = ap (λ (n : ℕ). 0 + n % objects) (zero-mul third) ∙ ap (λ (n : ℕ). 0 + n) (zero-mod objects)
object_by false objects third = ap (λ (n : ℕ). 1 + n % objects) (one-mul third)

-- ---- how long it is

event_length : (c : Counts) (s : ℕ) → length (event_from c s) ≡ 3
unfolding event_from
event_length c s = refl

pub load_length : (c : Counts) (n s : ℕ) → length (load c n s) ≡ 3 * n
unfolding load
load_length c zero s = refl
load_length c (suc n) s =
    omega (arith, length-append (load c n s) (event_from c (seed_after n s)), load_length c n s, event_length c (seed_after n s))

-- ---- one event more

pub seed_more : (n s : ℕ) → seed_after (n + 1) s ≡ step (step (step (seed_after n s)))
unfolding seed_after
seed_more n s = let one : n + 1 ≡ suc n = omega arith in ap (λ (k : ℕ). seed_after k s) one

pub load_more : (c : Counts) (n s : ℕ) → load c (n + 1) s ≡ load c n s ++ event_from c (seed_after n s)
unfolding load
load_more c n s = let one : n + 1 ≡ suc n = omega arith in ap (λ (k : ℕ). load c k s) one

-- ---- m events, and n behind them from the seed left over

pub seed_join : (m n s : ℕ) → seed_after (m + n) s ≡ seed_after n (seed_after m s)
unfolding seed_after
seed_join m zero s = ap (λ (k : ℕ). seed_after k s) (add-zero m)
seed_join m (suc n) s = ap (λ (k : ℕ). seed_after k s) (add-suc m n) ∙ ap (λ (t : ℕ). step (step (step t))) (seed_join m n s)

pub load_join : (c : Counts) (m n s : ℕ) → load c (m + n) s ≡ load c m s ++ load c n (seed_after m s)
unfolding load
load_join c m zero s = ap (λ (k : ℕ). load c k s) (add-zero m) ∙ sym (append-nil (load c m s))
load_join c m (suc n) s =
    ap (λ (k : ℕ). load c k s) (add-suc m n)
    ∙ ap₂ (λ (l : List ℕ) (t : ℕ). l ++ event_from c t) (load_join c m n s) (seed_join m n s)
    ∙ append_assoc (load c m s) (load c n (seed_after m s)) (event_from c (seed_after n (seed_after m s)))

-- ---- event i of n: what is before it, itself, and what is behind it

pub load_at : (c : Counts) (n s i : ℕ) → i < n
    → load c n s ≡ load c i s ++ (event_from c (seed_after i s) ++ load c (n - (i + 1)) (seed_after (i + 1) s))
load_at c n s i h =
    let all : n ≡ i + 1 + (n - (i + 1)) = omega arith in
    let behind : List ℕ = load c (n - (i + 1)) (seed_after (i + 1) s) in
    ap (λ (k : ℕ). load c k s) all
    ∙ load_join c (i + 1) (n - (i + 1)) s
    ∙ ap (λ (l : List ℕ). l ++ behind) (load_more c i s)
    ∙ append_assoc (load c i s) (event_from c (seed_after i s)) behind

-- ---- the generator, by its refusal: what it answers, and the buffer

module _ (s : State) (seed count : ℕ) (buffer : List ℕ) where
  pub refused_by_8 : well_formed s ≡ false
      → (make_events s seed count buffer ≡ record { refusal = 8; seed = seed }) × (events_made s seed count buffer ≡ buffer)
  unfolding load_refusal make_events events_made
  refused_by_8 w = (simp w, simp w)

  pub refused_by_23 : well_formed s ≡ true → length buffer < 3 * count
      → (make_events s seed count buffer ≡ record { refusal = 23; seed = seed }) × (events_made s seed count buffer ≡ buffer)
  unfolding load_refusal make_events events_made
  refused_by_23 w h = let short = lt-ltb (length buffer) (3 * count) h in (simp (w, short), simp (w, short))

  pub made : well_formed s ≡ true → 3 * count ≤ length buffer
      → (make_events s seed count buffer ≡ record { refusal = 0; seed = seed_after count seed })
      × (events_made s seed count buffer ≡ at_front (load s.counts count seed) buffer)
  unfolding load_refusal make_events events_made
  made w h = let fits = le-ltb (length buffer) (3 * count) h in (simp (w, fits), simp (w, fits))
