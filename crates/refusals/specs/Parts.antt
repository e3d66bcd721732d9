-- The chain of Refusals.antt over the parts of a state that the code sees: 14 and 26 together, and with 13 before the rest; for a request, with 15 to 17 by the
-- sets of its object, for one to certify, for a run's end, and for kinds 8 and 9.
-- Assumes nothing.
use Rattle.std.specs.Prelude.{◌≡◌, refl, ◌≢◌, List, Bool, true, false, not, ◌&&◌, ◌||◌, ℕ, ◌+◌, ◌-◌, ◌≤◌, ◌<◌, min, eqb}
use Rattle.std.proofs.Common.{sym, subst, ap, ◌∙◌, arith, eqb-true, eq-eqb, ne_eqb}
use Rattle.std.proofs.Math.Decide.{dec_le, ℕ_discrete}
use Rattle.std.proofs.lemmas.Bool.{eqb-false}
use Rattle.basics.specs.Choice.{◌if◌else◌, ◌or_else◌, clash, or_right, inside_between}
use Rattle.basics.specs.Arrays.{at}
use Rattle.basics.specs.Loops.{every, every-at, every_true, every_same}
use Rattle.ranks.specs.Ranks.{member, unions}
use Rattle.ranks.specs.UnionLaws.{member-unions}
use Rattle.state.specs.declared.State.{State}
use Rattle.state.specs.State.{read, write, certify, of_mode, is_rank, is_object, declared, holders, holds, marked, is_certified, is_active, is_waiting, is_sleeping}
use Rattle.refusals.specs.Refusals.{all_certified, event_refusal}

-- 14 and 26 of rank r, by the requests and the set of those that sleep, if its kind is for a job that neither waits nor sleeps
abbrev pub ready_refusal : Bool → List ℕ → ℕ → ℕ → ℕ
ready_refusal ready requests sleeping r =
    14 if ready && not (eqb (at requests r) 0) else
    26 if ready && member sleeping r else
    0

-- they stand in the chain before the rest
pub ready_first : (waits sleeps : Bool) (rest : ℕ) → ((14 if waits else 26 if sleeps else 0) or_else rest) ≡ (14 if waits else 26 if sleeps else rest)
ready_first true sleeps rest = refl
ready_first false true rest = refl
ready_first false false rest = refl

-- 13, 14 and 26 of rank r, before the rest
abbrev pub job_event_refusal : State → Bool → ℕ → ℕ → ℕ
job_event_refusal s ready r rest =
    13 if not (is_active s r) else
    14 if ready && is_waiting s r else
    26 if ready && is_sleeping s r else
    rest

-- 15 to 17 of rank r's request in mode m, by the set of those that have unlocked and the sets of the object
abbrev pub right_refusal : ℕ → ℕ → ℕ → ℕ → ℕ → ℕ → ℕ → ℕ
right_refusal m r unlocked may_read may_write readers writers =
    15 if member unlocked r else
    16 if not (member (of_mode m may_read may_write) r) else
    17 if member (of_mode m readers writers) r || member writers r else
    0

pub request_refusal : (s : State) (k r o : ℕ) → 2 ≤ k → k ≤ 3
    → event_refusal s k r o
    ≡ (10 if not (is_rank s r) else
    11 if not (is_object s o) else
    13 if not (is_active s r) else
    14 if is_waiting s r else
    26 if is_sleeping s r else
    right_refusal (k - 1) r s.unlocked (declared s read o) (declared s write o) (holders s read o) (holders s write o))
unfolding event_refusal
request_refusal s k r o low high =
    simp (
      inside_between 1 9 k (omega arith) (omega arith),
      inside_between 2 3 k low high,
      inside_between 2 5 k low (omega arith),
      ne_eqb k 1 (λ e. omega arith),
      ne_eqb k 4 (λ e. omega arith),
      ne_eqb k 5 (λ e. omega arith),
      ne_eqb k 7 (λ e. omega arith),
      ne_eqb k 9 (λ e. omega arith),
      ne_eqb (k - 1) certify (λ e. omega arith),
    )

-- 15 to 17 and 24 of rank r's request to certify, by the set of those that have unlocked, the sets of those that may write the object and write it, and whether
-- it is certified
abbrev pub certify_refusal : ℕ → ℕ → ℕ → ℕ → Bool → ℕ
certify_refusal r unlocked may_write writers certified =
    15 if member unlocked r else
    16 if not (member may_write r) else
    17 if member writers r && certified else
    24 if not (member writers r) else
    0

pub certify_refusal_lem : (s : State) (r o : ℕ)
    → event_refusal s 7 r o
    ≡ (9 if eqb s.counts.version 1 else
    10 if not (is_rank s r) else
    11 if not (is_object s o) else
    13 if not (is_active s r) else
    14 if is_waiting s r else
    26 if is_sleeping s r else
    certify_refusal r s.unlocked (declared s write o) (holders s write o) (is_certified s o))
unfolding event_refusal
certify_refusal_lem s r o = twice_not (eqb s.counts.version 1)
  where
    rest : ℕ
    rest =
        10 if not (is_rank s r) else
        11 if not (is_object s o) else
        13 if not (is_active s r) else
        14 if is_waiting s r else
        26 if is_sleeping s r else
        certify_refusal r s.unlocked (declared s write o) (holders s write o) (is_certified s o)

    twice_not : (b : Bool) → (9 if not (not b) else rest) ≡ (9 if b else rest)
    twice_not true = refl
    twice_not false = refl

-- behind 9, 10 and 11
pub certify_behind : (s : State) (r o : ℕ) → eqb s.counts.version 1 ≡ false → is_rank s r ≡ true → is_object s o ≡ true
    → event_refusal s 7 r o
    ≡ (13 if not (is_active s r) else 14 if is_waiting s r else 26 if is_sleeping s r else certify_refusal r s.unlocked (declared s write o) (holders s write o) (is_certified s o))
certify_behind s r o version rank object = certify_refusal_lem s r o ∙ behind (eqb s.counts.version 1) (is_rank s r) (is_object s o) _ version rank object
  where
    behind : (a b c : Bool) (rest : ℕ) → a ≡ false → b ≡ true → c ≡ true → (9 if a else 10 if not b else 11 if not c else rest) ≡ rest
    behind a b c rest p q w = simp (p, q, w)

-- object o is certified, if rank r writes it
abbrev pub written_well : List ℕ → List ℕ → ℕ → ℕ → Bool
written_well writers certified r o = not (member (at writers o) r) || marked certified o

-- of the objects behind the first i up to the last one is not certified
pub one_uncertified : (writers certified : List ℕ) (r i last n : ℕ) → last ≤ n
    → every (last - i) (λ k. written_well writers certified r (i + k)) ≡ false → every n (written_well writers certified r) ≡ false
one_uncertified writers certified r i last n h e = go (every n (written_well writers certified r)) refl
  where
    go : (b : Bool) → every n (written_well writers certified r) ≡ b → b ≡ false
    go false q = refl
    go true q =
        absurd (clash (every_true (last - i) (λ k. written_well writers certified r (i + k))
        (λ k a b. every-at n (written_well writers certified r) (i + k) q (omega arith) (omega arith))) e)

-- all of them are
pub eight_certified : (writers certified : List ℕ) (r i last : ℕ) → every (last - i) (λ k. written_well writers certified r (i + k)) ≡ true
    → (o : ℕ) → i < o → o ≤ last → written_well writers certified r o ≡ true
eight_certified writers certified r i last e o a b =
    let here : i + (o - i) ≡ o = omega arith in
    subst (λ (n : ℕ). written_well writers certified r n ≡ true) here
    (every-at (last - i) (λ k. written_well writers certified r (i + k)) (o - i) e (omega arith) (omega arith))

-- or r writes none of eight
pub eight_unwritten : (writers certified : List ℕ) (r i : ℕ) → member (unions 8 (λ k. at writers (i + k))) r ≡ false
    → (o : ℕ) → i < o → o ≤ i + 8 → written_well writers certified r o ≡ true
eight_unwritten writers certified r i e o a b =
    let here : i + (o - i) ≡ o = omega arith in
    let none : member (at writers o) r ≡ false =
    subst (λ (n : ℕ). member (at writers n) r ≡ false) here (member-unions 8 (λ k. at writers (i + k)) r (o - i) e (omega arith) (omega arith)) in
    ap (λ (t : Bool). not t || marked certified o) none

-- the first i of n objects are certified, and so are those behind them up to i + 8
pub eight_more : (writers certified : List ℕ) (r i n : ℕ)
    → ((o : ℕ) → 1 ≤ o → o ≤ i → o ≤ n → written_well writers certified r o ≡ true)
    → every (min (i + 8) n - i) (λ k. written_well writers certified r (i + k)) ≡ true
    → (o : ℕ) → 1 ≤ o → o ≤ i + 8 → o ≤ n → written_well writers certified r o ≡ true
eight_more writers certified r i n before eight o a b h = elim (dec_le o i) [
  | yes l ↦ before o a l h
  | no d ↦ eight_certified writers certified r i (min (i + 8) n) eight o (omega arith) (omega arith)
]

-- in version 2
all_certified_is : (s : State) (r : ℕ) → s.counts.version ≢ 1 → all_certified s r ≡ every s.counts.objects (written_well s.writers s.certified r)
unfolding all_certified
all_certified_is s r d =
    every_same s.counts.objects _ (written_well s.writers s.certified r)
    (λ o a b. ap (λ (t : Bool). not (holds s write r o) || (t || is_certified s o)) (ne_eqb s.counts.version 1 d))

-- in version 1
all_certified_first : (s : State) (r : ℕ) → s.counts.version ≡ 1 → all_certified s r ≡ true
unfolding all_certified
all_certified_first s r e =
    every_true s.counts.objects _
    (λ o a b. ap (λ (t : Bool). not (holds s write r o) || (t || is_certified s o)) (eq-eqb s.counts.version 1 e) ∙ or_right (not (holds s write r o)) true refl)

-- 25, by the test that the code makes first: it is none in version 1 and of another kind, and else goes by the objects
pub certify_first_none : (s : State) (k r : ℕ) → eqb s.counts.version 1 || not (eqb k 5) ≡ true → 0 ≡ (25 if eqb k 5 && not (all_certified s r) else 0)
certify_first_none s k r e = go (eqb s.counts.version 1) refl (eqb k 5) e
  where
    go : (a : Bool) → eqb s.counts.version 1 ≡ a → (b : Bool) → a || not b ≡ true → 0 ≡ (25 if b && not (all_certified s r) else 0)
    go a q false t = refl
    go true q true t = ap (λ (c : Bool). 25 if not c else 0) (sym (all_certified_first s r (eqb-true s.counts.version 1 q)))
    go false q true t = absurd (clash refl (sym t))

pub certify_first_some : (s : State) (k r : ℕ) → eqb s.counts.version 1 || not (eqb k 5) ≡ false
    → (25 if not (every s.counts.objects (written_well s.writers s.certified r)) else 0) ≡ (25 if eqb k 5 && not (all_certified s r) else 0)
certify_first_some s k r e = go (eqb s.counts.version 1) refl (eqb k 5) e
  where
    go : (a : Bool) → eqb s.counts.version 1 ≡ a → (b : Bool) → a || not b ≡ false
        → (25 if not (every s.counts.objects (written_well s.writers s.certified r)) else 0) ≡ (25 if b && not (all_certified s r) else 0)
    go true q b t = absurd (clash refl t)
    go false q false t = absurd (clash refl t)
    go false q true t = ap (λ (c : Bool). 25 if not c else 0) (sym (all_certified_is s r (eqb-false s.counts.version 1 q)))

-- what holds of two kinds, one behind the other, holds of each
either_kind : (P : ℕ → Type 0) (a k : ℕ) → a ≤ k → k ≤ a + 1 → P a → P (a + 1) → P k
either_kind P a k low high first second = elim (ℕ_discrete k a) [
  | yes e ↦ subst P (sym e) first
  | no d ↦ (let e : a + 1 ≡ k = omega arith in subst P e second)
]

-- of kind 5, a finish, or 6, an abandonment
abbrev finish_refusal : State → ℕ → ℕ → ℕ → ℕ
finish_refusal s k r o =
    10 if not (is_rank s r) else 11 if not (eqb o 0) else 13 if not (is_active s r) else 14 if eqb k 5 && is_waiting s r else
    26 if eqb k 5 && is_sleeping s r else 25 if eqb k 5 && not (all_certified s r) else 0

pub finish_refusal_lem : (s : State) (k r o : ℕ) → 5 ≤ k → k ≤ 6 → event_refusal s k r o ≡ finish_refusal s k r o
unfolding event_refusal
finish_refusal_lem s k r o low high = either_kind (λ (n : ℕ). event_refusal s n r o ≡ finish_refusal s n r o) 5 k low high refl refl

-- of kind 8, a job that falls asleep, or 9, one that is awakened
abbrev sleep_refusal : State → ℕ → ℕ → ℕ → ℕ
sleep_refusal s k r o =
    10 if not (is_rank s r) else 11 if not (eqb o 0) else 13 if not (is_active s r) else 14 if eqb k 8 && is_waiting s r else
    26 if eqb k 8 && is_sleeping s r else 27 if eqb k 9 && not (is_sleeping s r) else 0

pub sleep_refusal_lem : (s : State) (k r o : ℕ) → 8 ≤ k → k ≤ 9 → event_refusal s k r o ≡ sleep_refusal s k r o
unfolding event_refusal
sleep_refusal_lem s k r o low high = either_kind (λ (n : ℕ). event_refusal s n r o ≡ sleep_refusal s n r o) 8 k low high refl refl
