-- What the test of a waiting job comes to, once the mode and the object of its request are known to be in range.
-- Then that the test, made with the sleepers among those that have unlocked, says that waiting jobs are awake too.
-- Assumes nothing.
use mathlib.Core.Path.{◌≡◌, sym, ap, ◌∙◌}
use mathlib.Core.Logic.{◌≢◌}
use mathlib.Core.Bool.{Bool, true, not, ◌&&◌, ◌||◌}
use Prim.Native.Nat.{ℕ, ◌+◌, ◌-◌, ◌≤◌}
use native.Mathlib.Omega.{arith}
use lib.ListN.{get_or}
use lib.Dec.{eqb}
use borrow.Author.Tests.{eqb-true, eq-eqb, ne_eqb}
use Rattle.basics.specs.Choice.{between}
use Rattle.basics.specs.Arrays.{at_index, at_next}
use Rattle.basics.specs.Loops.{every, every-at, every_true, every_same, every-and}
use Rattle.state.specs.declared.State.{State}
use Rattle.ranks.specs.Ranks.{union}
use Rattle.ranks.specs.UnionLaws.{member_union}
use Rattle.state.specs.State.{most_jobs, strongest, is_certified, is_object, is_active, has_unlocked}
use Rattle.state.specs.State.{request_of, mode_of_request, object_of_request}
use Rattle.state.specs.WellFormed.{may_await, wait_fits, waits_fit, waits_awake}
use Rattle.well_formed.specs.Survey.{may_ask, with_marked}

-- ---- a waiting job

-- the object's sets are those at its index
pub may_await_is : (s : State) (m r o : ℕ) → 1 ≤ o → between 1 (strongest s.counts.version) m && is_object s o ≡ true
    → is_active s r && not (has_unlocked s r) && may_ask m r (get_or s.may_read (o - 1) 0) (get_or s.may_write (o - 1) 0) (get_or s.readers (o - 1) 0) (get_or s.writers (o - 1) 0) (is_certified s o)
    ≡ may_await s m r o
may_await_is s m r o h e =
    rw (at_index s.may_read o h, at_index s.may_write o h, at_index s.readers o h, at_index s.writers o h) (grind arith)

pub wait_none : (s : State) (r : ℕ) → request_of s r ≡ 0 → wait_fits s r ≡ true
wait_none s r e = simp (eq-eqb (request_of s r) 0 e)

-- the job whose request stands at index i
pub wait_asks : (s : State) (i : ℕ) → let asked = get_or s.request i 0 in
    asked ≢ 0 → may_await s (mode_of_request asked) (i + 1) (object_of_request asked) ≡ wait_fits s (i + 1)
wait_asks s i d =
    let asks : ℕ → Bool = λ asked. may_await s (mode_of_request asked) (i + 1) (object_of_request asked) in
    let asked = get_or s.request i 0 in
    ap (λ (b : Bool). not (not b) || asks asked) (sym (ne_eqb asked 0 d)) ∙ ap (λ (q : ℕ). not (not (eqb q 0)) || asks q) (sym (at_next s.request i))

-- none of so many jobs, from an index on, waits
pub none_wait : (s : State) (n from : ℕ) → every n (λ j. eqb (request_of s (from + j)) 0) ≡ true → every n (λ j. wait_fits s (from + j)) ≡ true
none_wait s n from e =
    every_true n (λ j. wait_fits s (from + j)) (λ j a b.
    wait_none s (from + j) (eqb-true (request_of s (from + j)) 0 (every-at n (λ j. eqb (request_of s (from + j)) 0) j e a b)))

-- ---- those that have unlocked and those that sleep, together: a waiting job is none of them

abbrev pub marks_joined : State → State
marks_joined s = with_marked s (union s.unlocked s.sleeping)

pub waits_joined : (s : State) → waits_fit (marks_joined s) ≡ waits_fit s && every most_jobs (waits_awake s)
unfolding waits_fit
waits_joined s =
    every_same most_jobs (wait_fits (marks_joined s)) (λ r. wait_fits s r && waits_awake s r) (λ r a b. grind (arith, member_union s.unlocked s.sleeping r))
    ∙ every-and most_jobs (wait_fits s) (waits_awake s)
