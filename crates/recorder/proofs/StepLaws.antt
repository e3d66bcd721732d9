-- Two steps over the bytes of a part, the second behind the first, are all that the bytes decide.
-- Assumes nothing.
use Prim.Native.Nat.{ℕ, suc, ◌+◌, ◌*◌, ◌/◌, ◌-◌, ◌≤◌}
use mathlib.Core.Path.{◌≡◌, sym, ap, ap₂, subst, ◌∙◌}
use mathlib.Core.List.{List, [], ◌++◌, append_assoc, append-nil}
use native.Mathlib.Omega.{arith}
use native.Mathlib.Nat.{zero-add}
use lib.ListN.{length, take, drop, length-drop, drop_of_length-le}
use lib.Seq.{take_all, sets, sets-eq, drop-drop}
use Rattle.decimals.specs.Laid.{Laid, laid_then, laid_is, laid_length}
use Rattle.stream.specs.declared.Bench.{Bench}
use Rattle.stream.specs.declared.Advanced.{Advanced}
use Rattle.stream.specs.Parts.{Advance, advance, feed, Advances}
use Rattle.stream.specs.Advancing.{advance_within, advance_count, advance_enough}
use Rattle.stream.specs.AnyParts.{feed_within}

-- ---- a text laid behind another

-- a text laid at the front of what stands behind an index
sets_behind : (b : List ℕ) (i : ℕ) (ys : List ℕ) → i + length ys ≤ length b → take i b ++ sets (drop i b) 0 ys ≡ sets b i ys
sets_behind b i ys h =
    ap (λ (l : List ℕ). take i b ++ l)
    (sets-eq ys (drop i b) 0 (omega (arith, length-drop i b)) ∙ ap (λ (k : ℕ). ys ++ drop k (drop i b)) (zero-add (length ys)) ∙ ap (λ (l : List ℕ). ys ++ l) (drop-drop (length ys) i b))
    ∙ sym (append_assoc (take i b) ys (drop (i + length ys) b))
    ∙ sym (sets-eq ys b i h)

laid_behind : {a b c d : List ℕ} {i j m n : ℕ} {xs ys : List ℕ} → Laid a b 0 i m xs → Laid (drop i b) d 0 j n ys → c ≡ take i b ++ d → i + j ≤ length b
    → Laid a c 0 (i + j) (m + n) (xs ++ ys)
laid_behind {a} {b} {c} {d} {i} {j} {m} {n} {xs} {ys} p q e h =
    let stops = q.stops in
    let within = q.within in
    laid_then p (record {
      stored = e ∙ ap (λ (l : List ℕ). take i b ++ l) q.stored ∙ sets_behind b i ys (omega arith);
      stops = omega arith;
      within = omega arith;
    })

-- all that stands from an index on
rest_all : (l : List ℕ) (i : ℕ) → take (length l - i) (drop i l) ≡ drop i l
rest_all l i = take_all (length l - i) (drop i l) (omega (arith, length-drop i l))

rest_none : (l : List ℕ) (i : ℕ) → drop (length l - i) (drop i l) ≡ []
rest_none l i = drop_of_length-le (drop i l) {i = length l - i} (omega (arith, length-drop i l))

pub length_rest : (l : List ℕ) (i : ℕ) → length (take (length l - i) (drop i l)) ≡ length l - i
length_rest l i = ap length (rest_all l i) ∙ length-drop i l

-- ---- one step

module _ (bench : Bench) (bytes : List ℕ) (most : ℕ) (r : Advanced) (a b : List ℕ) (p : Advances r (advance most bench bytes) 45 a b) where
  pub taken_within : r.used ≤ length bytes
  taken_within = omega (arith, p.used, advance_within most bench bytes)

  pub taken_room : r.laid ≤ 45 + 15 * r.used
  taken_room = omega (arith, p.used, p.laid.within)

  -- the lines of both steps fit where two lines and 15 bytes for each byte do
  pub taken_fits : 90 + 15 * length bytes ≤ length a → r.laid ≤ length b
  taken_fits h = omega (arith, taken_within, taken_room, laid_length p.laid)

  pub taken_count : r.bench.events + length (drop r.used bytes) ≤ bench.events + length bytes
  taken_count =
      subst (λ (x : Bench). x.events + length (drop r.used bytes) ≤ bench.events + length bytes) (sym p.bench)
      (subst (λ (n : ℕ). (advance most bench bytes).bench.events + length (drop n bytes) ≤ bench.events + length bytes) (sym p.used) (advance_count most bench bytes))

-- ---- two steps

module _ (bench : Bench) (bytes : List ℕ) (m n : ℕ) (first second : Advanced) (a b d : List ℕ)
    (p : Advances first (advance m bench bytes) 45 a b)
    (q : Advances second (advance n first.bench (take (length bytes - first.used) (drop first.used bytes))) 45 (take (length b - first.laid) (drop first.laid b)) d) where
  pub both_within : first.used + second.used ≤ length bytes
  both_within =
      omega (
        arith,
        taken_within bench bytes m first a b p,
        length_rest bytes first.used,
        taken_within first.bench (take (length bytes - first.used) (drop first.used bytes)) n second (take (length b - first.laid) (drop first.laid b)) d q,
      )

  pub both_room : first.laid + second.laid ≤ 90 + 15 * (first.used + second.used)
  both_room =
      omega (
        arith,
        taken_room bench bytes m first a b p,
        taken_room first.bench (take (length bytes - first.used) (drop first.used bytes)) n second (take (length b - first.laid) (drop first.laid b)) d q,
      )

  pub steps_taken : 1 ≤ m → length bytes / 3 ≤ m → 1 ≤ n → (length bytes - first.used) / 3 ≤ n → 90 + 15 * length bytes ≤ length b
      → Advances (record { bench = second.bench; used = first.used + second.used; laid = first.laid + second.laid }) (feed bench bytes) 90 a
      (take first.laid b ++ (d ++ drop (length b - first.laid) (drop first.laid b)))
  unfolding feed
  steps_taken some enough some' enough' room =
      let most : ℕ = suc (length bytes) in
      let one : Advance = advance most bench bytes in
      let two : Advance = advance most one.bench (drop one.used bytes) in
      let is : advance m bench bytes ≡ one = advance_enough m most bench bytes some (omega arith) enough (omega arith) in
      let used : first.used ≡ one.used = p.used ∙ ap (λ (t : Advance). t.used) is in
      let here : first.bench ≡ one.bench = p.bench ∙ ap (λ (t : Advance). t.bench) is in
      let is' : advance n first.bench (take (length bytes - first.used) (drop first.used bytes)) ≡ two =
      ap (advance n first.bench) (rest_all bytes first.used)
      ∙ advance_enough n most first.bench (drop first.used bytes) some' (omega arith) (omega (arith, length-drop first.used bytes)) (omega (arith, length-drop first.used bytes))
      ∙ ap₂ (λ (x : Bench) (k : ℕ). advance most x (drop k bytes)) here used in
      let used' : second.used ≡ two.used = q.used ∙ ap (λ (t : Advance). t.used) is' in
      let laid' = subst (λ (l : List ℕ). Laid l d 0 second.laid (45 + 15 * (advance n first.bench (take (length bytes - first.used) (drop first.used bytes))).used) (advance n first.bench (take (length bytes - first.used) (drop first.used bytes))).lines) (rest_all b first.laid) q.laid in
      record {
        bench = q.bench ∙ ap (λ (t : Advance). t.bench) is';
        used = ap₂ ◌+◌ used used';
        laid =
            laid_is (laid_behind p.laid laid' (ap (λ (l : List ℕ). take first.laid b ++ l) (ap (λ (l : List ℕ). d ++ l) (rest_none b first.laid) ∙ append-nil d))
            (omega (arith, both_within, both_room)))
            (ap₂ (λ (t u : Advance). t.lines ++ u.lines) is is') (omega (arith, p.used, q.used, used, used'));
      }

-- ---- a part

pub fed_within : (bench : Bench) (bytes : List ℕ) (r : Advanced) (a b : List ℕ) → Advances r (feed bench bytes) 90 a b → r.used ≤ length bytes
fed_within bench bytes r a b p = omega (arith, p.used, feed_within bench bytes)
