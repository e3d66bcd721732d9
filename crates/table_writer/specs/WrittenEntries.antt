-- The entries of a written table are read again: each fits, and the declared sets are those that were written.
-- The argument follows the writer, rank by rank and object by object: what is read up to an order is what was declared up to it.
-- Assumes nothing.
use Rattle.std.specs.Prelude.{◌≡◌, ◌⊎◌, Bool, true, false, ◌||◌, get_or, drop}
use Rattle.std.proofs.Math.Path.{refl, sym, ap}
use Rattle.std.proofs.Common.{subst, subst₂, ◌∙◌, inl, inr, le_refl, add-zero, add_assoc, eq-or-lt_of_le, le_of_suc-le-suc, length-append, get_or-drop, get_or-append-add, ext_get_or}
use mathlib.Core.List.{List, ◌∷◌, ◌++◌, append_assoc, append-nil}
use Prim.Native.Nat.{ℕ, zero, suc, ◌+◌, ◌*◌, ◌^◌, ◌≤◌, ◌<◌}
use Rattle.std.proofs.Math.Decide.{dec_lt, ℕ_discrete}
use Rattle.std.proofs.Math.Numerals.{add-one}
use native.Mathlib.Omega.{arith}
use Rattle.std.proofs.Math.ListN.{length}
use Rattle.basics.specs.Loops.{joined}
use Rattle.basics.specs.Arrays.{at, at-zeros}
use Rattle.ranks.specs.Ranks.{member}
use Rattle.ranks.specs.RankLaws.{member-zero, member_empty, same_members}
use Rattle.state.specs.State.{read, write, most_objects, zeros}
use Rattle.table_bytes.specs.Bytes.{byte, jobs_in, objects_in, entries_start, entry_rank, entry_object, entry_mode, order, order_before}
use Rattle.table_bytes.specs.AcceptedTable.{EntryFits}
use Rattle.table.specs.Reading.{gives_right, with_right, declared_in}
use Rattle.table_writer.specs.Writing.{entry_bytes}
use Rattle.table_writer.specs.Laying.{declared_modes, entries_of_rank, entries_of_ranks}
use Rattle.basics.specs.JoinedLaws.{joined_split}
use Rattle.table_writer.specs.EntryLaws.{entry_none, entry_some}
use Rattle.table_writer.specs.RightLaws.{mode_reads, mode_writes, mode_most, no_mode, right_made, right_kept, length_declared}

-- ---- sets of which the members up to an order have been read, and no others

ReadUpTo : List ℕ → List ℕ → ℕ → Type 0
ReadUpTo sets now next = (r o : ℕ) → 1 ≤ o → o ≤ most_objects
    → (order r o < next → member (at now o) r ≡ member (at sets o) r) × (next ≤ order r o → member (at now o) r ≡ false)

-- before the first entry
read_none : (sets : List ℕ) → ReadUpTo sets (zeros most_objects) (order 1 1)
unfolding ReadUpTo
read_none sets r o low high = (λ l. first r l, λ l. ap (λ (n : ℕ). member n r) (at-zeros most_objects o) ∙ member_empty r)
  where
    first : (r : ℕ) → order r o < order 1 1 → member (at (zeros most_objects) o) r ≡ member (at sets o) r
    first zero l = member-zero (at (zeros most_objects) o) ∙ sym (member-zero (at sets o))
    first (suc r) l = absurd (omega arith)

module _ (sets now : List ℕ) (q x : ℕ) (low : 1 ≤ x) (high : x ≤ most_objects) (sofar : ReadUpTo sets now (order q x)) where
  -- at the next order itself
  at_next : (sets now : List ℕ) → member (at now x) q ≡ member (at sets x) q → (r o : ℕ) → 1 ≤ o → o ≤ most_objects → order r o ≡ order q x
      → member (at now o) r ≡ member (at sets o) r
  at_next sets now e r o a b same =
      let rank : q ≡ r = omega arith in
      let object : x ≡ o = omega arith in
      subst₂ (λ (u v : ℕ). member (at now v) u ≡ member (at sets v) u) rank object e

  -- no entry there
  read_past : member (at sets x) q ≡ false → ReadUpTo sets now (order q x + 1)
  unfolding ReadUpTo
  read_past none r o a b = (λ l. go (eq-or-lt_of_le (le_of_suc-le-suc (rw add-one at l))), λ l. (sofar r o a b).1 (omega arith))
    where
      go : (order r o ≡ order q x) ⊎ (order r o < order q x) → member (at now o) r ≡ member (at sets o) r
      go (inl e) = at_next sets now ((sofar q x low high).1 (le_refl (order q x)) ∙ sym none) r o a b e
      go (inr l) = (sofar r o a b).0 l

  -- the entry there
  read_entry : (m mode : ℕ) → 1 ≤ q → length now ≡ most_objects → gives_right mode m ≡ member (at sets x) q → ReadUpTo sets (with_right m q x mode now) (order q x + 1)
  unfolding ReadUpTo
  read_entry m mode p long gives r o a b =
      (λ l. go (eq-or-lt_of_le (le_of_suc-le-suc (rw add-one at l))), λ l. other (λ z. omega arith) ∙ (sofar r o a b).1 (omega arith))
    where
      other : (order r o ≡ order q x → ⊥) → member (at (with_right m q x mode now) o) r ≡ member (at now o) r
      other d = right_kept m q x mode now low (omega arith) r o (λ z. d (omega (arith, z.0, z.1)))

      or_none : (t : Bool) → t || false ≡ t
      or_none true = refl
      or_none false = refl

      made : member (at (with_right m q x mode now) x) q ≡ member (at sets x) q
      made =
          right_made m q x mode now low (omega arith) p ∙ ap (λ (t : Bool). gives_right mode m || t) ((sofar q x low high).1 (le_refl (order q x)))
          ∙ or_none (gives_right mode m) ∙ gives

      go : (order r o ≡ order q x) ⊎ (order r o < order q x) → member (at (with_right m q x mode now) o) r ≡ member (at sets o) r
      go (inl e) = at_next sets (with_right m q x mode now) made r o a b e
      go (inr l) = other (λ z. omega arith) ∙ (sofar r o a b).0 l

-- a rank's last object: no set is declared for those above it
read_rank : (sets now : List ℕ) (q objects : ℕ) → objects ≤ most_objects → ((o : ℕ) → objects < o → o ≤ most_objects → at sets o ≡ 0)
    → ReadUpTo sets now (order q (suc objects)) → ReadUpTo sets now (order (suc q) 1)
unfolding ReadUpTo
read_rank sets now q objects small none sofar r o a b = (
  λ l. elim (dec_lt (order r o) (order q (suc objects))) [
    | yes h ↦ (sofar r o a b).0 h
    | no n ↦ (sofar r o a b).1 (omega arith) ∙ sym (ap (λ (v : ℕ). member v r) (none o (omega arith) b) ∙ member_empty r)
  ],
  λ l. (sofar r o a b).1 (omega arith),
)

-- all ranks
read_all : (sets now : List ℕ) (j : ℕ) → length sets ≡ most_objects → length now ≡ most_objects
    → ((o : ℕ) → 1 ≤ o → o ≤ most_objects → at sets o < 2 ^ j) → ((o : ℕ) → at now o < 2 ^ j) → ReadUpTo sets now (order (suc j) 1) → now ≡ sets
unfolding ReadUpTo
read_all sets now j long_sets long_now small_sets small_now sofar =
    ext_get_or 0 now sets (long_now ∙ sym long_sets)
    (λ i l. same_members j (get_or now i 0) (get_or sets i 0) (small_now (suc i)) (small_sets (suc i) (omega arith) (omega arith))
    (λ r a b. (sofar r (suc i) (omega arith) (omega arith)).0 (omega arith)))

-- ---- the entries of a written table, in bytes b with `rest` behind them

module _ (reads writes : List ℕ) (objects j : ℕ) (b rest : List ℕ) (small : objects ≤ most_objects) (is_j : jobs_in b ≡ j) (is_o : objects_in b ≡ objects)
    (tail : drop (entries_start b) b ≡ entries_of_ranks (declared_modes reads writes) objects j ++ rest) where
  abbrev modes : ℕ → ℕ → ℕ
  modes = declared_modes reads writes

  abbrev all : List ℕ
  all = entries_of_ranks modes objects j ++ rest

  -- the entry behind the entries of the list p
  module _ (p more : List ℕ) (c r o m : ℕ) (here : all ≡ p ++ (r ∷ o ∷ m ∷ more)) (long : length p ≡ 3 * c) where
    nth : (i : ℕ) → byte b (entries_start b + (3 * c + i)) ≡ get_or (r ∷ o ∷ m ∷ more) i 0
    nth i =
        sym (get_or-drop (entries_start b) b (3 * c + i) 0) ∙ ap (λ (l : List ℕ). get_or l (3 * c + i) 0) (tail ∙ here)
        ∙ ap (λ (n : ℕ). get_or (p ++ (r ∷ o ∷ m ∷ more)) (n + i) 0) (sym long) ∙ get_or-append-add p (r ∷ o ∷ m ∷ more) i 0

    rank_at : entry_rank b c ≡ r
    rank_at = ap (λ (n : ℕ). byte b (entries_start b + n)) (sym (add-zero (3 * c))) ∙ nth 0

    object_at : entry_object b c ≡ o
    object_at = ap (byte b) (add_assoc (entries_start b) (3 * c) 1) ∙ nth 1

    mode_at : entry_mode b c ≡ m
    mode_at = ap (byte b) (add_assoc (entries_start b) (3 * c) 2) ∙ nth 2

  -- what is known once the entries in the first `size` bytes are read: they fit, and they are those of an order before `next`
  record SoFar (size next : ℕ) : Type 0 where
    count : ℕ
    long : size ≡ 3 * count
    fits : (k : ℕ) → k < count → EntryFits b k
    before : order_before b count < next
    reads_are : ReadUpTo reads (declared_in read b count) next
    writes_are : ReadUpTo writes (declared_in write b count) next

  moved : {a a' n n' : ℕ} → SoFar a n → a ≡ a' → n ≡ n' → SoFar a' n'
  moved s e f = subst₂ SoFar e f s

  -- the entry of rank q for object x, where there is one
  module _ (q x : ℕ) (q_low : 1 ≤ q) (q_high : q ≤ j) (x_low : 1 ≤ x) (x_high : x ≤ objects)
      (p more : List ℕ) (here : all ≡ p ++ (entry_bytes q x (modes q x) ++ more)) (s : SoFar (length p) (order q x)) where
    abbrev Next : Type 0
    Next = SoFar (length (p ++ entry_bytes q x (modes q x))) (order q x + 1)

    x_most : x ≤ most_objects
    x_most = omega arith

    pass : modes q x ≡ 0 → Next
    pass z =
        let none = no_mode (member (at reads x) q) (member (at writes x) q) z in
        record {
          count = s.count;
          long = ap length (ap (λ (t : List ℕ). p ++ t) (entry_none q x (modes q x) z) ∙ append-nil p) ∙ s.long;
          fits = s.fits;
          before = omega (arith, s.before);
          reads_are = read_past reads (declared_in read b s.count) q x x_low x_most s.reads_are none.0;
          writes_are = read_past writes (declared_in write b s.count) q x x_low x_most s.writes_are none.1;
        }

    module _ (z : modes q x ≡ 0 → ⊥) where
      here_now : all ≡ p ++ (q ∷ x ∷ modes q x ∷ more)
      here_now = here ∙ ap (λ (t : List ℕ). p ++ (t ++ more)) (entry_some q x (modes q x) z)

      rank_is : entry_rank b s.count ≡ q
      rank_is = rank_at p more s.count q x (modes q x) here_now s.long

      object_is : entry_object b s.count ≡ x
      object_is = object_at p more s.count q x (modes q x) here_now s.long

      mode_is : entry_mode b s.count ≡ modes q x
      mode_is = mode_at p more s.count q x (modes q x) here_now s.long

      this_fits : EntryFits b s.count
      this_fits =
          let r = rank_is in
          let o = object_is in
          let m = mode_is in
          let most = mode_most (member (at reads x) q) (member (at writes x) q) in
          record {
            rank_low = omega arith;
            rank_high = omega arith;
            object_low = omega arith;
            object_high = omega arith;
            mode_low = omega arith;
            mode_high = omega arith;
            after = omega (arith, s.before);
          }

      declared_now : (m : ℕ) → with_right m q x (modes q x) (declared_in m b s.count) ≡ declared_in m b (suc s.count)
      unfolding declared_in
      declared_now m = λ i. with_right m (sym rank_is i) (sym object_is i) (sym mode_is i) (declared_in m b s.count)

      take_one : Next
      take_one =
          let l = ap length (entry_some q x (modes q x) z) in
          let n = length-append p (entry_bytes q x (modes q x)) in
          let r = rank_is in
          let o = object_is in
          record {
            count = suc s.count;
            long = omega (arith, s.long);
            fits = more_fit;
            before = omega arith;
            reads_are = ap_read reads (declared_now read)
                (read_entry reads (declared_in read b s.count) q x x_low x_most s.reads_are read (modes q x) q_low (length_declared read b s.count)
                (mode_reads (member (at reads x) q) (member (at writes x) q)));
            writes_are = ap_read writes (declared_now write)
                (read_entry writes (declared_in write b s.count) q x x_low x_most s.writes_are write (modes q x) q_low (length_declared write b s.count)
                (mode_writes (member (at reads x) q) (member (at writes x) q)));
          }
        where
          ap_read : (sets : List ℕ) {now new : List ℕ} → now ≡ new → ReadUpTo sets now (order q x + 1) → ReadUpTo sets new (order q x + 1)
          ap_read sets e h = subst (λ (l : List ℕ). ReadUpTo sets l (order q x + 1)) e h

          more_fit : (k : ℕ) → k < suc s.count → EntryFits b k
          more_fit k l = go (eq-or-lt_of_le (le_of_suc-le-suc l))
            where
              go : (k ≡ s.count) ⊎ (k < s.count) → EntryFits b k
              go (inl e) = subst (EntryFits b) (sym e) this_fits
              go (inr h) = s.fits k h

    step : Next
    step = elim (ℕ_discrete (modes q x) 0) [ yes z ↦ pass z | no z ↦ take_one z ]

  abbrev ranks : ℕ → List ℕ
  ranks q = entries_of_ranks modes objects q

  -- where the entry of rank q + 1 for object x + 1 stands
  place : (q x : ℕ) → q < j → x < objects
      → (more : List ℕ) × (all ≡ (ranks q ++ entries_of_rank modes (suc q) x) ++ (entry_bytes (suc q) (suc x) (modes (suc q) (suc x)) ++ more))
  unfolding entries_of_ranks entries_of_rank joined
  place q x hq hx =
      let a = joined_split (suc q) j (λ r. entries_of_rank modes r objects) hq in
      let o = joined_split (suc x) objects (λ o. entry_bytes (suc q) o (modes (suc q) o)) hx in
      (o.0 ++ a.0 ++ rest, ap (λ (t : List ℕ). t ++ rest) (a.1 ∙ ap (λ (t : List ℕ). ranks q ++ t ++ a.0) o.1) ∙ simp append_assoc)

  one_rank : (q x : ℕ) → q < j → x ≤ objects → SoFar (length (ranks q)) (order (suc q) 1)
      → SoFar (length (ranks q ++ entries_of_rank modes (suc q) x)) (order (suc q) (suc x))
  unfolding entries_of_rank joined
  one_rank q zero hq hx s = moved s (ap length (sym (append-nil (ranks q)))) refl
  one_rank q (suc x) hq hx s =
      let p = place q x hq hx in
      let entry = entry_bytes (suc q) (suc x) (modes (suc q) (suc x)) in
      let next : order (suc q) (suc x) + 1 ≡ order (suc q) (suc (suc x)) = omega arith in
      moved
      (step (suc q) (suc x) (omega arith) hq (omega arith) hx (ranks q ++ entries_of_rank modes (suc q) x) p.0 p.1 (one_rank q x hq (omega arith) s))
      (ap length (append_assoc (ranks q) (entries_of_rank modes (suc q) x) entry)) next

  module _ (reads_out : (o : ℕ) → objects < o → o ≤ most_objects → at reads o ≡ 0) (writes_out : (o : ℕ) → objects < o → o ≤ most_objects → at writes o ≡ 0) where
    rank_done : (q : ℕ) → q < j → SoFar (length (ranks q)) (order (suc q) 1) → SoFar (length (ranks (suc q))) (order (suc (suc q)) 1)
    unfolding entries_of_ranks joined
    rank_done q hq s =
        let d = one_rank q objects hq (le_refl objects) s in
        record {
          count = d.count;
          long = d.long;
          fits = d.fits;
          before = omega (arith, d.before);
          reads_are = read_rank reads (declared_in read b d.count) (suc q) objects small reads_out d.reads_are;
          writes_are = read_rank writes (declared_in write b d.count) (suc q) objects small writes_out d.writes_are;
        }

    all_ranks : (q : ℕ) → q ≤ j → SoFar (length (ranks q)) (order (suc q) 1)
    unfolding entries_of_ranks joined declared_in
    all_ranks zero l =
        record {
          count = 0;
          long = refl;
          fits = λ k h. absurd (omega arith);
          before = omega arith;
          reads_are = read_none reads;
          writes_are = read_none writes;
        }
    all_ranks (suc q) l = rank_done q l (all_ranks q (omega arith))

    module _ (n : ℕ) (is_n : 3 * n ≡ length (entries_of_ranks modes objects j)) where
      abbrev done : SoFar (length (ranks j)) (order (suc j) 1)
      done = all_ranks j (le_refl j)

      count_is : done.count ≡ n
      count_is = omega (arith, done.long)

      pub entries_fit : (k : ℕ) → k < n → EntryFits b k
      entries_fit k l = done.fits k (omega (arith, count_is))

      again : (m : ℕ) (sets : List ℕ) → length sets ≡ most_objects → ((o : ℕ) → 1 ≤ o → o ≤ most_objects → at sets o < 2 ^ j)
          → ((o : ℕ) → at (declared_in m b n) o < 2 ^ j) → ReadUpTo sets (declared_in m b done.count) (order (suc j) 1) → declared_in m b n ≡ sets
      again m sets long small_sets small_now are =
          read_all sets (declared_in m b n) j long (length_declared m b n) small_sets small_now
          (subst (λ (k : ℕ). ReadUpTo sets (declared_in m b k) (order (suc j) 1)) count_is are)

      pub reads_again : length reads ≡ most_objects → ((o : ℕ) → 1 ≤ o → o ≤ most_objects → at reads o < 2 ^ j) → ((o : ℕ) → at (declared_in read b n) o < 2 ^ j)
          → declared_in read b n ≡ reads
      reads_again long h now = again read reads long h now done.reads_are

      pub writes_again : length writes ≡ most_objects → ((o : ℕ) → 1 ≤ o → o ≤ most_objects → at writes o < 2 ^ j) → ((o : ℕ) → at (declared_in write b n) o < 2 ^ j)
          → declared_in write b n ≡ writes
      writes_again long h now = again write writes long h now done.writes_are
