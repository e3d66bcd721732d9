-- The most urgent holder and the order of the holders (02, CR 9): what is known of them by the locks alone, what a lock weighs beside its holder, whom a
-- grant makes the most urgent holder, and that giving locks up keeps the order.
-- Assumes nothing.
use Rattle.std.specs.Prelude.{◌≡◌, ◌≢◌, Bool, true, false, ◌||◌, List, [], ℕ, ◌^◌, ◌≤◌, ◌<◌, eqb, length, if◌then◌else◌}
use Rattle.std.proofs.Math.Path.{refl, sym, subst, ap}
use Rattle.std.proofs.Common.{◌∙◌, arith, pow_mono}
use Rattle.std.proofs.Math.Logic.{inl, inr}
use Rattle.std.proofs.Math.Decide.{ℕ_discrete}
use Rattle.basics.specs.Choice.{clash}
use Rattle.basics.specs.Arrays.{at, put, at-put_same, at-put_other, length-put, at-mapped, length-mapped}
use Rattle.ranks.specs.Ranks.{member, with, without, union, most_urgent, unions}
use Rattle.ranks.specs.RankLaws.{member-with_same, member-with_other, without-lt, no_member}
use Rattle.ranks.specs.UnionLaws.{union_left, union_right, union_either, union-lt, in_unions, unions_in, unions-lt, unions_both, first-union}
use Rattle.ranks.specs.FirstLaws.{most_urgent-member, most_urgent-least, most_urgent_is}
use Rattle.state.specs.declared.Counts.{Counts}
use Rattle.state.specs.declared.State.{State}
use Rattle.state.specs.State.{most_jobs, most_objects, mark_words, read, write, declared, holders, holds, all_holders, most_urgent_holder, is_certified, shares_with_none}
use Rattle.state.specs.State.{state_of, grant_readers, grant_writers, release_readers, release_sets, release, end_run}
use Rattle.state.specs.Weights.{weight, write_ceiling_of, absolute_ceiling_of}
use Rattle.state.specs.WeightLaws.{read_own, write_writer}
use Rattle.state.specs.Facts.{Sized, In, InOrder, Facts}
use Rattle.state.specs.WellFormed.{well_formed}
use Rattle.state.specs.Modes.{either_mode}
use Rattle.state.specs.Marks.{drop_kept, drop_gone, length-drop}
use Rattle.state.specs.WellFormedFacts.{facts, held_rank, held_object}
use Rattle.state.specs.Changes.{over_table, readers_after, readers_after_other, without_in, without_none}

-- a state with these counts, declarations, most urgent holder and locks, all else 0 or empty
abbrev pub held_state : Counts → List ℕ → List ℕ → ℕ → List ℕ → List ℕ → List ℕ → State
held_state counts may_read may_write holder readers writers certified = state_of counts [] may_read may_write 0 0 0 holder readers writers certified []

-- a state's part
abbrev pub held_of : State → State
held_of s = held_state s.counts s.may_read s.may_write s.holder s.readers s.writers s.certified

-- what is known of the locks and their most urgent holder, whatever the other parts of the state are
pub record HolderFacts (s : State) : Type 0 where
  pub readers : length s.readers ≡ most_objects
  pub writers : length s.writers ≡ most_objects
  pub certified : length s.certified ≡ mark_words
  pub carried : s.holder ≡ most_urgent_holder s.readers s.writers
  pub order : InOrder s
  pub right : (m r o : ℕ) → In (holders s m o) r → In (declared s m o) r
  pub rank : (m r o : ℕ) → In (holders s m o) r → (1 ≤ r) × (r ≤ most_jobs)
  pub object : (m r o : ℕ) → In (holders s m o) r → (1 ≤ o) × (o ≤ s.counts.objects)
  pub small : (m o : ℕ) → holders s m o < 2 ^ most_jobs
  pub few : s.counts.objects ≤ most_objects

pub holder_facts : (s : State) → Facts s → HolderFacts s
holder_facts s F = record {
  readers = F.sized.readers;
  writers = F.sized.writers;
  certified = F.sized.certified;
  carried = F.carried;
  order = F.order;
  right = λ m r o. (F.locks o).right m r;
  rank = λ m r o i. (let k = held_rank s F m r o i in (k.0, omega (arith, k.1, F.counts.jobs)));
  object = held_object s F;
  small = λ m o. omega (arith, (F.locks o).jobs m, pow_mono F.counts.jobs.1);
  few = F.counts.objects.1;
}

-- it is known of the part, and of any other state with this part
pub held_facts : (s : State) → HolderFacts s → HolderFacts (held_of s)
unfolding weight
held_facts s H = record {
  readers = H.readers;
  writers = H.writers;
  certified = H.certified;
  carried = H.carried;
  order = H.order;
  right = H.right;
  rank = H.rank;
  object = H.object;
  small = H.small;
  few = H.few;
}

pub well_held : (s : State) → Sized s → well_formed s ≡ true → HolderFacts (held_of s)
well_held s z w = held_facts s (holder_facts s (facts s z w))

-- ---- who holds a lock

module _ (s : State) (H : HolderFacts s) where
  pub all_small : all_holders s.readers s.writers < 2 ^ most_jobs
  unfolding all_holders
  all_small =
      unions-lt most_jobs most_objects (λ o. union (holders s read o) (holders s write o))
      (λ o a b. union-lt most_jobs (holders s read o) (holders s write o) (H.small read o) (H.small write o))

  pub holder_in : (m r o : ℕ) → In (holders s m o) r → In (all_holders s.readers s.writers) r
  unfolding all_holders
  holder_in m r o i =
      let at_object = H.object m r o i in
      in_unions most_objects (λ p. union (holders s read p) (holders s write p)) r o at_object.0 (omega (arith, at_object.1, H.few))
      (either_mode (λ f. In (f (holders s read o) (holders s write o)) r → In (union (holders s read o) (holders s write o)) r)
      (union_left (holders s read o) (holders s write o) r) (union_right (holders s read o) (holders s write o) r) m i)

  -- nobody holds an object behind the table's
  pub none_behind : (m o : ℕ) → s.counts.objects < o → holders s m o ≡ 0
  none_behind m o l = no_member most_jobs (holders s m o) (H.small m o) (λ r i. omega (arith, H.object m r o i))

  -- who is carried holds a lock
  pub carried_holds : s.holder ≢ 0 → (m : ℕ) × (o : ℕ) × In (holders s m o) s.holder
  unfolding all_holders
  carried_holds d =
      let r = s.holder in
      let among : In (all_holders s.readers s.writers) r =
      subst (In (all_holders s.readers s.writers)) (sym H.carried)
      (most_urgent-member (all_holders s.readers s.writers) all_small (λ e. d (H.carried ∙ e))) in
      let w = unions_in most_objects (λ o. union (holders s read o) (holders s write o)) r among in
      elim (union_either (holders s read w.0) (holders s write w.0) r w.3) [ inl i ↦ (read, w.0, i) | inr i ↦ (write, w.0, i) ]

  pub carried_small : s.holder ≤ most_jobs
  carried_small = elim (ℕ_discrete s.holder 0) [
    | yes e ↦ omega arith
    | no d ↦ (let w = carried_holds d in (H.rank w.0 s.holder w.1 w.2).1)
  ]

  -- no holder is more urgent, and where there is one, somebody is carried
  pub carried_first : (m r o : ℕ) → In (holders s m o) r → (1 ≤ s.holder) × (s.holder ≤ r)
  carried_first m r o i =
      let l = most_urgent-least (all_holders s.readers s.writers) r all_small (holder_in m r o i) in
      (omega (arith, H.carried, l.0), omega (arith, H.carried, l.1))

  -- (P) a lock weighs at least as urgent as its holder
  pub own_weight : (m r o : ℕ) → In (holders s m o) r → weight s m r o ≤ r
  unfolding weight
  own_weight m r o i =
      either_mode (λ f. In (f (declared s read o) (declared s write o)) r → f (weight s read r o) (weight s write r o) ≤ r)
      (λ j. read_own s r o) (λ j. write_writer s r r o j) m (H.right m r o i)

  -- every other holder's lock weighs less than the most urgent holder
  pub others_weigh : (m r o : ℕ) → In (holders s m o) r → r ≢ s.holder → s.holder < weight s m r o
  others_weigh m r o i d =
      let first = carried_first m r o i in
      let h = carried_holds (λ e. omega (arith, first.0)) in
      H.order s.holder h.0 h.1 r m o h.2 i (omega (arith, first.1))

-- ---- a grant

-- r is more urgent than the weight of every lock that another job holds
abbrev pub AboveOthers : State → ℕ → Type 0
AboveOthers s r = (x m o : ℕ) → r ≢ x → In (holders s m o) x → r < weight s m x o

-- an element of a list with one put in has x only if the element before had it, where that is so of the element put in
put_in : (xs : List ℕ) (k v p x : ℕ) → 1 ≤ k → k ≤ length xs → (In v x → In (at xs k) x) → In (at (put xs k v) p) x → In (at xs p) x
put_in xs k v p x low high kept i = elim (ℕ_discrete k p) [
  | yes e ↦ subst (λ q. In (at xs q) x) e (kept (ap (λ w. member w x) (sym (at-put_same xs k v low high)) ∙ subst (λ q. In (at (put xs k v) q) x) (sym e) i))
  | no d ↦ ap (λ w. member w x) (sym (at-put_other xs k v p d)) ∙ i
]

module _ (s : State) (H : HolderFacts s) (m r o : ℕ) (low : 1 ≤ r) (high : r ≤ most_jobs) (low_object : 1 ≤ o) (high_object : o ≤ most_objects) where
  abbrev readers' : List ℕ
  readers' = grant_readers m r o s.readers

  abbrev writers' : List ℕ
  writers' = grant_writers m r o s.writers

  -- who else holds a lock after the grant held it before
  grant_readers_in : (p x : ℕ) → r ≢ x → In (at readers' p) x → In (holders s read p) x
  grant_readers_in p x d =
      put_in s.readers o (readers_after m r (holders s read o)) p x low_object (omega (arith, H.readers))
      (λ i. sym (readers_after_other m r (holders s read o) x d) ∙ i)

  grant_writers_in : (p x : ℕ) → r ≢ x → In (at writers' p) x → In (holders s write p) x
  grant_writers_in p x d = go (eqb m read)
    where
      go : (b : Bool) → In (at (if b then s.writers else put s.writers o (with (at s.writers o) r)) p) x → In (holders s write p) x
      go true i = i
      go false i =
          put_in s.writers o (with (at s.writers o) r) p x low_object (omega (arith, H.writers))
          (λ j. sym (member-with_other (holders s write o) r x d) ∙ j) i

  -- r is a reader or a writer of o
  granted_in : In (union (at readers' o) (at writers' o)) r
  granted_in = go (eqb m read)
    where
      go : (b : Bool)
          → In (union (at (put s.readers o (if b then with (at s.readers o) r else without (at s.readers o) r)) o)
          (at (if b then s.writers else put s.writers o (with (at s.writers o) r)) o)) r
      go true =
          union_left _ _ r (ap (λ v. member v r) (at-put_same s.readers o (with (at s.readers o) r) low_object (omega (arith, H.readers)))
          ∙ member-with_same (at s.readers o) r low)
      go false =
          union_right (at (put s.readers o (without (at s.readers o) r)) o) _ r
          (ap (λ v. member v r) (at-put_same s.writers o (with (at s.writers o) r) low_object (omega (arith, H.writers)))
          ∙ member-with_same (at s.writers o) r low)

  -- who passes every lock of others is the most urgent holder once it has its own
  pub granted_holder : AboveOthers s r → most_urgent_holder readers' writers' ≡ r
  unfolding all_holders
  granted_holder above =
      most_urgent_is (unions most_objects (λ p. union (at readers' p) (at writers' p))) r high
      (in_unions most_objects (λ p. union (at readers' p) (at writers' p)) r o low_object high_object granted_in) first
    where
      behind : (n x p : ℕ) → r ≢ x → In (holders s n p) x → r ≤ x
      behind n x p d i = omega (arith, above x n p d i, own_weight s H n x p i)

      first : (x : ℕ) → In (unions most_objects (λ p. union (at readers' p) (at writers' p))) x → r ≤ x
      first x i = elim (ℕ_discrete r x) [
        | yes e ↦ omega arith
        | no d ↦
            let w = unions_in most_objects (λ p. union (at readers' p) (at writers' p)) x i in
            elim (union_either (at readers' w.0) (at writers' w.0) x w.3) [
              | inl j ↦ behind read x w.0 d (grant_readers_in w.0 x d j)
              | inr j ↦ behind write x w.0 d (grant_writers_in w.0 x d j)
            ]
      ]

-- ---- locks given up

-- where locks of t are locks of s and weigh no more, what is known of s is known of t
fewer_held : (s t : State) → HolderFacts s → length t.readers ≡ most_objects → length t.writers ≡ most_objects → length t.certified ≡ mark_words
    → t.holder ≡ most_urgent_holder t.readers t.writers → ((m o : ℕ) → holders t m o < 2 ^ most_jobs)
    → ((m r o : ℕ) → In (holders t m o) r → In (holders s m o) r) → ((m r o : ℕ) → In (holders t m o) r → weight s m r o ≤ weight (over_table s t) m r o)
    → HolderFacts (over_table s t)
fewer_held s t H long_readers long_writers long_certified carried small fewer lighter = record {
  readers = long_readers;
  writers = long_writers;
  certified = long_certified;
  carried = carried;
  order = λ a n p b m o i j l. omega (arith, H.order a n p b m o (fewer n a p i) (fewer m b o j) l, lighter m b o j);
  right = λ m r o i. H.right m r o (fewer m r o i);
  rank = λ m r o i. H.rank m r o (fewer m r o i);
  object = λ m r o i. H.object m r o (fewer m r o i);
  small = small;
  few = H.few;
}

-- a lock weighs no more where fewer objects are certified
fewer_marks : (s t : State) (m r o : ℕ) → (is_certified t o ≡ true → is_certified s o ≡ true) → weight s m r o ≤ weight (over_table s t) m r o
unfolding weight
fewer_marks s t m r o fewer =
    either_mode (λ f. f (weight s read r o) (weight s write r o) ≤ f (weight (over_table s t) read r o) (weight (over_table s t) write r o))
    (omega arith) (go (is_certified t o) refl) m
  where
    heavier : (none : Bool) → (if none then absolute_ceiling_of s o else write_ceiling_of s o) ≤ write_ceiling_of s o
    heavier true = omega (arith, first-union most_jobs (declared s read o) (declared s write o))
    heavier false = omega arith

    go : (b : Bool) → is_certified t o ≡ b
        → (if shares_with_none s o then absolute_ceiling_of s o else write_ceiling_of s o) ≤ (if eqb s.counts.version 1 || b then absolute_ceiling_of s o else write_ceiling_of s o)
    go true e = simp (fewer e) (omega arith)
    go false e = version (eqb s.counts.version 1) refl
      where
        version : (v : Bool) → eqb s.counts.version 1 ≡ v
            → (if v || is_certified s o then absolute_ceiling_of s o else write_ceiling_of s o) ≤ (if v || false then absolute_ceiling_of s o else write_ceiling_of s o)
        version true q = omega arith
        version false q = heavier (is_certified s o)

module _ (s : State) (H : HolderFacts s) (r : ℕ) where
  pub release_fewer : (o : ℕ) → 1 ≤ o → o ≤ most_objects → (m x p : ℕ) → In (holders (release s r o) m p) x → In (holders s m p) x
  unfolding release
  release_fewer o low high m x p =
      either_mode (λ f. In (f (at (release_readers r o s.readers) p) (at s.writers p)) x → In (f (at s.readers p) (at s.writers p)) x)
      (put_in s.readers o (without (at s.readers o) r) p x low (omega (arith, H.readers)) (λ i. (without_in (at s.readers o) r x i).0)) (λ i. i) m

  pub release_holders : (o : ℕ) → 1 ≤ o → o ≤ most_objects → HolderFacts (release s r o)
  unfolding release
  release_holders o low high =
      fewer_held s (release s r o) H (length-put s.readers o (without (at s.readers o) r) ∙ H.readers) H.writers H.certified refl
      small (release_fewer o low high) (λ m x p i. fewer_marks s (release s r o) m x p (λ e. e))
    where
      small_readers : (p : ℕ) → at (release_readers r o s.readers) p < 2 ^ most_jobs
      small_readers p = elim (ℕ_discrete o p) [
        | yes e ↦ subst (λ q. at (release_readers r o s.readers) q < 2 ^ most_jobs) e
            (subst (λ v. v < 2 ^ most_jobs) (sym (at-put_same s.readers o (without (at s.readers o) r) low (omega (arith, H.readers))))
            (without-lt most_jobs (at s.readers o) r (H.small read o)))
        | no d ↦ subst (λ v. v < 2 ^ most_jobs) (sym (at-put_other s.readers o (without (at s.readers o) r) p d)) (H.small read p)
      ]

      small : (m p : ℕ) → holders (release s r o) m p < 2 ^ most_jobs
      small m p =
          either_mode (λ f. f (at (release_readers r o s.readers) p) (at s.writers p) < 2 ^ most_jobs) (small_readers p) (H.small write p) m

  pub end_run_holders : HolderFacts (end_run s r)
  unfolding end_run
  end_run_holders =
      fewer_held s (end_run s r) H (length-mapped (λ v. without v r) most_objects s.readers ∙ H.readers)
      (length-mapped (λ v. without v r) most_objects s.writers ∙ H.writers) (length-drop r s.writers s.certified) refl
      (λ m o. subst (λ v. v < 2 ^ most_jobs) (sym (left m o)) (without-lt most_jobs (holders s m o) r (H.small m o))) fewer
      (λ m x o i. fewer_marks s (end_run s r) m x o (marks o (H.object m x o (fewer m x o i)) (holds s write r o) refl))
    where
      left : (m o : ℕ) → holders (end_run s r) m o ≡ without (holders s m o) r
      left m o =
          either_mode (λ f. f (at (release_sets r s.readers) o) (at (release_sets r s.writers) o) ≡ without (f (at s.readers o) (at s.writers o)) r)
          (at-mapped (λ v. without v r) most_objects s.readers o (without_none r) H.readers)
          (at-mapped (λ v. without v r) most_objects s.writers o (without_none r) H.writers) m

      fewer : (m x o : ℕ) → In (holders (end_run s r) m o) x → In (holders s m o) x
      fewer m x o i = (without_in (holders s m o) r x (ap (λ v. member v x) (sym (left m o)) ∙ i)).0

      marks : (o : ℕ) → (1 ≤ o) × (o ≤ s.counts.objects) → (b : Bool) → holds s write r o ≡ b → is_certified (end_run s r) o ≡ true → is_certified s o ≡ true
      marks o object true h e = absurd (clash e (drop_gone r s.writers s.certified o object.0 (omega (arith, object.1, H.few)) h))
      marks o object false h e = sym (drop_kept r s.writers s.certified H.certified o h) ∙ e

-- ---- the next most urgent holder

module _ (s : State) (H : HolderFacts s) (r : ℕ) where
  -- at the end of a run it is the most urgent of the ranks that are left in the sets
  pub end_run_holder : most_urgent (union (unions most_objects (λ o. without (at s.readers o) r)) (unions most_objects (λ o. without (at s.writers o) r)))
      ≡ most_urgent_holder (release_sets r s.readers) (release_sets r s.writers)
  unfolding all_holders
  end_run_holder =
      ap most_urgent (unions_both most_objects (λ o. without (at s.readers o) r) (λ o. without (at s.writers o) r)
      ∙ sym (λ i. unions most_objects (λ o. union
      (at-mapped (λ v. without v r) most_objects s.readers o (without_none r) H.readers i)
      (at-mapped (λ v. without v r) most_objects s.writers o (without_none r) H.writers i))))
