-- How long a job's line and the page are, and what the page writer answers and leaves in each of its three cases.
-- Assumes nothing.
use Rattle.std.specs.Prelude.{◌≡◌, refl, Bool, true, false, List, [], ◌∷◌, ℕ, ◌*◌, ◌≤◌, ◌<◌, length, if◌then◌else◌}
use Rattle.std.proofs.Common.{sym, ◌∙◌, le_refl, arith}
use Rattle.std.proofs.Math.Path.{ap}
use borrow.Author.Tests.{lt-ltb, le-ltb}
use Rattle.basics.specs.Loops.{joined, sum, one_if, sum_same, sum_times, length-joined, least_top}
use Rattle.basics.specs.Replies.{refused, told}
use Rattle.ranks.specs.Ranks.{size}
use Rattle.ranks.specs.UnionLaws.{size_counts}
use Rattle.state.specs.declared.State.{State}
use Rattle.state.specs.State.{is_active, processor_of_job}
use Rattle.state.specs.WellFormed.{well_formed}
use Rattle.state.specs.Facts.{Sized, Facts}
use Rattle.state.specs.WellFormedFacts.{facts}
use Rattle.rule.specs.Granting.{named_holder_of, named_object_of}
use Rattle.inheritance.specs.Running.{inherited_from, inherited_rank}
use Rattle.decimals.specs.Laid.{at_front}
use Rattle.page.specs.Page.{page_line, page, page_refusal, write_page, page_written}
use Rattle.page.specs.LineLaws.{FitFields, line_length}

-- ---- lengths

module _ (s : State) (F : Facts s) where
  pub fields_fit : (r : ℕ) → 1 ≤ r → r ≤ s.counts.jobs → FitFields r (processor_of_job s r) (inherited_rank s r) (named_holder_of s r) (named_object_of s r)
  unfolding inherited_rank
  fields_fit r a b =
      let counts = F.counts in
      let inherited = least_top s.counts.jobs r (inherited_from s r) in
      record {
        rank_fits = omega arith;
        processor_fits_lem = omega (arith, F.processors r a b);
        inherited_fits = omega arith;
        holder_fits_lem = omega arith;
        object_fits = omega arith;
      }

  pub state_line_length : (r : ℕ) → 1 ≤ r → r ≤ s.counts.jobs → length (page_line s r) ≡ 21
  state_line_length r a b = line_length _ _ _ _ _ _ (fields_fit r a b)

  -- of the first n ranks
  pub lines_length : (n : ℕ) → n ≤ s.counts.jobs → length (joined n (λ r. if is_active s r then page_line s r else [])) ≡ 21 * sum n (λ r. one_if (is_active s r))
  lines_length n h =
      length-joined n (λ r. if is_active s r then page_line s r else [])
      ∙ sum_same n _ (λ r. 21 * one_if (is_active s r)) (λ r a b. each r (is_active s r) (state_line_length r a (omega arith)))
      ∙ sum_times n 21 (λ r. one_if (is_active s r))
    where
      each : (r : ℕ) (b : Bool) → length (page_line s r) ≡ 21 → length (if b then page_line s r else []) ≡ 21 * one_if b
      each r true e = e
      each r false e = refl

  pub page_length : length (page s) ≡ 21 * size s.active
  unfolding page
  page_length =
      lines_length s.counts.jobs (le_refl s.counts.jobs)
      ∙ ap (λ (n : ℕ). 21 * n) (sym (size_counts s.counts.jobs s.active F.active_jobs))

-- the same, by the test of the state
pub page_long : (s : State) (well : Bool) → (well ≡ well_formed s) × Sized s → well ≡ true → length (page s) ≡ 21 * size s.active
page_long s well tested w = page_length s (facts s tested.1 (sym tested.0 ∙ w))

-- ---- refused by 8, refused by 22, written

module _ (s : State) (buffer : List ℕ) where
  pub refused_by_8 : well_formed s ≡ false → (write_page s buffer ≡ refused 8) × (page_written s buffer ≡ buffer)
  unfolding write_page page_written page_refusal
  refused_by_8 e = (simp e, simp e)

  pub refused_by_22 : well_formed s ≡ true → length buffer < length (page s) → (write_page s buffer ≡ refused 22) × (page_written s buffer ≡ buffer)
  unfolding write_page page_written page_refusal
  refused_by_22 e h =
      let short = lt-ltb (length buffer) (length (page s)) h in
      (simp (e, short), simp (e, short))

  pub page_written_lem : well_formed s ≡ true → length (page s) ≤ length buffer
      → (write_page s buffer ≡ told (length (page s) ∷ [])) × (page_written s buffer ≡ at_front (page s) buffer)
  unfolding write_page page_written page_refusal
  page_written_lem e h =
      let long = le-ltb (length buffer) (length (page s)) h in
      (simp (e, long), simp (e, long))
