-- What stands on the page of a well-formed state, said of the questions' own answers (02, CR 2 and CR 8: the sentences in quotes). First the terms, then the
-- theorems `line_shown`, `waiting_letter`, `sleeping_letter` and `one_runs`.
-- Assumes nothing.
use Rattle.std.specs.Prelude.{◌≡◌, refl, Bool, true, false, ◌&&◌, eqb, get_or, if◌then◌else◌}
use Rattle.std.proofs.Common.{sym, ap, ap₂, ◌∙◌, add-zero, arith}
use Rattle.std.proofs.Math.Path.{subst}
use mathlib.Core.List.{List, [], ◌∷◌, ◌++◌, append_assoc}
use Prim.Native.Nat.{ℕ, zero, suc, ◌-◌, ◌*◌, ◌≤◌, ◌<◌}
use borrow.Author.Tests.{eq-eqb, ne_eqb, lt-ltb}
use Rattle.basics.specs.Choice.{inside_between}
use Rattle.basics.specs.Loops.{joined, sum, one_if, sum_same}
use Rattle.basics.specs.JoinedLaws.{joined_split}
use Rattle.basics.specs.Replies.{told}
use Rattle.state.specs.declared.State.{State}
use Rattle.state.specs.State.{most_jobs, processor_of_job, is_active, is_waiting, is_sleeping, request_of}
use Rattle.state.specs.WellFormed.{well_formed}
use Rattle.state.specs.Facts.{Sized, Facts}
use Rattle.state.specs.WellFormedFacts.{facts, active_rank, sleeper_free}
use Rattle.refusals.specs.Refusals.{job_refusal, processor_refusal}
use Rattle.rule.specs.Granting.{named_holder_of, named_object_of}
use Rattle.inheritance.specs.Running.{inherited_rank, running_rank}
use Rattle.inheritance.specs.RunningLaws.{running_ready}
use Rattle.questions.specs.Answers.{rank_reply, named_reply}
use Rattle.questions.specs.Questions.{ask_inherited_rank, ask_named_lock, ask_running}
use Rattle.decimals.specs.Decimal.{decimal}
use Rattle.decimals.specs.Fields.{right_aligned}
use Rattle.page.specs.Page.{letter_of, state_letter, named_field, page_line, page}
use Rattle.page.specs.LineLaws.{column, column_front, column_behind, rank_column, processor_column, letter_column, inherited_column, holder_column, object_column}
use Rattle.page.specs.PageLaws.{fields_fit, lines_length, state_line_length}
use Rattle.page.specs.LetterLaws.{letter_W, letter_Z, letter_R, never_zero, once}

-- ---- the terms

-- how many active jobs are more urgent than r
abbrev pub lines_above : State → ℕ → ℕ
lines_above s r = sum (r - 1) (λ q. one_if (is_active s q))

-- the line of an active job r: its 21 bytes on the page
abbrev pub line_on_page : State → ℕ → List ℕ
line_on_page s r = column (page s) (21 * lines_above s r) 21

-- what the single questions answer for rank r and its processor, and what a line shows of it
pub record Shown (s : State) (r : ℕ) (text : List ℕ) : Type 0 where
  pub runs : ℕ
  pub inherited : ℕ
  pub holder : ℕ
  pub object : ℕ
  pub running_answer : rank_reply (ask_running s (processor_of_job s r)) ≡ told (runs ∷ [])
  pub inherited_answer : rank_reply (ask_inherited_rank s r) ≡ told (inherited ∷ [])
  pub named_answer : named_reply (ask_named_lock s r) ≡ told (holder ∷ object ∷ [])
  -- "rank in 3, processor in 2, state letter in 1"; "The processor is the table's, R goes to the rank its question gives"
  pub rank : column text 0 3 ≡ right_aligned 3 (decimal r)
  pub processor : column text 4 2 ≡ right_aligned 2 (decimal (processor_of_job s r))
  pub letter : column text 7 1 ≡ letter_of runs (is_waiting s r) (is_sleeping s r) r ∷ []
  -- "the last three fields equal what the single questions answer", blank where the job names nobody
  pub inherited_rank_lem : column text 9 3 ≡ right_aligned 3 (decimal inherited)
  pub named_rank : column text 13 3 ≡ right_aligned 3 (named_field holder holder)
  pub named_object : column text 17 3 ≡ right_aligned 3 (named_field holder object)

-- the letter of an active job's line
abbrev pub letter_on_page : State → ℕ → ℕ
letter_on_page s r = get_or (column (line_on_page s r) 7 1) 0 0

-- how many lines of processor p have the letter R
abbrev pub running_lines : State → ℕ → ℕ
running_lines s p = sum s.counts.jobs (λ r. one_if (is_active s r && eqb (processor_of_job s r) p && eqb (letter_on_page s r) 82))

-- ---- a job's line on the page

module _ (s : State) (sized : Sized s) (well : well_formed s ≡ true) (r : ℕ) (active : is_active s r ≡ true) where
  abbrev F : Facts s
  F = facts s sized well

  in_table : (1 ≤ r) × (r ≤ s.counts.jobs)
  in_table = active_rank s F r active

  line_at : line_on_page s r ≡ page_line s r
  unfolding page joined
  line_at = go r in_table active
    where
      lines : ℕ → List ℕ
      lines q = if is_active s q then page_line s q else []

      go : (r : ℕ) → (1 ≤ r) × (r ≤ s.counts.jobs) → is_active s r ≡ true → line_on_page s r ≡ page_line s r
      go zero (low, high) a = absurd (omega arith)
      go (suc q) (low, high) a =
          let split = joined_split (suc q) s.counts.jobs lines high in
          let above = joined q lines in
          let line = page_line s (suc q) in
          let whole : page s ≡ above ++ (line ++ split.0) =
          split.1 ∙ ap (λ (b : Bool). (above ++ (if b then line else [])) ++ split.0) a ∙ append_assoc above line split.0 in
          let place = 21 * sum q (λ i. one_if (is_active s i)) in
          let back : suc q - 1 ≡ q = omega arith in
          ap₂ (λ (text : List ℕ) (n : ℕ). column text (21 * sum n (λ i. one_if (is_active s i))) 21) whole back
          ∙ column_behind above (line ++ split.0) place 0 place 21 (lines_length s F q (omega arith)) (sym (add-zero place))
          ∙ column_front line split.0 21 (state_line_length s F (suc q) low high)

  pub line_shown : Shown s r (line_on_page s r)
  unfolding ask_running ask_inherited_rank ask_named_lock job_refusal processor_refusal
  line_shown =
      let fit = fields_fit s F r in_table.0 in_table.1 in
      let rank = inside_between 1 s.counts.jobs r in_table.0 in_table.1 in
      let processor = lt-ltb (processor_of_job s r) s.counts.processors (F.processors r in_table.0 in_table.1) in
      subst (Shown s r) (sym line_at)
      (record {
        runs = running_rank s (processor_of_job s r);
        inherited = inherited_rank s r;
        holder = named_holder_of s r;
        object = named_object_of s r;
        running_answer = simp (well, processor);
        inherited_answer = simp (well, rank, active);
        named_answer = simp (well, rank, active);
        rank = rank_column _ _ _ _ _ _ fit;
        processor = processor_column _ _ _ _ _ _ fit;
        letter = letter_column _ _ _ _ _ _ fit;
        inherited_rank_lem = inherited_column _ _ _ _ _ _ fit;
        named_rank = holder_column _ _ _ _ _ _ fit;
        named_object = object_column _ _ _ _ _ _ fit;
      })

  letter_on_page_lem : letter_on_page s r ≡ state_letter s r
  letter_on_page_lem =
      ap (λ (text : List ℕ). get_or (column text 7 1) 0 0) line_at
      ∙ ap (λ (text : List ℕ). get_or text 0 0) (letter_column _ _ _ _ _ _ (fields_fit s F r in_table.0 in_table.1))

  -- "W waits": also where the job names nobody
  pub waiting_letter : is_waiting s r ≡ true → letter_on_page s r ≡ 87
  waiting_letter w = letter_on_page_lem ∙ letter_W s F.counts.jobs.1 r in_table.0 w

  -- CR 8: "a sleeper has the letter Z"
  pub sleeping_letter : is_sleeping s r ≡ true → letter_on_page s r ≡ 90
  sleeping_letter z = letter_on_page_lem ∙ letter_Z s F.counts.jobs.1 r in_table.0 (simp (eq-eqb (request_of s r) 0 (sleeper_free s F r z))) z

-- ---- the letters on the page

module _ (s : State) (sized : Sized s) (well : well_formed s ≡ true) (p : ℕ) (is_processor : p < s.counts.processors) where
  small : s.counts.jobs ≤ most_jobs
  small = (facts s sized well).counts.jobs.1

  shows_R : (r : ℕ) (b : Bool) → is_active s r ≡ b
      → is_active s r && eqb (processor_of_job s r) p && eqb (letter_on_page s r) 82 ≡ is_active s r && eqb (processor_of_job s r) p && eqb (state_letter s r) 82
  shows_R r true e = ap (λ (l : ℕ). is_active s r && eqb (processor_of_job s r) p && eqb l 82) (letter_on_page_lem s sized well r e)
  shows_R r false e = simp e

  lines_are : running_lines s p ≡ sum s.counts.jobs (λ r. one_if (eqb (running_rank s p) r))
  lines_are = sum_same s.counts.jobs _ _ (λ r a b. ap one_if (shows_R r (is_active s r) refl ∙ letter_R s small p r a))

  count : (x : ℕ) → running_rank s p ≡ x → sum s.counts.jobs (λ r. one_if (eqb x r)) ≡ (if eqb x 0 then 0 else 1)
  count zero e = never_zero s.counts.jobs
  count (suc x) e =
      once s.counts.jobs (suc x) (omega arith) (running_ready s p (suc x) small (omega arith) e).in_table
      ∙ sym (simp (ne_eqb (suc x) 0 (λ z. omega arith)))

  -- exactly one R for each processor that is not idle, and none for one that is
  pub one_runs : (runs : ℕ) × (rank_reply (ask_running s p) ≡ told (runs ∷ [])) × (running_lines s p ≡ (if eqb runs 0 then 0 else 1))
  unfolding ask_running processor_refusal
  one_runs = (running_rank s p, simp (well, lt-ltb p s.counts.processors is_processor), lines_are ∙ count (running_rank s p) refl)
