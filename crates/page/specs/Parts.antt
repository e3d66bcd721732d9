-- The page by what the code has worked out: the lock that each rank names, and the rank that each processor runs.
-- Then that it is the page of the state with these.
-- Assumes nothing.
use Rattle.std.specs.Prelude.{◌≡◌, refl, Bool, true, false, not, ℕ, suc, ◌+◌, ◌-◌, ◌≤◌, ◌<◌, eqb, get_or, if◌then◌else◌}
use Rattle.std.proofs.Math.Path.{ap}
use Rattle.std.proofs.Common.{◌∙◌, arith}
use mathlib.Core.List.{List, [], ◌++◌, append-nil}
use Rattle.std.proofs.Math.ListN.{length, length-append}
use Rattle.basics.specs.Arrays.{at, FilledTo}
use Rattle.basics.specs.Choice.{inside_between}
use Rattle.basics.specs.Loops.{joined, joined_more, least_top}
use Rattle.basics.specs.JoinedLaws.{joined_same, joined_grows}
use Rattle.ranks.specs.Ranks.{member}
use Rattle.state.specs.declared.Counts.{Counts}
use Rattle.state.specs.declared.State.{State}
use Rattle.state.specs.State.{most_jobs, most_processors, processor_of_job, is_active, is_waiting, is_sleeping}
use Rattle.state.specs.Weights.{weight}
use Rattle.weights.specs.Keys.{key_holder, key_object, others_key, object_key, lowest_key_by}
use Rattle.rule.specs.Granting.{named_key}
use Rattle.inheritance.specs.Running.{inherited_rank, running_rank}
use Rattle.inheritance.specs.Inheriting.{NamedBy, heir, inherited_by, running_by, awake_jobs, inherited_by_lem, running_by_lem, named_holder_by, named_object_by}
use Rattle.inheritance.specs.Parts.{run_of}
use Rattle.page.specs.Page.{letter_of, line_of, page_line, page}
use Rattle.page.specs.LineLaws.{line_length}

-- each job's processor is one of the table's
abbrev pub ProcessorsFit : Counts → List ℕ → Type 0
ProcessorsFit counts processor_of_job = (r : ℕ) → 1 ≤ r → r ≤ counts.jobs → at processor_of_job r < counts.processors

-- each processor's element is the rank that it runs, and those behind the last processor are 0; processors count from 0, the array's elements from 1
abbrev pub RunsBy : List ℕ → Counts → List ℕ → List ℕ → ℕ → List ℕ → Type 0
RunsBy running counts named processor_of_job awake request =
    FilledTo running counts.processors (λ k. running_by counts.jobs named processor_of_job awake request (k - 1))

-- the line of rank r
unfoldable pub line_by : (jobs : ℕ) (named running processor_of_job : List ℕ) (sleeping : ℕ) (request : List ℕ) → ℕ → List ℕ
line_by jobs named running processor_of_job sleeping request r =
    line_of r (at processor_of_job r) (letter_of (get_or running (at processor_of_job r) 0) (not (eqb (at request r) 0)) (member sleeping r) r) (inherited_by jobs named r)
    (key_holder (at named r)) (key_object (at named r))

-- the lines of the active ranks up to n
unfoldable pub lines_by : (n jobs : ℕ) (named running processor_of_job : List ℕ) (active sleeping : ℕ) (request : List ℕ) → List ℕ
lines_by n jobs named running processor_of_job active sleeping request =
    joined n (λ r. if member active r then line_by jobs named running processor_of_job sleeping request r else [])

module _ (jobs : ℕ) (named running processor_of_job : List ℕ) (active sleeping : ℕ) (request : List ℕ) where
  abbrev lines : ℕ → List ℕ
  lines n = lines_by n jobs named running processor_of_job active sleeping request

  -- the line of an active rank fills 21 bytes
  pub line_by_length : (r : ℕ) → r ≤ most_jobs → at processor_of_job r < most_processors → length (line_by jobs named running processor_of_job sleeping request r) ≡ 21
  unfolding line_by inherited_by
  line_by_length r a b =
      let inherited = least_top jobs r (λ i. heir (key_holder (at named i)) r i) in
      line_length _ _ _ _ _ _
      (record {
        rank_fits = omega arith;
        processor_fits_lem = omega arith;
        inherited_fits = omega arith;
        holder_fits_lem = omega arith;
        object_fits = omega arith;
      })

  -- one rank more, active or not
  pub lines_more : (n : ℕ) → member active (n + 1) ≡ true → lines (n + 1) ≡ lines n ++ line_by jobs named running processor_of_job sleeping request (n + 1)
  unfolding lines_by
  lines_more n e =
      joined_more n _ ∙ ap (λ (b : Bool). lines n ++ (if b then line_by jobs named running processor_of_job sleeping request (n + 1) else [])) e

  pub lines_same : (n : ℕ) → member active (n + 1) ≡ false → lines (n + 1) ≡ lines n
  unfolding lines_by
  lines_same n e =
      joined_more n _ ∙ ap (λ (b : Bool). lines n ++ (if b then line_by jobs named running processor_of_job sleeping request (n + 1) else [])) e ∙ append-nil (lines n)

  -- where all lines have room, the next one has
  pub room_for_line : (n room : ℕ) → n < jobs → jobs ≤ most_jobs → at processor_of_job (n + 1) < most_processors → member active (n + 1) ≡ true → length (lines jobs) ≤ room
      → length (lines n) + 21 ≤ room
  unfolding lines_by
  room_for_line n room h small p e fits =
      let text = line_by jobs named running processor_of_job sleeping request (n + 1) in
      omega (arith, ap length (lines_more n e) ∙ length-append (lines n) text, line_by_length (n + 1) (omega arith) p, joined_grows (n + 1) jobs (λ r. if member active r then line_by jobs named running processor_of_job sleeping request r else []) (omega arith))

-- ---- of a state with these named locks and running ranks

module _ (s : State) (named running : List ℕ) (by : NamedBy named s) (runs : RunsBy running s.counts named s.processor_of (awake_jobs s) s.request)
    (fit : ProcessorsFit s.counts s.processor_of) where
  runs_by : (p : ℕ) → p < s.counts.processors → get_or running p 0 ≡ running_rank s p
  runs_by p h =
      let back : suc p - 1 ≡ p = omega arith in
      let inside = inside_between 1 s.counts.processors (suc p) (omega arith) h in
      let here : get_or running p 0 ≡ running_by s.counts.jobs named s.processor_of (awake_jobs s) s.request (suc p - 1) = runs (suc p) ∙ simp inside in
      here ∙ running_by_lem named s by (suc p - 1) ∙ ap (running_rank s) back

  line_by_lem : (r : ℕ) → 1 ≤ r → r ≤ s.counts.jobs → line_by s.counts.jobs named running s.processor_of s.sleeping s.request r ≡ page_line s r
  unfolding line_by
  line_by_lem r a b =
      let running_is = runs_by (processor_of_job s r) (fit r a b) in
      λ i. line_of r (processor_of_job s r) (letter_of (running_is i) (is_waiting s r) (is_sleeping s r) r) (inherited_by_lem named s by r a i) (named_holder_by named s by r a b i) (named_object_by named s by r a b i)

  pub lines_by_lem : lines_by s.counts.jobs s.counts.jobs named running s.processor_of s.active s.sleeping s.request ≡ page s
  unfolding lines_by page
  lines_by_lem =
      joined_same s.counts.jobs _ (λ r. if is_active s r then page_line s r else [])
      (λ r a b. ap (λ (text : List ℕ). if is_active s r then text else []) (line_by_lem r a b))

-- the page is that of the state's parts
pub page_parts : (s : State) → page s ≡ page (run_of s)
unfolding lowest_key_by object_key others_key weight named_key inherited_rank running_rank page
page_parts s = refl
