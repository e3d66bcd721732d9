-- What a question on a state may count on, once the test of the state is known and no refusal is found: numbers in range, and what is known of the locks.
-- Assumes nothing.
use Rattle.std.specs.Prelude.{◌≡◌, ℕ, ◌≤◌, Bool, true}
use Rattle.std.proofs.Common.{sym, ap, ◌∙◌}
use Rattle.state.specs.declared.State.{State}
use Rattle.state.specs.State.{most_jobs, most_objects}
use Rattle.state.specs.WellFormed.{well_formed}
use Rattle.state.specs.Facts.{Sized}
use Rattle.state.specs.WellFormedFacts.{facts}
use Rattle.state.specs.Holders.{HolderFacts, holder_facts}
use Rattle.refusals.specs.Refusals.{job_refusal, job_refusal_of, object_refusal, object_refusal_of, processor_refusal, processor_refusal_of}
use Rattle.refusals.specs.Accepting.{Asking, asking, job_asking, object_asking, processor_asking}

module _ (s : State) (well : Bool) (tested : (well ≡ well_formed s) × Sized s) where
  held : well_formed s ≡ true → HolderFacts s
  held w = holder_facts s (facts s tested.1 w)

  pub jobs_known : well ≡ true → s.counts.jobs ≤ most_jobs
  jobs_known w = (asking s (sym tested.0 ∙ w)).jobs_fit

  pub job_number : (r : ℕ) → job_refusal_of well s.counts.jobs s.active r ≡ job_refusal s r
  unfolding job_refusal
  job_number r = ap (λ (b : Bool). job_refusal_of b s.counts.jobs s.active r) tested.0

  pub job_known : (r : ℕ) → 0 ≡ job_refusal_of well s.counts.jobs s.active r → Asking s × (1 ≤ r) × (r ≤ most_jobs) × HolderFacts s
  job_known r is =
      let known = job_asking s r (sym (is ∙ job_number r)) in
      (known.0, known.1.0, known.1.1, held known.0.well)

  pub object_known : (o : ℕ) → 0 ≡ object_refusal_of well s.counts.objects o → o ≤ most_objects
  unfolding object_refusal
  object_known o is = object_asking s o (sym (is ∙ ap (λ (b : Bool). object_refusal_of b s.counts.objects o) tested.0))

  pub processor_known : (p : ℕ) → 0 ≡ processor_refusal_of well s.counts.processors p → (s.counts.jobs ≤ most_jobs) × HolderFacts s
  unfolding processor_refusal
  processor_known p is =
      let known = processor_asking s p (sym (is ∙ ap (λ (b : Bool). processor_refusal_of b s.counts.processors p) tested.0)) in
      (known.jobs_fit, held known.well)
