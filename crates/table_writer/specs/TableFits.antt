-- What a well-formed state says of its table: the version is one, the counts, the processors and the declared sets are within their limits.
-- Assumes nothing.
use Rattle.std.specs.Prelude.{◌≡◌, refl, Bool, true, false, ◌||◌, ℕ, ◌^◌, ◌≤◌, ◌<◌, eqb}
use Rattle.std.proofs.Common.{arith}
use borrow.Author.Tests.{ltb-true, eqb-true}
use Rattle.basics.specs.Choice.{and_right, between_true}
use Rattle.basics.specs.Loops.{every-at}
use Rattle.state.specs.declared.State.{State}
use Rattle.state.specs.State.{most_jobs, most_objects, most_processors, is_object, processor_of_job, declared_any}
use Rattle.state.specs.WellFormed.{processor_fits, processors_fit, declaration_fits, declarations_fit, of_jobs, declared_of_jobs, above_idle, well_formed}
use Rattle.state.specs.Clauses.{clauses, counts_within_lem}

pub record TableFits (s : State) : Type 0 where
  pub version : (1 ≤ s.counts.version) × (s.counts.version ≤ 2)
  pub processors_low : 1 ≤ s.counts.processors
  pub processors_high : s.counts.processors ≤ most_processors
  pub jobs_low : 1 ≤ s.counts.jobs
  pub jobs_high : s.counts.jobs ≤ most_jobs
  pub objects_low : 1 ≤ s.counts.objects
  pub objects_high : s.counts.objects ≤ most_objects
  pub processor : (r : ℕ) → 1 ≤ r → r ≤ s.counts.jobs → processor_of_job s r < s.counts.processors
  pub declared_small : (o : ℕ) → 1 ≤ o → o ≤ most_objects → declared_any s o < 2 ^ s.counts.jobs
  pub declared_none : (o : ℕ) → s.counts.objects < o → o ≤ most_objects → declared_any s o ≡ 0

module _ (s : State) (ok : well_formed s ≡ true) where
  none_declared : (o : ℕ) → s.counts.objects < o → declaration_fits s o ≡ true → declared_any s o ≡ 0
  none_declared o above fits = go (is_object s o) refl fits
    where
      go : (t : Bool) → is_object s o ≡ t → t || eqb (declared_any s o) 0 ≡ true → declared_any s o ≡ 0
      go true e f = absurd (omega (arith, between_true 1 s.counts.objects o e))
      go false e f = eqb-true (declared_any s o) 0 f

  pub table_fits : TableFits s
  unfolding processors_fit declarations_fit above_idle
  table_fits =
      let c = clauses s ok in
      let counts = counts_within_lem s.counts c.counts in
      record {
        version = between_true 1 2 s.counts.version c.version;
        processors_low = counts.processors.0;
        processors_high = counts.processors.1;
        jobs_low = counts.jobs.0;
        jobs_high = counts.jobs.1;
        objects_low = counts.objects.0;
        objects_high = counts.objects.1;
        processor = λ r a b. ltb-true (processor_of_job s r) s.counts.processors (every-at s.counts.jobs (processor_fits s) r c.processors a b);
        declared_small = λ o a b. ltb-true (declared_any s o) (2 ^ s.counts.jobs)
            (every-at most_objects (declared_of_jobs s) o (and_right (of_jobs s s.active) _ c.above) a b);
        declared_none = λ o a b. none_declared o a (every-at most_objects (declaration_fits s) o c.declarations (omega (arith, counts.objects.0)) b);
      }
