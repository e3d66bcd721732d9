-- What accepted table bytes declare stays within the table: `most_objects` sets, with no rank above the job count, and empty for an
-- object that the table does not have; and the processor of each rank is one of the table's.
-- Assumes nothing.
use Prim.Native.Nat.{ℕ, zero, suc, ◌-◌, ◌^◌, ◌≤◌, ◌<◌}
use Rattle.std.specs.Prelude.{◌≡◌, Bool, true, false, List, drop, if◌then◌else◌}
use Rattle.std.proofs.Common.{sym, subst, ◌∙◌, arith, pow_pos}
use Rattle.std.proofs.Math.Decide.{ℕ_discrete}
use Rattle.std.proofs.Math.ListN.{length, take, length-take, length-drop, get_or-append}
use Rattle.std.proofs.lemmas.List.{length-replicate}
use Rattle.std.proofs.Math.Seq.{get_or-take, get_or-drop}
use Rattle.basics.specs.Arrays.{at, put, at-put_same, at-put_other, length-put, at-zeros}
use Rattle.ranks.specs.Ranks.{with}
use Rattle.ranks.specs.RankLaws.{with-lt}
use Rattle.state.specs.State.{most_jobs, most_objects, zeros}
use Rattle.table_bytes.specs.Bytes.{jobs_in, objects_in, processor_in, entry_count, entry_rank, entry_object, entry_mode}
use Rattle.table.specs.Reading.{processors_of, gives_right, with_right, declared_in}
use Rattle.table_bytes.specs.AcceptedTable.{AcceptedTable, EntryFits}

-- sets by object in a table of so many jobs and objects
pub record SetsFit (jobs objects : ℕ) (sets : List ℕ) : Type 0 where
  pub long : length sets ≡ most_objects
  pub of_jobs_lem : (o : ℕ) → at sets o < 2 ^ jobs
  pub of_objects : (o : ℕ) → objects < o → at sets o ≡ 0

zeros_fit : (jobs objects : ℕ) → SetsFit jobs objects (zeros most_objects)
zeros_fit jobs objects = record {
  long = length-replicate {A = ℕ} most_objects 0;
  of_jobs_lem = λ o. omega (arith, at-zeros most_objects o, pow_pos jobs);
  of_objects = λ o l. at-zeros most_objects o;
}

-- a rank of the table put in at an object of the table
put_fits : (jobs objects : ℕ) (sets : List ℕ) (rank object : ℕ) → SetsFit jobs objects sets → rank ≤ jobs → 1 ≤ object → object ≤ objects → objects ≤ most_objects
    → SetsFit jobs objects (put sets object (with (at sets object) rank))
put_fits jobs objects sets rank object fit r low high most = record {
  long = length-put sets object new ∙ fit.long;
  of_jobs_lem = λ o. elim (ℕ_discrete object o) [
    | yes q ↦ subst (λ (k : ℕ). at (put sets object new) k < 2 ^ jobs) q (subst (λ (v : ℕ). v < 2 ^ jobs) (sym same) small)
    | no d ↦ subst (λ (v : ℕ). v < 2 ^ jobs) (sym (at-put_other sets object new o d)) (fit.of_jobs_lem o)
  ];
  of_objects = λ o l. at-put_other sets object new o (λ q. omega arith) ∙ fit.of_objects o l;
}
  where
    new : ℕ
    new = with (at sets object) rank

    same : at (put sets object new) object ≡ new
    same = at-put_same sets object new low (omega (arith, fit.long))

    small : new < 2 ^ jobs
    small = with-lt jobs (at sets object) rank (fit.of_jobs_lem object) r

module _ (b : List ℕ) (a : AcceptedTable b) where
  pub declared_fits : (m n : ℕ) → n ≤ entry_count b → SetsFit (jobs_in b) (objects_in b) (declared_in m b n)
  unfolding declared_in with_right
  declared_fits m zero l = zeros_fit (jobs_in b) (objects_in b)
  declared_fits m (suc k) l = go (declared_in m b k) (declared_fits m k (omega arith)) (gives_right (entry_mode b k) m)
    where
      e : EntryFits b k
      e = a.entry k l

      go : (sets : List ℕ) → SetsFit (jobs_in b) (objects_in b) sets → (t : Bool)
          → SetsFit (jobs_in b) (objects_in b) (if t then put sets (entry_object b k) (with (at sets (entry_object b k)) (entry_rank b k)) else sets)
      go sets fit true = put_fits (jobs_in b) (objects_in b) sets (entry_rank b k) (entry_object b k) fit e.rank_high e.object_low e.object_high a.objects_high
      go sets fit false = fit

  pub processor_read : (k : ℕ) → k < jobs_in b → at (processors_of b) (suc k) ≡ processor_in b k
  unfolding processors_of
  processor_read k l =
      let own = take (jobs_in b) (drop 8 b) in
      let inside : k < length own = omega (arith, length-take (jobs_in b) (drop 8 b), length-drop 8 b, a.start_within) in
      get_or-append own (zeros (most_jobs - jobs_in b)) 0 k inside ∙ get_or-take (jobs_in b) (drop 8 b) k 0 l ∙ get_or-drop 8 b k 0
