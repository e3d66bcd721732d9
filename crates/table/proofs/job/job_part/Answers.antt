-- `table::job::job_part` meets its contract. The part goes from the first entry of the rank or a greater one to the first of a greater one;
-- in accepted bytes these are the rank's entries (`entries_together`). On a refusal the part is empty.
-- Assumes nothing.
use Rattle.std.proofs.Common.{◌≡◌, ◌-◌, ◌*◌, take, drop, arith, sym, ap, ◌∙◌, eq-eqb, ne_eqb}
use Rattle.state.specs.RefusalNumbers.{refusal_number, number_positive}
use Rattle.table_bytes.specs.AcceptedTable.{accepted_table}
use Rattle.table_bytes.specs.Steps.{handed_on}
use Rattle.table.specs.JobEntries.{job_entries_refusal, job_entries, part_of}
use Rattle.table.specs.JobPart.{job_accepted, entries_together}
use Rattle.table.proofs.job.job_part.Goals as goal

pub returns-in_err-job_entries_refusal : goal.returns-in_err-job_entries_refusal
unfolding job_entries
returns-in_err-job_entries_refusal c =
    let h = c.in_err-job_entries_refusal.ensures in
    let e = handed_on _ _ c.from_residual.ensures.1 in
    let refused = ne_eqb (job_entries_refusal c.args.bytes.now c.args.rank) 0 (λ z. number_positive _ (h ∙ z)) in
    (ap part_of e ∙ sym (simp refused), ap refusal_number e ∙ h)

pub returns : goal.returns
unfolding job_entries
returns c =
    let b = c.args.bytes.now in
    let r = c.args.rank in
    let none = sym c.in_ok-job_entries_refusal.ensures in
    let a = accepted_table b (job_accepted b r none).bytes in
    let first = c.first_entry_from-first.result in
    let next = c.first_entry_from-next.result in
    let start = c.entry_start-from.ensures.0 in
    let size : c.entry_start-to.result - c.entry_start-from.result ≡ 3 * (next - first) = omega arith in (
      simp (eq-eqb (job_entries_refusal b r) 0 none)
          ((λ i. take (size i) (drop (start i) b)) ∙ sym (entries_together b a r first next c.first_entry_from-first.ensures c.first_entry_from-next.ensures)),
      sym none,
    )
