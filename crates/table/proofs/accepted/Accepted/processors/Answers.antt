-- `table::accepted::Accepted::processors` meets its contract: the processor bytes are copied over the front of 64 zeros.
-- Assumes nothing.
use Rattle.std.proofs.Common.{◌≡◌, ℕ, ◌+◌, ◌-◌, ◌≤◌, List, ◌++◌, take, drop, length, arith, sym, ap, ap₂, ◌∙◌, length-take-le}
use Rattle.std.proofs.Math.ListN.{length-drop}
use Rattle.std.proofs.lemmas.List.{length-replicate, drop-replicate}
use Rattle.state.specs.State.{zeros}
use Rattle.table_bytes.specs.AcceptedTable.{accepted_table}
use Rattle.table.specs.Reading.{processors_of}
use Rattle.table.proofs.accepted.Accepted.processors.Goals as goal

-- n bytes from index 8 on are as many as the first n of 64 zeros
same_length : (b : List ℕ) (n : ℕ) → 8 + n ≤ length b → n ≤ 64 → length (take n (zeros 64)) ≡ length (take (8 + n - 8) (drop 8 b))
same_length b n h l =
    let zeros_long = length-take-le n (zeros 64) (omega (arith, length-replicate {A = ℕ} 64 0)) in
    omega (arith, zeros_long, length-take-le (8 + n - 8) (drop 8 b) (omega (arith, length-drop 8 b)))

-- laid over them, they leave the other zeros
laid_over : (b new : List ℕ) (n : ℕ) → new ≡ take (8 + n - 8) (drop 8 b) → new ++ drop n (zeros 64) ≡ take n (drop 8 b) ++ zeros (64 - n)
laid_over b new n e =
    let size : 8 + n - 8 ≡ n = omega arith in
    ap₂ ◌++◌ (e ∙ (λ i. take (size i) (drop 8 b))) (drop-replicate n 64 0)

pub slice_bounds-copy_from_slice-end : goal.slice_bounds-copy_from_slice-end
slice_bounds-copy_from_slice-end c =
    let a = accepted_table c.args.self.now.bytes.now c.args.self.now.accepted in
    sym (length-take-le _ _ (omega arith))

pub copy_from_slice-requires : goal.copy_from_slice-requires
copy_from_slice-requires c =
    let a = accepted_table c.args.self.now.bytes.now c.args.self.now.accepted in
    same_length c.args.self.now.bytes.now c.from-jobs.result (omega arith) (omega arith)

pub returns : goal.returns
unfolding processors_of
returns c =
    let b = c.args.self.now.bytes.now in
    laid_over b _ c.from-jobs.result c.copy_from_slice.ensures.after ∙ ap (λ (n : ℕ). take n (drop 8 b) ++ zeros (64 - n)) c.from-jobs.ensures
