-- Parts that come and steps that lay at most so many lines each, in any order: where the last step had room for a line and used nothing,
-- all that is laid, in order, and the last line are the record of the parts joined (`record_of_moves`). So a program may lend a buffer of
-- one line or of many.
-- Assumes nothing.
use Rattle.std.specs.Prelude.{ℕ, ◌≤◌, ◌≡◌, refl, List, [], ◌∷◌, ◌++◌, drop}
use Rattle.std.proofs.Common.{sym, ap, subst, ◌∙◌, append_assoc}
use Rattle.record.specs.Record.{record_of}
use Rattle.stream.specs.Parts.{Advance, unread, advance, Progress, begun, closed}
use Rattle.stream.specs.Advancing.{left, left_open, advance_lays}
use Rattle.stream.specs.AnyParts.{Settled, total, unused_settled, settled_closed}

-- a part comes, or a step lays at most so many lines
pub data Move : Type 0 where
  come : List ℕ → Move
  lay : ℕ → Move

abbrev pub stepped : ℕ → Progress → Progress
stepped most p =
    let t : Advance = advance most p.bench p.held in
    record { laid = p.laid ++ t.lines; bench = t.bench; held = drop t.used p.held }

unfoldable pub moved : List Move → Progress → Progress
moved [] p = p
moved (come part ∷ moves) p = moved moves (record { laid = p.laid; bench = p.bench; held = p.held ++ part })
moved (lay most ∷ moves) p = moved moves (stepped most p)

-- the whole input
unfoldable pub input_of : List Move → List ℕ
input_of [] = []
input_of (come part ∷ moves) = part ++ input_of moves
input_of (lay most ∷ moves) = input_of moves

moved_total : (moves : List Move) (p : Progress) → total (moved moves p) [] ≡ total p (input_of moves)
unfolding moved input_of
moved_total [] p = refl
moved_total (come part ∷ moves) p =
    moved_total moves (record { laid = p.laid; bench = p.bench; held = p.held ++ part })
    ∙ ap (λ (l : List ℕ). p.laid ++ left p.bench l) (append_assoc p.held part (input_of moves))
moved_total (lay most ∷ moves) p =
    let t : Advance = advance most p.bench p.held in
    moved_total moves (stepped most p)
    ∙ append_assoc p.laid t.lines (left t.bench (drop t.used p.held ++ input_of moves))
    ∙ ap (λ (l : List ℕ). p.laid ++ l) (advance_lays p.held (input_of moves) most p.bench)

-- some moves, and then a step with room for a line that uses nothing
pub record_of_moves : (moves : List Move) (most : ℕ) → 1 ≤ most → (advance most (moved moves begun).bench (moved moves begun).held).used ≡ 0
    → closed (stepped most (moved moves begun)) ≡ record_of (input_of moves)
record_of_moves moves most m none =
    let p : Progress = moved moves begun in
    let t : Advance = advance most p.bench p.held in
    settled_closed (stepped most p) (subst (λ (n : ℕ). Settled t.bench (drop n p.held)) (sym none) (unused_settled most p.bench p.held m none))
    ∙ append_assoc p.laid t.lines (left t.bench (drop t.used p.held ++ []))
    ∙ ap (λ (l : List ℕ). p.laid ++ l) (advance_lays p.held [] most p.bench)
    ∙ moved_total moves begun
    ∙ left_open unread (input_of moves) refl
