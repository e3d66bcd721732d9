-- What a read gives, as far as memory shows it: what `read` moved no contract can say.
-- Assumes nothing.
use Rattle.std.specs.Prelude.{ℕ, zero, suc, ◌+◌, ◌≤◌, ◌≡◌, List, length, take, Option, Some, None, Result, Ok, Err}
use Rattle.std.specs.Io.{ReadsAtMost}
use Rattle.std.proofs.Common.{arith}

-- what `read` gave, by its answer: an error is one, no byte is the input's end, and otherwise so many bytes came
abbrev pub part_of : {E : Type 0} → Result ℕ E → Result (Option ℕ) E
part_of (Err e) = Err e
part_of (Ok zero) = Ok None
part_of (Ok (suc n)) = Ok (Some (suc n))

-- a part that came has a byte or more, and no more than there was room for
abbrev pub Fits : {E : Type 0} → Result (Option ℕ) E → ℕ → Type 0
Fits (Err e) room = Unit {0}
Fits (Ok None) room = Unit {0}
Fits (Ok (Some n)) room = (1 ≤ n) × (n ≤ room)

-- a part read behind the bytes that are held, which stay
pub record Came {E : Type 0} (p : Result (Option ℕ) E) (held : ℕ) (before after : List ℕ) : Type 0 where
  pub room : ℕ
  pub fits : Fits p room
  pub inside : held + room ≤ length before
  pub size : length after ≡ length before
  pub kept : take held after ≡ take held before

pub part_fits : {E : Type 0} (got : Result ℕ E) (bytes : List ℕ) (room : ℕ) → ReadsAtMost got bytes → length bytes ≤ room → Fits (part_of got) room
part_fits (Err e) bytes room h l = tt
part_fits (Ok zero) bytes room h l = tt
part_fits (Ok (suc n)) bytes room h l = (omega arith, omega (arith, h.0))
