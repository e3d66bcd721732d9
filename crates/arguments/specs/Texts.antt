-- A program's argument in a buffer that is lent for it.
-- Assumes nothing.
use Rattle.std.specs.Prelude.{ℕ, Option, Some, None, Result, Ok, Err}
use Rattle.std.specs.declared.env.FillError.{FillError}
use Rattle.std.specs.declared.env.FillError.TheVariants.{TooLong, NotPresent}

-- how many bytes of the buffer it has, by what was answered of it: none where it is longer than the buffer; and no argument where there is none
abbrev pub length_of : Result ℕ FillError → Option ℕ
length_of (Ok n) = Some n
length_of (Err TooLong) = Some 0
length_of (Err NotPresent) = None
