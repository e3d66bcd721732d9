-- An event's answer as one number of 32 bits, and taken apart again.
-- Assumes nothing.
use Rattle.std.specs.Prelude.{◌≡◌, [], ◌∷◌, ℕ, ◌+◌, ◌*◌, ◌/◌, ◌%◌, ◌<◌, eqb, get_or, take, if◌then◌else◌}
use Rattle.std.proofs.Common.{arith}
use Rattle.basics.specs.Choice.{between}
use Rattle.events.specs.declared.Answer.{Answer}
use Rattle.events.specs.Answers.{Paper, paper}

-- four bytes as one number, the first byte on top
abbrev pub four_bytes : ℕ → ℕ → ℕ → ℕ → ℕ
four_bytes number a b c = number * 16777216 + a * 65536 + b * 256 + c

-- the paper's number of an answer on top (1 granted, 2 waits, 3 done, 4 refused), then its values in the paper's order, 0 where it has none
abbrev pub packed_paper : Paper → ℕ
packed_paper p = four_bytes p.number (get_or p.values 0 0) (get_or p.values 1 0) (get_or p.values 2 0)

abbrev pub packed : Answer → ℕ
packed answer = packed_paper (paper answer)

-- ---- taken apart, as the header does it

-- how many values the answer of a number has: granted none, waits three, done and refused one
abbrev pub value_count : ℕ → ℕ
value_count number = if eqb number 2 then 3 else if between 3 4 number then 1 else 0

-- the number in the top byte, then that many values
abbrev pub unpacked : ℕ → Paper
unpacked n = record { number = n / 16777216; values = take (value_count (n / 16777216)) (n / 65536 % 256 ∷ n / 256 % 256 ∷ n % 256 ∷ []) }

-- of four numbers whose last three are bytes nothing is lost
pub unpack_four : (number a b c : ℕ) → a < 256 → b < 256 → c < 256
    → unpacked (four_bytes number a b c) ≡ record { number = number; values = take (value_count number) (a ∷ b ∷ c ∷ []) }
unpack_four number a b c p q r =
    let top : four_bytes number a b c / 16777216 ≡ number = omega arith in
    let first : four_bytes number a b c / 65536 % 256 ≡ a = omega arith in
    let second : four_bytes number a b c / 256 % 256 ≡ b = omega arith in
    let third : four_bytes number a b c % 256 ≡ c = omega arith in
    λ i. record { number = top i; values = take (value_count (top i)) (first i ∷ second i ∷ third i ∷ []) }
