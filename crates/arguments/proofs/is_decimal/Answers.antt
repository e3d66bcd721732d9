-- `arguments::is_decimal` meets its contract: no byte is no number, and of others each is looked at.
-- Assumes nothing.
use Rattle.std.proofs.Common.{rules, ◌≡◌, ◌<◌, length, true, arith}
use Rattle.std.specs.Prelude.{EachIndex, slice_index, ◌↔◌, IsTrue}
use Rattle.std.proofs.lemmas.Bool.Decides.{nat_tests}
use Rattle.arguments.specs.Numbers as N
use Rattle.arguments.proofs.Digits.{decimal_is}
use Rattle.arguments.proofs.is_decimal.Goals as goal

pub returns-then-not-is_empty : goal.returns-then-not-is_empty
returns-then-not-is_empty c =
    let each : IsTrue c.all.result ↔ EachIndex c.args.text.now (λ k. N.is_digit (slice_index c.args.text.now k) ≡ true) = search rules in
    let some : 0 < length c.args.text.now = grind (arith, nat_tests) in
    decimal_is c.all.result c.args.text.now some each

-- src/lib.rt:10:1
pub returns-else-not-is_empty : goal.returns-else-not-is_empty
unfolding N.is_decimal
returns-else-not-is_empty c = grind (arith, nat_tests)
