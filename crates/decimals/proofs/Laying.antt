-- What the functions that lay numbers are proved from: a number's digits by its size, how many they are, and texts laid one behind the other.
-- Assumes nothing.
use Rattle.decimals.specs.Decimal.{decimal_one, decimal_two, decimal_three, decimal_thousands, decimal_thousands_length, byte_length, word_length}
use Rattle.decimals.specs.Fields.{aligned_three}
use Rattle.decimals.specs.Laid.{laid_is, laid_then}

pub ruleset laying = (decimal_one, decimal_two, decimal_three, decimal_thousands, decimal_thousands_length, byte_length, word_length, aligned_three, laid_is, laid_then)
