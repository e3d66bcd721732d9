-- The measure of `decimals::lay_digits` is the number.
-- Assumes nothing.
use Rattle.decimals.proofs.+lay_digits.Given as goal

abbrev pub decreases-lay_digits : goal.decreases-lay_digits
decreases-lay_digits l = l.number
