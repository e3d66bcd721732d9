-- `decimals::lay_digits` meets its contract: a number from 1000 on has the digits of its thousands, and three behind them.
-- Assumes nothing.
use Rattle.std.proofs.Common.{sym, arith}
use Rattle.decimals.specs.Decimal.{decimal_thousands, decimal_thousands_length}
use Rattle.decimals.specs.Laid.{laid_then, laid_is}
use Rattle.decimals.proofs.+lay_digits.Goals as goal

pub returns : goal.returns
returns t c =
    let n = c.args.number in
    laid_is (laid_then c.lay_digits-end.ensures c.lay_three_digits.ensures) (sym (decimal_thousands n (omega arith))) (omega (arith, decimal_thousands_length n (omega arith)))
