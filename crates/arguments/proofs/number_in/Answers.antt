-- `arguments::number_in` meets its contract: a text that is not decimal digits alone says no number, and of any other `parse` gives it.
-- Assumes nothing.
use Rattle.std.proofs.Common.{sym, ◌∙◌, arith}
use Rattle.arguments.specs.Numbers as N
use Rattle.arguments.proofs.Digits.{text_read, number_read}
use Rattle.arguments.proofs.number_in.Goals as goal

pub returns-then-not-is_decimal : goal.returns-then-not-is_decimal
unfolding N.number_in
returns-then-not-is_decimal c = let none = sym c.is_decimal.ensures ∙ c.if-not-is_decimal.true in sym (simp none)

pub returns-in_err-ok : goal.returns-in_err-ok
returns-in_err-ok c =
    let digits = sym c.is_decimal.ensures ∙ c.if-not-is_decimal.false in
    absurd (text_read _ digits _ _ _ c.in_err-ok.ensures.value c.from_utf8.ensures.cases)

pub returns-in_err-number : goal.returns-in_err-number
returns-in_err-number c =
    let digits = sym c.is_decimal.ensures ∙ c.if-not-is_decimal.false in
    let same = text_read _ digits _ _ _ c.in_ok-ok.ensures.value c.from_utf8.ensures.cases in
    c.from_residual-in_err-number.ensures ∙ number_read _ digits _ _ _ _ c.in_err-number.ensures.value c.parse.ensures.value.0 same (omega arith)

pub returns-then-number-most : goal.returns-then-number-most
returns-then-number-most c =
    let digits = sym c.is_decimal.ensures ∙ c.if-not-is_decimal.false in
    let same = text_read _ digits _ _ _ c.in_ok-ok.ensures.value c.from_utf8.ensures.cases in
    sym (N.at_most_value _ _ (omega arith)) ∙ number_read _ digits _ _ _ _ c.in_ok-number.ensures.value c.parse.ensures.value.0 same (omega arith)

pub returns-else-number-most : goal.returns-else-number-most
returns-else-number-most c =
    let digits = sym c.is_decimal.ensures ∙ c.if-not-is_decimal.false in
    let same = text_read _ digits _ _ _ c.in_ok-ok.ensures.value c.from_utf8.ensures.cases in
    sym (N.at_most_invalid _ _ (omega arith)) ∙ number_read _ digits _ _ _ _ c.in_ok-number.ensures.value c.parse.ensures.value.0 same (omega arith)
