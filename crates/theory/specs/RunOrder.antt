-- All of change request 7 in one (Arrows); proofs/RunOrder, proofs/LastLocks and proofs/GrantsFirst show it.
use Rattle.std.specs.Prelude.{ℕ}
use Rattle.theory.specs.Words.{Label}
use Rattle.theory.specs.Arrows.{OneByOne, OneOrder, NeverTogether, GrantsFirst}

-- all that is shown in RunOrder, LastLocks and GrantsFirst of change request 7
pub record InOrder (label : ℕ → Label) (version : ℕ) : Type 0 where
  pub one_by_one : OneByOne label version
  pub one_order : OneOrder label version
  pub never_together : NeverTogether label version
  pub grants_first : GrantsFirst label
