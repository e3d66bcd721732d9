-- What the questions answer, and the paper's number and values of each answer (01, "Refusals by who can cause them"). The promises are stated through these
-- definitions.
-- Assumes nothing.
use Rattle.std.specs.Prelude.{ℕ, [], ◌∷◌, Result, Ok, Err}
use Rattle.basics.specs.Replies.{Reply, refused, told}
use Rattle.state.specs.declared.refusal.Refusal.{Refusal}
use Rattle.state.specs.RefusalNumbers.{number}
use Rattle.questions.specs.declared.parts.NamedLock.{NamedLock}
use Rattle.questions.specs.declared.parts.Ceilings as Code

-- the answer to a question for one rank: the rank, or the refusal's number
pub data RankAnswer : Type 0 where
  Rank : (rank : ℕ) → RankAnswer
  Refused : (n : ℕ) → RankAnswer

-- the answer to the question for a named lock: its holder and object, 0 and 0 if the job names nobody; or the refusal's number
pub data NamedAnswer : Type 0 where
  Lock : (holder object : ℕ) → NamedAnswer
  Refused : (n : ℕ) → NamedAnswer

-- the answer to the question for an object's ceilings; or the refusal's number
pub data CeilingsAnswer : Type 0 where
  Ceilings : (write absolute : ℕ) → CeilingsAnswer
  Refused : (n : ℕ) → CeilingsAnswer

-- ---- what the code's answer tells

abbrev pub rank_of : Result ℕ Refusal → RankAnswer
rank_of (Ok rank) = RankAnswer.Rank rank
rank_of (Err refusal) = RankAnswer.Refused (number refusal)

abbrev pub named_of : Result NamedLock Refusal → NamedAnswer
named_of (Ok lock) = NamedAnswer.Lock lock.holder lock.object
named_of (Err refusal) = NamedAnswer.Refused (number refusal)

abbrev pub ceilings_of : Result Code.Ceilings Refusal → CeilingsAnswer
ceilings_of (Ok found) = CeilingsAnswer.Ceilings found.write found.absolute
ceilings_of (Err refusal) = CeilingsAnswer.Refused (number refusal)

-- ---- the paper's number and values

-- a job's inherited rank, and "the rank a processor runs (0 if idle)"
abbrev pub rank_reply : RankAnswer → Reply
rank_reply (RankAnswer.Rank rank) = told (rank ∷ [])
rank_reply (RankAnswer.Refused n) = refused n

-- "its named lock (rank and object, 0 and 0 if it names nobody)"
abbrev pub named_reply : NamedAnswer → Reply
named_reply (NamedAnswer.Lock holder object) = told (holder ∷ object ∷ [])
named_reply (NamedAnswer.Refused n) = refused n

-- "an object's two ceilings": the write ceiling, then the absolute ceiling
abbrev pub ceilings_reply : CeilingsAnswer → Reply
ceilings_reply (CeilingsAnswer.Ceilings write absolute) = told (write ∷ absolute ∷ [])
ceilings_reply (CeilingsAnswer.Refused n) = refused n
