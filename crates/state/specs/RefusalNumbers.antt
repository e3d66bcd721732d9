-- The papers' number of each refusal (01, "Refusals by who can cause them"; 02): "Order: 8, then as numbered" says which comes first where several hold.
-- Assumes nothing.
use Rattle.std.specs.Prelude.{ℕ, ◌≢◌, [], ◌∷◌, Result, Ok, Err}
use Rattle.std.proofs.Common.{arith}
use Rattle.basics.specs.Replies.{Reply, refused, told}
use Rattle.state.specs.declared.refusal.Refusal.{Refusal}
use Rattle.state.specs.declared.refusal.Refusal.TheVariants as V

-- the number
abbrev pub number : Refusal → ℕ
number V.TableCut = 1
number V.NoTable = 2
number V.TableVersion = 3
number V.TableCounts = 4
number V.ProcessorByte = 5
number V.EntryField = 6
number V.EntryOrder = 7
number V.NotWellFormed = 8
number V.NoSuchKind = 9
number V.NoSuchRank = 10
number V.NoSuchObject = 11
number V.JobActive = 12
number V.JobIdle = 13
number V.JobWaiting = 14
number V.JobUnlocked = 15
number V.NoRight = 16
number V.LockHeld = 17
number V.LockNotHeld = 18
number V.NoSuchProcessor = 19
number V.TableRoom = 20
number V.WriteLockHeld = 21
number V.PageRoom = 22
number V.LoadRoom = 23
number V.NoWriteLock = 24
number V.NotCertified = 25
number V.JobAsleep = 26
number V.JobAwake = 27

-- the number of the refusal, 0 where there is a value
abbrev pub refusal_number : {T : Type 0} → Result T Refusal → ℕ
refusal_number (Ok value) = 0
refusal_number (Err refusal) = number refusal

-- the number and the value of what a writer answers: 01, "Table bytes": it "answers its length"; 02, CR 2: "the answer is the page's length". The promises are
-- stated through this definition.
abbrev pub length_reply : Result ℕ Refusal → Reply
length_reply (Ok n) = told (n ∷ [])
length_reply (Err refusal) = refused (number refusal)

-- 0 is no refusal's number
pub number_positive : (refusal : Refusal) → number refusal ≢ 0
number_positive refusal = grind arith
