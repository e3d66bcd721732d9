-- The tables, events and answers of the examples: that of 01 ("The bench record"), whose table is in table/specs/Example.antt; one of version 2 (02, CR 6); and
-- one of jobs that sleep (02, CR 8). proofs/Example shows that the manager answers so.
-- Assumes nothing.
use Rattle.std.specs.Prelude.{ℕ, List, [], ◌∷◌}
use Rattle.state.specs.declared.State.{State}
use Rattle.table.specs.Reading.{read_table}
use Rattle.questions.specs.Answers.{RankAnswer, Rank}
use Rattle.questions.specs.Questions.{ask_inherited_rank, ask_running}
use Rattle.events.specs.Answers.{Paper, paper}
use Rattle.manager.specs.Step.{step}
use Rattle.theory.specs.Lists.{state_at}
use Rattle.promises.specs.Terms.{Event, next, label}

-- ---- the four answers, by their number and values

abbrev pub granted : Paper
granted = record { number = 1; values = [] }

abbrev pub waits : (holder object reason : ℕ) → Paper
waits holder object reason = record { number = 2; values = holder ∷ object ∷ reason ∷ [] }

abbrev pub done : (woken : ℕ) → Paper
done woken = record { number = 3; values = woken ∷ [] }

abbrev pub refused : (n : ℕ) → Paper
refused n = record { number = 4; values = n ∷ [] }

-- ---- a line: an event with its answer, a question for a job's inherited rank, or one for the rank that a processor runs
pub data Line : Type 0 where
  event : (kind rank object : ℕ) → Paper → Line
  inherits : (job : ℕ) → RankAnswer → Line
  runs : (processor : ℕ) → RankAnswer → Line

-- the same events and questions, with the answers that the manager gives
unfoldable pub replay : State → List Line → List Line
replay s [] = []
replay s (event k r o a ∷ rest) = event k r o (paper (step s k r o).answer) ∷ replay (step s k r o).state rest
replay s (inherits j a ∷ rest) = inherits j (ask_inherited_rank s j) ∷ replay s rest
replay s (runs p a ∷ rest) = runs p (ask_running s p) ∷ replay s rest

-- "those twelve answers, and that after event 4 job 4 has inherited rank 2, after 7 processor 0 is idle,
-- after 11 job 3 has inherited rank 1"
unfoldable pub example_lines : List Line
example_lines =
    event 1 4 0 (done 0)
    ∷ event 2 4 1 granted
    ∷ event 1 2 0 (done 0)
    ∷ event 2 2 2 (waits 4 1 2)
    ∷ inherits 4 (Rank 2)
    ∷ event 4 4 1 (done 2)
    ∷ event 1 3 0 (done 0)
    ∷ event 2 3 1 (waits 2 2 3)
    ∷ runs 0 (Rank 0)
    ∷ event 2 2 3 granted
    ∷ event 5 2 0 (done 3)
    ∷ event 1 1 0 (done 0)
    ∷ event 3 1 1 (waits 3 1 1)
    ∷ inherits 3 (Rank 1)
    ∷ event 5 3 0 (done 1)
    ∷ []

-- ---- version 2

-- 1 processor; job 1 reads object 1, job 2 writes it
abbrev pub versions_table : List ℕ
versions_table = 74 ∷ 79 ∷ 66 ∷ 0 ∷ 2 ∷ 1 ∷ 2 ∷ 1 ∷ 0 ∷ 0 ∷ 0 ∷ 2 ∷ 1 ∷ 1 ∷ 1 ∷ 2 ∷ 1 ∷ 2 ∷ []

-- Job 2 writes the object, and job 1 reads it beside the write lock. Job 2 can't finish with a write lock that is not certified (25). Its certify waits for
-- the reader, and is woken by the unlock. Job 1 starts again and waits for the certify lock; after event 10 job 2 has inherited rank 1. A certify lock can't
-- be unlocked early (21), and the finish lets the reader in.
unfoldable pub versions_lines : List Line
versions_lines =
    event 1 2 0 (done 0)
    ∷ event 3 2 1 granted
    ∷ event 1 1 0 (done 0)
    ∷ event 2 1 1 granted
    ∷ event 5 2 0 (refused 25)
    ∷ event 7 2 1 (waits 1 1 1)
    ∷ event 4 1 1 (done 2)
    ∷ event 5 1 0 (done 0)
    ∷ event 1 1 0 (done 0)
    ∷ event 2 1 1 (waits 2 1 1)
    ∷ inherits 2 (Rank 1)
    ∷ event 4 2 1 (refused 21)
    ∷ event 5 2 0 (done 1)
    ∷ []

-- ---- jobs that sleep

-- version 1, 1 processor; job 1 writes object 1 and reads object 2, job 2 reads both
abbrev pub sleep_table : List ℕ
sleep_table = 74 ∷ 79 ∷ 66 ∷ 0 ∷ 1 ∷ 1 ∷ 2 ∷ 2 ∷ 0 ∷ 0 ∷ 0 ∷ 4 ∷ 1 ∷ 1 ∷ 2 ∷ 1 ∷ 2 ∷ 1 ∷ 2 ∷ 1 ∷ 1 ∷ 2 ∷ 2 ∷ 1 ∷ []

-- Job 2 falls asleep with a lock; its processor passes over it, and it can't lock (26). Job 1 isn't asleep (27). It waits for the sleeper's lock, which
-- makes the sleeper inherit, but not run; a waiting job can't sleep (14). Job 2, awakened, runs; nobody is woken by that. Its finish wakes job 1.
unfoldable pub sleep_lines : List Line
sleep_lines =
    event 1 2 0 (done 0)
    ∷ event 2 2 1 granted
    ∷ event 8 2 0 (done 0)
    ∷ runs 0 (Rank 0)
    ∷ event 2 2 2 (refused 26)
    ∷ event 1 1 0 (done 0)
    ∷ event 9 1 0 (refused 27)
    ∷ event 3 1 1 (waits 2 1 1)
    ∷ inherits 2 (Rank 1)
    ∷ runs 0 (Rank 0)
    ∷ event 8 1 0 (refused 14)
    ∷ event 9 2 0 (done 0)
    ∷ runs 0 (Rank 2)
    ∷ event 5 2 0 (done 1)
    ∷ []

-- Job 1 starts, reads object 2 and falls asleep; job 2 starts.
abbrev pub sleep_events : List Event
sleep_events =
    record { kind = 1; rank = 1; object = 0 }
    ∷ record { kind = 2; rank = 1; object = 2 }
    ∷ record { kind = 8; rank = 1; object = 0 }
    ∷ record { kind = 1; rank = 2; object = 0 }
    ∷ []

abbrev pub slept : State
slept = state_at next label (read_table sleep_table).state sleep_events 4
