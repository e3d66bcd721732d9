-- What the program that writes a test load leaves in memory, and how it ends. What `read` and `write` moved no contract can say.
-- Assumes nothing.
use Rattle.std.specs.Prelude.{ℕ, zero, suc, ◌*◌, ◌-◌, ◌^◌, ◌≤◌, min, ◌≡◌, ◌⊎◌, List, [], length, take, Option, Some, None, Result, Ok, Err, OnErr, MatchResult}
use Rattle.state.specs.declared.Counts.{Counts}
use Rattle.state.specs.RefusalNumbers.{number}
use Rattle.table_bytes.specs.Refusals.{table_refusal}
use Rattle.table.specs.Reading.{TableRead, read_table}
use Rattle.decimals.specs.Laid.{at_front}
use Rattle.generator.specs.Load.{seed_after, load}
use Rattle.arguments.specs.Numbers.{number_in}
use Rattle.loader.specs.declared.LoadError.{LoadError}
use Rattle.loader.specs.declared.Loaded.{Loaded}

-- ---- the table read

-- the bytes that came, at the front of the buffer; where a read failed they do not decide yet whether there is a table
pub record ReadBytes {E : Type 0} (ended : Result (Unit {0}) E) (held : ℕ) (bytes bytes' : List ℕ) : Type 0 where
  pub inside : held ≤ length bytes'
  pub size : length bytes' ≡ length bytes
  pub cut : OnErr ended (table_refusal (take held bytes') ≡ 1)

-- ---- the load in parts

-- so many events fill the buffer
abbrev pub part_events : ℕ
part_events = 21845

-- part k of `count` events from a seed, the first being 1: as many as fill the buffer, and the last has those that are left
unfoldable pub part : Counts → (seed count k : ℕ) → List ℕ
part c seed count zero = []
part c seed count (suc k) = load c (min part_events (count - part_events * k)) (seed_after (part_events * k) seed)

-- the buffer behind k parts: each was laid at its front, over the one before
unfoldable pub overlaid : Counts → (seed count k : ℕ) → List ℕ → List ℕ
overlaid c seed count zero buffer = buffer
overlaid c seed count (suc k) buffer = at_front (part c seed count (suc k)) (overlaid c seed count k buffer)

-- how many events were made of `count` from a seed, the seed behind them and the buffer, as some parts leave them. By `parts_are_load` these parts
-- joined are so many events from the seed.
pub record AfterParts (c : Counts) (seed count : ℕ) (made next : ℕ) (buffer buffer' : List ℕ) : Type 0 where
  pub parts : ℕ
  pub made_is : made ≡ min (part_events * parts) count
  pub next_is : next ≡ seed_after made seed
  pub buffer_is : buffer' ≡ overlaid c seed count parts buffer

-- the parts of a load: all of them unless a write failed
pub record Parts (ended : Result (Unit {0}) LoadError) (made next : ℕ) (c : Counts) (seed count : ℕ) (buffer buffer' : List ℕ) : Type 0 where
  pub after_parts : AfterParts c seed count made next buffer buffer'
  pub whole : MatchResult ended (λ done. made ≡ count) (λ e. e ≡ LoadError.NotWritten)

-- ---- how it ends

-- no event was made, and the event buffer is as it was
abbrev pub NoneMade : Loaded → (seed : ℕ) (events events' : List ℕ) → Type 0
NoneMade r seed events events' = (r.made ≡ 0) × (r.seed ≡ seed) × (events' ≡ events)

-- what was made, by how it ended, where a seed and a count are wanted and `read` is what the bytes that came are as a table: nothing unless they
-- are accepted; and a read fails only as long as they are cut
abbrev pub LoadsBy : Result (Unit {0}) LoadError → (r : Loaded) (seed count : ℕ) (read : TableRead) (events events' : List ℕ) → Type 0
LoadsBy (Ok whole) r seed count read events events' =
    (read.refusal ≡ 0) × (r.made ≡ count) × AfterParts read.state.counts seed count r.made r.seed events events'
LoadsBy (Err LoadError.NotWritten) r seed count read events events' =
    (read.refusal ≡ 0) × AfterParts read.state.counts seed count r.made r.seed events events'
LoadsBy (Err (LoadError.Refused refusal)) r seed count read events events' = (read.refusal ≡ number refusal) × NoneMade r seed events events'
LoadsBy (Err LoadError.NotRead) r seed count read events events' = (read.refusal ≡ 1) × NoneMade r seed events events'
LoadsBy (Err LoadError.NotTwo) r seed count read events events' = ⊥
LoadsBy (Err LoadError.BadSeed) r seed count read events events' = ⊥
LoadsBy (Err LoadError.BadCount) r seed count read events events' = ⊥

-- a load on the table whose bytes came to the front of a buffer
pub record Loads (r : Loaded) (seed count : ℕ) (table' events events' : List ℕ) : Type 0 where
  pub inside : r.held ≤ length table'
  pub by : LoadsBy r.ended r seed count (read_table (take r.held table')) events events'

-- ---- the seed and the count

-- "A 32-bit number" (02, CR 5)
abbrev pub most_seed : ℕ
most_seed = 2 ^ 32 - 1

abbrev pub most_count : ℕ
most_count = 2 ^ 64 - 1

-- it ended before it read or made anything
abbrev pub Unstarted : LoadError → (r : Loaded) (table table' events events' : List ℕ) → Type 0
Unstarted e r table table' events events' =
    (r ≡ record { ended = Err e; held = 0; made = 0; seed = 0 }) × (table' ≡ table) × (events' ≡ events)

-- a load by what two texts say
abbrev pub LoadsTexts : (r : Loaded) → Option ℕ → Option ℕ → (table table' events events' : List ℕ) → Type 0
LoadsTexts r None count table table' events events' = Unstarted LoadError.BadSeed r table table' events events'
LoadsTexts r (Some seed) None table table' events events' = Unstarted LoadError.BadCount r table table' events events'
LoadsTexts r (Some seed) (Some count) table table' events events' = Loads r seed count table' events events'

-- by two texts that no contract can say, as those of arguments
pub record LoadsSomeTexts (r : Loaded) (table table' events events' : List ℕ) : Type 0 where
  pub text_of_seed : List ℕ
  pub text_of_count : List ℕ
  pub loads : LoadsTexts r (number_in most_seed text_of_seed) (number_in most_count text_of_count) table table' events events'

-- by a program's arguments: there are not two, or two texts
abbrev pub LoadsArguments : (r : Loaded) (table table' events events' : List ℕ) → Type 0
LoadsArguments r table table' events events' =
    Unstarted LoadError.NotTwo r table table' events events' ⊎ LoadsSomeTexts r table table' events events'
