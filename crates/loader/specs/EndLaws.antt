-- How a load ends, by what was found on the way: nothing was made, or the parts; and what two texts say.
-- Assumes nothing.
use Rattle.std.specs.Prelude.{ℕ, ◌≤◌, ◌≡◌, List, length, take, Option, Some, None, Result, Ok, Err}
use Rattle.std.proofs.Common.{sym, subst}
use Rattle.table.specs.Reading.{TableRead, read_table}
use Rattle.loader.specs.declared.LoadError.{LoadError}
use Rattle.loader.specs.declared.Loaded.{Loaded}
use Rattle.loader.specs.Loading.{Parts, LoadsBy, Loads, Unstarted, LoadsTexts}

-- what is handed back where no event was made
abbrev pub none_made : Result (Unit {0}) LoadError → (held seed : ℕ) → Loaded
none_made e held seed = record { ended = e; held = held; made = 0; seed = seed }

module _ (held seed count : ℕ) (table' events : List ℕ) (inside : held ≤ length table') where
  pub loads_none : {r : Loaded} {e : Result (Unit {0}) LoadError} → r ≡ none_made e held seed
      → LoadsBy e (none_made e held seed) seed count (read_table (take held table')) events events → Loads r seed count table' events events
  loads_none {r} {e} is by = subst (λ (x : Loaded). Loads x seed count table' events events) (sym is) (record { inside = inside; by = by })

  pub loads_parts : (e : Result (Unit {0}) LoadError) (made next : ℕ) (read : TableRead) (events' : List ℕ) → read ≡ read_table (take held table')
      → read.refusal ≡ 0 → Parts e made next read.state.counts seed count events events'
      → Loads (record { ended = e; held = held; made = made; seed = next }) seed count table' events events'
  loads_parts e made next read events' read_is ok parts =
      record { inside = inside; by = subst (λ (t : TableRead). LoadsBy e (record { ended = e; held = held; made = made; seed = next }) seed count t events events') read_is (go e parts) }
    where
      go : (x : Result (Unit {0}) LoadError) → Parts x made next read.state.counts seed count events events'
          → LoadsBy x (record { ended = e; held = held; made = made; seed = next }) seed count read events events'
      go (Ok done) p = (ok, p.whole, p.after_parts)
      go (Err LoadError.NotWritten) p = (ok, p.after_parts)
      go (Err LoadError.NotTwo) p = cc
      go (Err LoadError.BadSeed) p = cc
      go (Err LoadError.BadCount) p = cc
      go (Err LoadError.NotRead) p = cc
      go (Err (LoadError.Refused n)) p = cc

-- ---- by what two texts say

module _ (r : Loaded) (table table' events events' : List ℕ) where
  pub bad_seed : {seed : Option ℕ} (count : Option ℕ) → seed ≡ None → Unstarted LoadError.BadSeed r table table' events events'
      → LoadsTexts r seed count table table' events events'
  bad_seed {seed} count e u = subst (λ (n : Option ℕ). LoadsTexts r n count table table' events events') (sym e) u

  pub bad_count : {seed count : Option ℕ} {s : ℕ} → seed ≡ Some s → count ≡ None → Unstarted LoadError.BadCount r table table' events events'
      → LoadsTexts r seed count table table' events events'
  bad_count {seed} {count} {s} e f u =
      subst (λ (n : Option ℕ). LoadsTexts r n count table table' events events') (sym e)
      (subst (λ (n : Option ℕ). LoadsTexts r (Some s) n table table' events events') (sym f) u)

  pub both_numbers : {seed count : Option ℕ} {s c : ℕ} → seed ≡ Some s → count ≡ Some c → Loads r s c table' events events'
      → LoadsTexts r seed count table table' events events'
  both_numbers {seed} {count} {s} {c} e f l =
      subst (λ (n : Option ℕ). LoadsTexts r n count table table' events events') (sym e)
      (subst (λ (n : Option ℕ). LoadsTexts r (Some s) n table table' events events') (sym f) l)
