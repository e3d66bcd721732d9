-- The state that lent parts are of, and that they are lent from where they were.
-- Assumes nothing.
use Rattle.std.specs.Prelude.{◌≡◌}
use Rattle.std.proofs.Common.{◌∙◌}
use Rattle.state.specs.declared.State.{State}
use Rattle.state.specs.declared.lent.Parts.{Parts}
use Rattle.state.specs.declared.lent.PartsMut.{PartsMut}
use Rattle.state.specs.State.{state_of}

-- the state with these parts
abbrev pub state_in : Parts → State
state_in p =
    state_of p.counts p.processor_of.now p.may_read.now p.may_write.now p.active p.unlocked p.sleeping p.holder p.readers.now p.writers.now p.certified.now
    p.request.now

-- the same of parts that may be changed
abbrev pub state_in_mut : PartsMut → State
state_in_mut p =
    state_of p.counts p.processor_of.now p.may_read.now p.may_write.now p.active.now p.unlocked.now p.sleeping.now p.holder.now p.readers.now p.writers.now
    p.certified.now p.request.now

-- the table is as it was, and the parts that may be changed are lent from where they were
pub record SamePlaces (old new : PartsMut) : Type 0 where
  pub counts : new.counts ≡ old.counts
  pub processor_of : new.processor_of ≡ old.processor_of
  pub may_read : new.may_read ≡ old.may_read
  pub may_write : new.may_write ≡ old.may_write
  pub active : new.active.ghost_name ≡ old.active.ghost_name
  pub unlocked : new.unlocked.ghost_name ≡ old.unlocked.ghost_name
  pub sleeping : new.sleeping.ghost_name ≡ old.sleeping.ghost_name
  pub holder : new.holder.ghost_name ≡ old.holder.ghost_name
  pub readers : new.readers.ghost_name ≡ old.readers.ghost_name
  pub writers : new.writers.ghost_name ≡ old.writers.ghost_name
  pub certified : new.certified.ghost_name ≡ old.certified.ghost_name
  pub request : new.request.ghost_name ≡ old.request.ghost_name

pub places_then : {a b c : PartsMut} → SamePlaces a b → SamePlaces b c → SamePlaces a c
places_then p q = record {
  counts = q.counts ∙ p.counts;
  processor_of = q.processor_of ∙ p.processor_of;
  may_read = q.may_read ∙ p.may_read;
  may_write = q.may_write ∙ p.may_write;
  active = q.active ∙ p.active;
  unlocked = q.unlocked ∙ p.unlocked;
  sleeping = q.sleeping ∙ p.sleeping;
  holder = q.holder ∙ p.holder;
  readers = q.readers ∙ p.readers;
  writers = q.writers ∙ p.writers;
  certified = q.certified ∙ p.certified;
  request = q.request ∙ p.request;
}
