-- Write and certify locks stay until the end, of any events from a fresh state, where each event is a Step and a ModeStep.
-- In one event whoever holds one keeps it, unless its run ends: no unlock of it is done, and what is given to its holder there is stronger.
-- So it is held from its grant on, in the words and in what the states show (HeldModes).
use Rattle.std.specs.Prelude.{refl, ℕ, suc, ◌≤◌, ◌<◌}
use Rattle.std.proofs.Common.{inl, inr, arith}
use Rattle.theory.specs.Words.{Label, Unlocks, Ends}
use Rattle.theory.specs.WriteLocks.{HoldsIn, HoldsWrite, WriteLocksStay}
use Rattle.theory.specs.Machine.{View, Releases}
use Rattle.theory.specs.Keeps.{Takes}
use Rattle.theory.specs.Links.{Trace}
use Rattle.theory.proofs.Links.{grant_run}
use Rattle.theory.specs.Modes.{Modes, Gives, ModeStep}
use Rattle.theory.proofs.HeldModes.{held_in, HoldsFrom, holds_since}

-- ---- one event

module _ {s : View} {u u' : Modes} {l : Label} (M : ModeStep s u l u') where
  takes_gives : (x o : ℕ) → Takes s l x o → (m : ℕ) × Gives s u l x o m
  takes_gives x o (inl g) = (l.mode, inl (g, refl))
  takes_gives x o (inr w) = (u.asked x, inr (w.0, w.1, refl))

  -- a write or certify lock is not unlocked
  pub not_unlocked : (j o : ℕ) → 2 ≤ u.held j o → ¬ Unlocks l j o
  not_unlocked j o h a = omega (arith, rw (a.of_job, a.of_object) at (M.unlock a.unlock_done))

  -- and stays, or a stronger one takes its place
  pub write_kept : (j o : ℕ) → 2 ≤ u.held j o → ¬ Ends l j → u.held j o ≤ u'.held j o
  write_kept j o h n = elim (M.held_same j o) [
    | inl e ↦ omega arith
    | inr x ↦ elim x [
      | inl t ↦ (let g = takes_gives j o t in let G = M.give j o g.0 g.1 in omega (arith, G.stronger, G.holds))
      | inr r ↦ elim r [ inl a ↦ absurd (not_unlocked j o h a) | inr e ↦ absurd (n e) ]
    ]
  ]

-- ---- a list of events

module _ {N : ℕ} {view : ℕ → View} {modes : ℕ → Modes} {label : ℕ → Label} (T : Trace N view label)
    (M : (i : ℕ) → ModeStep (view i) (modes i) (label i) (modes (suc i))) where
  -- a write or certify lock that the words say is held is in the state
  pub written : (j k o t : ℕ) → HoldsWrite label j k o t → 2 ≤ (modes t).held j o
  written j k o t h =
      let m = (label h.grant.asked).mode in
      let held : HoldsIn label m j k o t =
      record {
        holds = h.holds;
        last = h.last;
        before = h.before;
        grant = record { grant = h.grant; in_mode = refl };
        none_later = h.none_later;
      } in
      omega (arith, h.to_write, held_in T M m j k o t held)

  pub trace_writes_stay : WriteLocksStay label
  trace_writes_stay j k o g t m two v l r =
      let h = holds_since T M m j k o g t v l r never in (
      record {
        holds = h.2.holds;
        last = h.2.last;
        before = h.2.before;
        grant = h.2.grant.grant;
        to_write = omega (arith, h.1, h.2.grant.in_mode);
        none_later = h.2.none_later;
      }
      )
    where
      never : (i : ℕ) → g < i → i < t → ¬ (HoldsFrom T M m j k o i × Releases (label i) j o)
      never i a b (h, inl u) = not_unlocked (M i) j o (omega (arith, h.1, held_in T M h.0 j k o i h.2)) u
      never i a b (h, inr e) = r.not_ended i (omega (arith, (grant_run label j k o g v.grant).begun)) b e
