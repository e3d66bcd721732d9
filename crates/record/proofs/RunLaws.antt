-- A run over the events in some bytes, partway: what is laid so far, and what is left; whether the state is well formed is known all along.
-- Assumes nothing.
use Prim.Native.Nat.{ℕ, ◌+◌, ◌*◌, ◌≤◌, ◌<◌}
use mathlib.Core.Path.{◌≡◌, refl, sym, subst, ap, ap₂, ◌∙◌}
use mathlib.Core.Bool.{Bool}
use mathlib.Core.List.{List, [], ◌++◌, append_assoc, append-nil}
use native.Mathlib.Numerals.{add-one}
use native.Mathlib.Omega.{arith}
use lib.ListN.{length, drop, get_or, length-drop}
use lib.Seq.{length-sets}
use Rattle.basics.specs.Threes.{drop_three}
use Rattle.state.specs.declared.State.{State}
use Rattle.manager.specs.Step.{step}
use Rattle.lines.specs.Lines.{event_line}
use Rattle.decimals.specs.Laid.{Laid, laid_then, laid_is}
use Rattle.manager.specs.Keeping.{Tested, tested_after}
use Rattle.manager.specs.EventList.{state_after, state_after_more, state_after_none}
use Rattle.record.specs.Record.{event_lines}
use Rattle.record.specs.RecordLaws.{event_lines_more, event_lines_none}

-- the events up to index `place` are answered: the lines of them all are those laid so far and then those of what is left
pub record Run (bytes : List ℕ) (well : Bool) (s₀ s : State) (n₀ n : ℕ) (buf₀ buf : List ℕ) (place end : ℕ) : Type 0 where
  pub tested : Tested well s
  pub inside : place ≤ length bytes
  pub numbers : 3 * n ≤ 3 * n₀ + place
  pub text : List ℕ
  pub laid : Laid buf₀ buf 0 end (15 * place) text
  pub lines : event_lines s₀ n₀ bytes ≡ text ++ event_lines s n (drop place bytes)
  pub after : state_after s₀ bytes ≡ state_after s (drop place bytes)
  pub size : length buf ≡ length buf₀

pub run_start : (bytes : List ℕ) (well : Bool) (s : State) (n : ℕ) (buf : List ℕ) → Tested well s → Run bytes well s s n n buf buf 0 0
run_start bytes well s n buf T =
    record {
      tested = T;
      inside = omega arith;
      numbers = omega arith;
      text = [];
      laid = record { stored = refl; stops = refl; within = omega arith };
      lines = refl;
      after = refl;
      size = refl;
    }

-- a turn: one event more
module _ (bytes : List ℕ) (well : Bool) (s₀ s : State) (n₀ n : ℕ) (buf₀ buf : List ℕ) (place end : ℕ) (r : Run bytes well s₀ s n₀ n buf₀ buf place end) (h : place + 3 ≤ length bytes) where
  abbrev kind : ℕ
  kind = get_or bytes place 0

  abbrev rank : ℕ
  rank = get_or bytes (place + 1) 0

  abbrev object : ℕ
  object = get_or bytes (place + 2) 0

  pub run_turn : (s' : State) (buf' : List ℕ) (end' : ℕ) → s' ≡ (step s kind rank object).state
      → Laid buf buf' end end' 45 (event_line s.counts.version (n + 1) kind rank object (step s kind rank object).answer)
      → Run bytes well s₀ s' n₀ (n + 1) buf₀ buf' (place + 3) end'
  run_turn s' buf' end' e l =
      let line : List ℕ = event_line s.counts.version (n + 1) kind rank object (step s kind rank object).answer in
      let rest : List ℕ = drop (place + 3) bytes in
      let p = r.inside in
      let q = r.numbers in
      record {
        tested = subst (Tested well) (sym e) (tested_after well s r.tested kind rank object);
        inside = h;
        numbers = omega arith;
        text = r.text ++ line;
        laid = laid_is (laid_then r.laid l) refl (omega arith);
        lines =
            r.lines
            ∙ ap (λ (k : List ℕ). r.text ++ event_lines s n k) (drop_three bytes place h)
            ∙ ap (λ (k : List ℕ). r.text ++ k) (event_lines_more s n kind rank object rest
            ∙ ap₂ (λ (m : ℕ) (t : State). event_line s.counts.version m kind rank object (step s kind rank object).answer ++ event_lines t m rest) (sym (add-one n)) (sym e))
            ∙ sym (append_assoc r.text line (event_lines s' (n + 1) rest));
        after =
            r.after ∙ ap (state_after s) (drop_three bytes place h) ∙ state_after_more s kind rank object rest ∙ ap (λ (t : State). state_after t rest) (sym e);
        size = ap length l.stored ∙ length-sets buf end line ∙ r.size;
      }

-- fewer than three bytes are left: the lines of them all are laid
pub run_end : (bytes : List ℕ) (well : Bool) (s₀ s : State) (n₀ n : ℕ) (buf₀ buf : List ℕ) (place end : ℕ) → Run bytes well s₀ s n₀ n buf₀ buf place end → length bytes < place + 3
    → (s ≡ state_after s₀ bytes) × Laid buf₀ buf 0 end (15 * length bytes) (event_lines s₀ n₀ bytes)
run_end bytes well s₀ s n₀ n buf₀ buf place end r h =
    let p = r.inside in
    let few : length (drop place bytes) < 3 = omega (arith, length-drop place bytes) in (
      sym (r.after ∙ state_after_none s (drop place bytes) few),
      laid_is r.laid (sym (r.lines ∙ ap (λ (k : List ℕ). r.text ++ k) (event_lines_none s n (drop place bytes) few) ∙ append-nil r.text)) (omega arith),
    )
