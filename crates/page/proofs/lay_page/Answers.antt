-- `page::lay_page` meets its contract: by the locks that the ranks name and the ranks that the processors run, as `lines_by_lem` says.
-- Assumes nothing.
use mathlib.Core.Path.{◌≡◌, sym, subst, ap, ◌∙◌}
use mathlib.Core.List.{List}
use Prim.Native.Nat.{ℕ, ◌≤◌}
use lib.ListN.{length}
use Rattle.ranks.specs.Ranks.{minus}
use Rattle.state.specs.declared.State.{State}
use Rattle.state.specs.Lent.{state_in}
use Rattle.inheritance.specs.Inheriting.{NamedBy}
use Rattle.decimals.specs.Laid.{at_front}
use Rattle.page.specs.Page.{page}
use Rattle.page.specs.Parts.{RunsBy, ProcessorsFit, lines_by, lines_by_lem}
use Rattle.page.proofs.lay_page.Goals as goal

lines_are : (s : State) (named running : List ℕ) (awake : ℕ) → ProcessorsFit s.counts s.processor_of → NamedBy named s → awake ≡ minus s.active s.sleeping
    → RunsBy running s.counts named s.processor_of awake s.request
    → lines_by s.counts.jobs s.counts.jobs named running s.processor_of s.active s.sleeping s.request ≡ page s
lines_are s named running awake fit by is runs =
    lines_by_lem s named running by (subst (λ (a : ℕ). RunsBy running s.counts named s.processor_of a s.request) is runs) fit

pub lay_lines-requires : goal.lay_lines-requires
lay_lines-requires c =
    let same = lines_are (state_in c.args.parts.now) _ _ _ c.requires.1 c.named_locks-named.ensures c.minus-awake.ensures c.running_ranks-running.ensures in
    (c.requires.0, c.requires.1, subst (λ (text : List ℕ). length text ≤ length c.args.buf.now) (sym same) c.requires.3)

pub returns : goal.returns
returns c =
    let same = lines_are (state_in c.args.parts.now) _ _ _ c.requires.1 c.named_locks-named.ensures c.minus-awake.ensures c.running_ranks-running.ensures in
    c.lay_lines.ensures ∙ ap (λ (text : List ℕ). at_front text c.args.buf.now) same
