-- `loader::load` meets its contract, by how it ends: the seed is a number of 32 bits; where a read failed the bytes that came are a cut table; and the
-- parts are written on a state that is well formed as each that the table reader gives. Assumes nothing.
use Rattle.std.proofs.Common.{◌≡◌, ℕ, Result, Err, refl, sym, ap, ap₂, ◌∙◌, arith, rules}
use Rattle.arguments.specs.Numbers.{value_at_most}
use Rattle.state.specs.RefusalNumbers.{refusal_number}
use Rattle.state.specs.WellFormed.{well_formed}
use Rattle.table.specs.Reading.{TableRead}
use Rattle.table.specs.Fresh.{read_refusal, read_well_formed}
use Rattle.loader.specs.declared.LoadError.{LoadError}
use Rattle.loader.specs.Loading.{most_seed}
use Rattle.loader.specs.EndLaws.{loads_none, both_numbers}
use Rattle.loader.proofs.load.Goals as goal

pub overflow_cast-loaded : goal.overflow_cast-loaded
overflow_cast-loaded g c =
    omega (arith, value_at_most most_seed _ c.args.seed_text.now (sym c.in_ok-seed.ensures.ok_part ∙ c.number_in.ensures))

pub returns-in_err-read_bytes : goal.returns-in_err-read_bytes
returns-in_err-read_bytes g c =
    let ended : c.from_residual-in_err-read_bytes.result ≡ Err LoadError.NotRead = search rules in
    let held = c.read_bytes.new.held in
    let seed = c.in_ok-seed.seed in
    let is = ap₂ (λ (e : Result (Unit {0}) LoadError) (made : ℕ). record { ended = e; held = held; made = made; seed = seed }) ended c.requires.unstarted.1 in
    both_numbers _ _ _ _ _ (sym c.number_in.ensures ∙ c.in_ok-seed.ensures.ok_part) (sym c.number_in-2.ensures ∙ c.in_ok-count.ensures.ok_part)
    (loads_none held seed c.in_ok-count.count c.read_bytes.new.bytes c.args.events.now c.in_err-read_bytes.ensures.inside is
    (read_refusal _ ∙ c.in_err-read_bytes.ensures.cut, (refl, refl, refl)))

pub write_parts-requires : goal.write_parts-requires
write_parts-requires g c =
    let is = c.read_table-read.ensures in
    let ok = ap (λ (t : TableRead). t.refusal) (sym is) ∙ ap refusal_number c.in_ok-read.was in
    (ap (λ (t : TableRead). well_formed t.state) is ∙ read_well_formed _ ok, c.requires.room.1, c.requires.unstarted.1)
