-- `descriptors::read_part` meets its contract: it reads behind the bytes that are held, and leaves those as they were.
-- Assumes nothing.
use Rattle.std.proofs.Common.{◌-◌, arith}
use Rattle.std.proofs.lemmas.Grind.{common_steps}
use Rattle.descriptors.specs.Reading.{part_fits}
use Rattle.descriptors.proofs.read_part.Goals as goal

pub returns : goal.returns
returns g c =
    let end = c.part_end-end.ensures in
    record {
      room = c.part_end-end.result - c.args.held;
      fits =
          rw c.part_of.ensures
          (part_fits c.read-got.result c.read-got.new.buf _ c.read-got.ensures.bound (omega (arith, c.read-got.auto.buf)));
      inside = omega (arith, end, c.requires);
      size = grind (arith, common_steps);
      kept = grind (arith, common_steps);
    }
