-- `loader::write_parts` meets its contract: a turn makes one part more, which the generator does not refuse.
-- Assumes nothing.
use Rattle.std.proofs.Common.{refl, arith}
use Rattle.generator.specs.Load.{made_of}
use Rattle.loader.specs.LoadingLaws.{after_none, made_room, after_made}
use Rattle.loader.proofs.write_parts.Goals as goal

pub loop-loaded-init : goal.loop-loaded-init
loop-loaded-init c =
    record { within = omega arith; size = c.requires.1; after_parts = rw c.requires.2 (after_none _ _ _ _); held = refl }

pub returns-then-not-write_all-clause-parts : goal.returns-then-not-write_all-clause-parts
returns-then-not-write_all-clause-parts c =
    let done = c.loop-loaded.invariant in
    record {
      after_parts =
          after_made c.args.state c.args.loaded.now.seed c.args.count c.loop-loaded.loaded.made c.loop-loaded.loaded.seed c.min-n.result c.args.events.now
          c.loop-loaded.events _ (made_of c.make_events.new.seed c.make_events.result) c.requires.0 done.size c.loop-loaded-test.true (omega arith) c.make_events.ensures done.after_parts;
      whole = refl;
    }

pub loop-loaded-preserved : goal.loop-loaded-preserved
loop-loaded-preserved c =
    let done = c.loop-loaded.invariant in
    record {
      within = omega arith;
      size =
          made_room c.args.state c.args.loaded.now.seed c.args.count c.loop-loaded.loaded.made c.loop-loaded.loaded.seed c.min-n.result c.args.events.now
          c.loop-loaded.events _ (made_of c.make_events.new.seed c.make_events.result) c.requires.0 done.size c.loop-loaded-test.true (omega arith) c.make_events.ensures;
      after_parts =
          after_made c.args.state c.args.loaded.now.seed c.args.count c.loop-loaded.loaded.made c.loop-loaded.loaded.seed c.min-n.result c.args.events.now
          c.loop-loaded.events _ (made_of c.make_events.new.seed c.make_events.result) c.requires.0 done.size c.loop-loaded-test.true (omega arith) c.make_events.ensures done.after_parts;
      held = done.held;
    }
