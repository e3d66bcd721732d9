-- `recorder::take_steps` meets its contract: the second step goes over the bytes that the first left, and lays its lines behind the first's.
-- Assumes nothing.
use Rattle.std.proofs.Common.{arith, length-drop}
use Rattle.recorder.proofs.StepLaws.{taken_within, taken_room, taken_fits, taken_count, length_rest, both_within, both_room, steps_taken}
use Rattle.recorder.proofs.take_steps.Goals as goal

pub slice_bounds-advance-count : goal.slice_bounds-advance-count
slice_bounds-advance-count c = taken_within c.args.bench c.args.bytes.now _ _ _ _ c.advance-first.ensures

pub slice_bounds-advance-start : goal.slice_bounds-advance-start
slice_bounds-advance-start c = taken_within c.args.bench c.args.bytes.now _ _ _ _ c.advance-first.ensures

pub slice_bounds-advance-count-2 : goal.slice_bounds-advance-count-2
slice_bounds-advance-count-2 c = taken_fits c.args.bench c.args.bytes.now _ _ _ _ c.advance-first.ensures c.requires.0

pub slice_bounds-advance-start-2 : goal.slice_bounds-advance-start-2
slice_bounds-advance-start-2 c = taken_fits c.args.bench c.args.bytes.now _ _ _ _ c.advance-first.ensures c.requires.0

pub overflow_add-result : goal.overflow_add-result
overflow_add-result c =
    let within = both_within c.args.bench c.args.bytes.now _ _ _ _ _ _ _ c.advance-first.ensures c.advance-second.ensures in
    omega (arith, within, c.requires)

pub overflow_add-result-2 : goal.overflow_add-result-2
overflow_add-result-2 c =
    let within = both_within c.args.bench c.args.bytes.now _ _ _ _ _ _ _ c.advance-first.ensures c.advance-second.ensures in
    let room = both_room c.args.bench c.args.bytes.now _ _ _ _ _ _ _ c.advance-first.ensures c.advance-second.ensures in
    omega (arith, within, room, c.requires)

pub returns : goal.returns
returns c =
    let bytes = c.args.bytes.now in
    let p = c.requires in
    let one = c.advance-first.ensures in
    let two = c.advance-second.ensures in
    let within = taken_within c.args.bench bytes _ _ _ _ one in
    let room = taken_room c.args.bench bytes _ _ _ _ one in
    let count = taken_count c.args.bench bytes _ _ _ _ one in
    let size = length_rest c.advance-first.new.lines c.advance-first.result.laid in
    let rest = length-drop c.advance-first.result.used bytes in
    steps_taken c.args.bench bytes _ _ _ _ _ _ _ one two (omega (arith, p)) (omega (arith, p)) (omega (arith, p, within, room, count, size, rest)) (omega (arith, p, within, room, count, size, rest)) (omega (arith, p))
