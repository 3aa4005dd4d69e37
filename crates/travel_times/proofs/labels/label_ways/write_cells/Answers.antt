use Rattle.std.proofs.Common.{◌+◌, ◌/◌, ◌%◌, length, slice_index, ◌∙◌, arith}
use Rattle.travel_times.proofs.Common.{IsTimeBetween, length-set}
use Rattle.travel_times.proofs.labels.Lists.{set_more}
use Rattle.travel_times.proofs.labels.label_ways.write_cells.Goals as goal

pub loop-place-preserved : goal.loop-place-preserved
loop-place-preserved c =
    let points = c.args.points.now in
    let start = c.args.start in
    let n = length points in
    let cells = c.loop-place.cells in
    let i = c.loop-place.place in
    let inv = c.loop-place.invariant in
    record {
      even = inv.even;
      size = length-set cells i c.time.result ∙ inv.size;
      times = λ roads of. set_more (λ k x. IsTimeBetween roads.arcs (slice_index points ((start + k) / n)) (slice_index points ((start + k) % n)) x) cells i
          c.time.result (omega (arith, c.loop-place-test.true, inv.size)) (inv.times roads of) (c.time.ensures roads of);
    }
