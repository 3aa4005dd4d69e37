use Rattle.std.proofs.Common.{◌≡◌, ◌+◌, length, slice_index, map, arith}
use Rattle.travel_times.proofs.Common.{AreRows}
use Rattle.travel_times.proofs.table.Tables.{AreRows-append, AreRows-one}
use Rattle.travel_times.proofs.table.plain.cells_of.Goals as goal

pub loop-start-preserved : goal.loop-start-preserved
loop-start-preserved c =
    let points = c.args.points.now in
    let i = c.loop-start.start-index in
    let at : 0 + c.loop-start.start-index ≡ c.loop-start.start-index = omega arith in
    let row : AreRows c.args.network.now.arcs points i 1 (map (λ point. slice_index c.in_ok-seconds.seconds.items point) points) =
    AreRows-one c.args.network.now.arcs points (length c.args.network.now.nodes) i c.in_ok-seconds.seconds.items c.requires.known
    c.in_ok-seconds.ensures.times in
    rw (c.in_ok-push_row.ensures, c.deref.ensures.value)
    (AreRows-append c.args.network.now.arcs points 0 i 1 c.loop-start.cells.items _ c.loop-start.invariant (rw at row))
