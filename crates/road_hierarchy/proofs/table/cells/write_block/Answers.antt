use Rattle.std.proofs.Common.{◌≡◌, ◌+◌, ◌*◌, length, slice_index, ◌∙◌, subst, arith}
use Rattle.road_network.specs.Walk.{IsTimeBetween}
use Rattle.road_hierarchy.specs.work.sweeps.Lanes.{lane_cell}
use Rattle.road_hierarchy.specs.work.sweeps.Sweep.{closed_cell}
use Rattle.road_hierarchy.specs.work.table.Part.{IsWriting, WritesRow}
use Rattle.road_hierarchy.proofs.table.Parting.{GivesTimes, block_cell}
use Rattle.road_hierarchy.proofs.table.Writing.{writing_more}
use Rattle.road_hierarchy.proofs.table.cells.write_block.Goals as goal

pub loop-lane-preserved : goal.loop-lane-preserved
loop-lane-preserved c =
    let points = c.args.points.now in
    let turned = c.args.part.now.turned.items in
    let rows = c.times_from.new.rows in
    let lane = c.loop-lane.lane in
    let first = c.args.from + c.args.rows.0 in
    let end = c.args.from + c.args.rows.0 + c.args.rows.1 in
    let gives : GivesTimes c.args.part.now.up.items c.args.part.now.down.items c.args.part.now.turned.items c.args.part.now.nodes (c.args.from + c.args.rows.0)
    (c.args.from + c.args.rows.0 + c.args.rows.1) c.times_from.new.rows =
    subst (λ n. GivesTimes c.args.part.now.up.items c.args.part.now.down.items c.args.part.now.turned.items n (c.args.from + c.args.rows.0)
    (c.args.from + c.args.rows.0 + c.args.rows.1) c.times_from.new.rows) c.requires.blocks
    (subst (λ t. GivesTimes c.args.part.now.up.items c.args.part.now.down.items t (length c.args.blocks.now) (c.args.from + c.args.rows.0)
    (c.args.from + c.args.rows.0 + c.args.rows.1) c.times_from.new.rows) c.deref-3.ensures.value
    (subst (λ d. GivesTimes c.args.part.now.up.items d c.deref-3.result.now (length c.args.blocks.now) (c.args.from + c.args.rows.0)
    (c.args.from + c.args.rows.0 + c.args.rows.1) c.times_from.new.rows) c.deref-2.ensures.value
    (subst (λ u. GivesTimes u c.deref-2.result.now c.deref-3.result.now (length c.args.blocks.now) (c.args.from + c.args.rows.0)
    (c.args.from + c.args.rows.0 + c.args.rows.1) c.times_from.new.rows) c.deref.ensures.value c.times_from.ensures.times))) in
    let writes : WritesRow c.args.part.now.turned.items c.times_from.new.rows c.loop-lane.lane
    ((c.args.rows.0 + c.loop-lane.lane) * length c.args.points.now) c.loop-lane.cells c.write_row.new.cells =
    subst (λ t. WritesRow t c.times_from.new.rows c.loop-lane.lane ((c.args.rows.0 + c.loop-lane.lane) * length c.args.points.now) c.loop-lane.cells
    c.write_row.new.cells) c.deref-in-loop-lane.ensures.value c.write_row.ensures in
    let next : c.args.rows.0 + c.loop-lane.lane + 1 ≡ c.args.rows.0 + (c.loop-lane.lane + 1) = omega arith in
    let here : c.args.from + c.args.rows.0 + c.loop-lane.lane ≡ c.args.from + (c.args.rows.0 + c.loop-lane.lane) = omega arith in
    record {
      size = c.write_row.ensures.size ∙ c.loop-lane.invariant.size;
      times = λ roads part writing. subst (λ r. IsWriting roads c.args.points.now c.args.from r c.write_row.new.cells) next
          (writing_more roads points turned rows lane c.args.from (c.args.rows.0 + c.loop-lane.lane) c.loop-lane.cells c.write_row.new.cells
          (c.loop-lane.invariant.times roads part writing) c.requires.turned writes
          (λ j hj. subst (λ x. IsTimeBetween roads.arcs (slice_index c.args.points.now x) (slice_index c.args.points.now j)
          (closed_cell (lane_cell c.times_from.new.rows (slice_index c.args.part.now.turned.items j) c.loop-lane.lane))) here
          (block_cell roads points turned c.args.part.now.nodes c.args.part.now.up.items c.args.part.now.down.items part first c.args.rows.1 lane j rows
          c.requires.turned c.requires.within c.loop-lane-test.true hj gives)));
    }
