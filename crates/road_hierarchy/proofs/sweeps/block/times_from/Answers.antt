use Rattle.std.proofs.Common.{length, slice_index, subst, arith}
use Rattle.road_network.specs.Walk.{IsTimeBetween}
use Rattle.road_hierarchy.specs.work.sweeps.Sweep.{IsStart, closed_cell}
use Rattle.road_hierarchy.specs.work.sweeps.Lanes.{lane}
use Rattle.road_hierarchy.proofs.sweeps.Laning.{lane_cell_is}
use Rattle.road_hierarchy.proofs.sweeps.Rows.{times_are}
use Rattle.road_hierarchy.proofs.sweeps.block.times_from.Goals as goal

pub returns-clause-times : goal.returns-clause-times
returns-clause-times c = λ network arcs rank known wanted k goal are short lt know inside want.
    let source = slice_index c.args.sources.now k in
    let end = c.sweep-2.new.rows in
    subst (λ x. IsTimeBetween network (slice_index c.args.sources.now k) goal (closed_cell x))
    (lane_cell_is c.sweep-2.new.rows k goal (omega (
      arith,
      inside,
      c.sweep-2.ensures.same_length,
      c.sweep.ensures.same_length,
      c.begin.ensures.same_length,
      c.forget.ensures.same_length,
    )))
    (times_are network arcs rank known wanted c.args.up.now c.args.down.now are (length c.args.rows.now) source (lane k c.begin.new.rows)
    (lane k c.sweep.new.rows) (lane k c.sweep-2.new.rows)
    (subst (λ n. IsStart n (slice_index c.args.sources.now k) (lane k c.begin.new.rows)) c.forget.ensures.same_length (c.begin.ensures.start k lt))
    (c.sweep.ensures.sweeps k (omega (arith, lt, c.requires.few))) (c.sweep-2.ensures.sweeps k (omega (arith, lt, c.requires.few))) c.requires.up_within
    c.requires.down_within
    goal short inside know want)
