use Rattle.std.proofs.Common.{◌≡◌, ◌≤◌, ◌<◌, All, length, get_or, refl, ◌∙◌, arith}
use Rattle.std.proofs.lemmas.List.{get_or_default, length-set}
use Rattle.road_network.specs.declared.arc.Arc.{Arc}
use Rattle.road_hierarchy.specs.work.sweeps.Sweep.{far}
use Rattle.road_hierarchy.specs.work.sweeps.Lanes.{lane}
use Rattle.road_hierarchy.proofs.sweeps.Sweeping.{swept_none, swept_all}
use Rattle.road_hierarchy.proofs.sweeps.Laning.{blocks_set, lengths_set, swept_lane}
use Rattle.road_hierarchy.proofs.sweeps.lanes.sweep.Goals as goal

pub loop-arc-init : goal.loop-arc-init
loop-arc-init c = record {
  same_length = refl;
  blocks = c.told-rows;
  swept = λ k few. swept_none c.args.arcs.now
      (lane k c.args.rows.now);
  low = c.requires.low;
}

pub loop-arc-preserved : goal.loop-arc-preserved
loop-arc-preserved c =
    let arcs = c.args.arcs.now in
    let i = c.loop-arc.arc-index in
    let now = c.loop-arc.rows in
    let inv = c.loop-arc.invariant in
    let none : Arc = record { from = 0; to = 0; seconds = 0 } in
    let inside : c.loop-arc.arc-index < length c.args.arcs.now = omega arith in
    let arc : Arc = get_or arcs i none in
    let read : get_or arcs i none ≡ get_or arcs i (get_or arcs i none) = get_or_default arcs i none (get_or arcs i none) inside in
    let among = c.requires.within i none inside in
    let from_in : (get_or c.args.arcs.now c.loop-arc.arc-index none).from < length c.loop-arc.rows = omega (arith, among.0, inv.same_length) in
    let to_in : (get_or c.args.arcs.now c.loop-arc.arc-index none).to < length c.loop-arc.rows = omega (arith, among.1, inv.same_length) in
    let wide = inv.blocks (get_or arcs i none).to to_in in
    record {
      same_length = length-set now (get_or arcs i none).to c.lower.new.to ∙ inv.same_length;
      blocks = lengths_set now (get_or arcs i none).to c.lower.new.to inv.blocks (c.lower.ensures.lowers.same_length ∙ wide) to_in;
      swept = λ k few. swept_lane arcs c.requires.turn i c.args.rows.now now c.lower.new.to (get_or arcs i none) k
          (inv.swept k few) inside read from_in to_in few (omega (arith, few, wide)) c.lower.ensures.lowers;
      low = blocks_set (λ b. All (λ cell. cell ≤ far) b) now (get_or arcs i none).to c.lower.new.to inv.low c.lower.ensures.low to_in;
    }

pub returns-clause-sweeps : goal.returns-clause-sweeps
returns-clause-sweeps c = λ k few. swept_all c.args.arcs.now c.loop-arc.arc-index (lane k c.args.rows.now) (lane k c.loop-arc.rows) (omega arith)
    (c.loop-arc.invariant.swept k few)
