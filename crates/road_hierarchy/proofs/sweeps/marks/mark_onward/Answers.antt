use Rattle.std.proofs.Common.{◌≡◌, ◌<◌, length, get_or, arith}
use Rattle.std.proofs.lemmas.List.{get_or_default}
use Rattle.road_network.specs.declared.arc.Arc.{Arc}
use Rattle.road_hierarchy.proofs.sweeps.Marking.{on_none, on_take, on_skip}
use Rattle.road_hierarchy.proofs.sweeps.marks.mark_onward.Goals.{then-marks-arc, else-marks-arc}
use Rattle.road_hierarchy.proofs.sweeps.marks.mark_onward.Goals as goal

pub loop-arc-init : goal.loop-arc-init
loop-arc-init c = on_none c.args.arcs.now c.args.marks.now

pub loop-arc-preserved : goal.loop-arc-preserved
loop-arc-preserved c =
    let arcs = c.args.arcs.now in
    let i = c.loop-arc.arc-index in
    let inv = c.loop-arc.invariant in
    let none : Arc = record { from = 0; to = 0; seconds = 0 } in
    let inside : c.loop-arc.arc-index < length c.args.arcs.now = omega arith in
    let read : get_or arcs i none ≡ get_or arcs i (get_or arcs i none) = get_or_default arcs i none (get_or arcs i none) inside in
    let among = c.requires.within i none inside in
    let to_in : (get_or c.args.arcs.now c.loop-arc.arc-index none).to < length c.loop-arc.marks = omega (arith, among.1, inv.same_length) in
    elim c.if-marks-arc.branch [
      | then-marks-arc w ↦ rw w.marks-is (on_take arcs c.requires.turn i c.args.marks.now c.loop-arc.marks inv (get_or arcs i none) inside read to_in)
      | else-marks-arc w ↦ rw w.marks-is (on_skip arcs c.requires.turn i c.args.marks.now c.loop-arc.marks inv
          (get_or arcs i none) inside read w.if-marks-arc.false)
    ]
