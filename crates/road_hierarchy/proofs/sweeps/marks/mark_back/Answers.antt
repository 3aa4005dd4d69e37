use Rattle.std.proofs.Common.{◌≡◌, ◌+◌, ◌-◌, ◌<◌, length, get_or, subst, arith}
use Rattle.std.proofs.lemmas.List.{get_or_default}
use Rattle.road_network.specs.declared.arc.Arc.{Arc}
use Rattle.road_hierarchy.specs.work.sweeps.Marks.{HasMarkedBack}
use Rattle.road_hierarchy.proofs.sweeps.Marking.{back_none, back_all, back_take, back_skip}
use Rattle.road_hierarchy.proofs.sweeps.marks.mark_back.Goals.{then-marks-arc, else-marks-arc}
use Rattle.road_hierarchy.proofs.sweeps.marks.mark_back.Goals as goal

pub loop-done-init : goal.loop-done-init
loop-done-init c = subst (λ k. HasMarkedBack c.args.arcs.now k c.args.marks.now c.args.marks.now)
    (let e : length c.args.arcs.now ≡ length c.args.arcs.now - 0 = omega arith in e) (back_none c.args.arcs.now c.args.marks.now)

pub loop-done-preserved : goal.loop-done-preserved
loop-done-preserved c =
    let arcs = c.args.arcs.now in
    let place = length c.args.arcs.now - (c.loop-done.done + 1) in
    let before = c.args.marks.now in
    let now = c.loop-done.marks in
    let none : Arc = record { from = 0; to = 0; seconds = 0 } in
    let inside : length c.args.arcs.now - (c.loop-done.done + 1) < length c.args.arcs.now = omega (arith, c.loop-done-test.true) in
    let arc : Arc = get_or arcs (length c.args.arcs.now - 1 - c.loop-done.done) none in
    let next : length c.args.arcs.now - c.loop-done.done ≡ length c.args.arcs.now - (c.loop-done.done + 1) + 1 = omega (arith, c.loop-done-test.true) in
    let at : length c.args.arcs.now - 1 - c.loop-done.done ≡ length c.args.arcs.now - (c.loop-done.done + 1) = omega arith in
    let inv : HasMarkedBack arcs (length c.args.arcs.now - (c.loop-done.done + 1) + 1) before now =
    subst (λ k. HasMarkedBack c.args.arcs.now k c.args.marks.now c.loop-done.marks) next c.loop-done.invariant in
    let read : get_or arcs (length c.args.arcs.now - 1 - c.loop-done.done) none ≡ get_or arcs (length c.args.arcs.now - (c.loop-done.done + 1))
    (get_or arcs (length c.args.arcs.now - 1 - c.loop-done.done) none) =
    subst (λ k. get_or c.args.arcs.now (length c.args.arcs.now - 1 - c.loop-done.done) none ≡ get_or c.args.arcs.now k
    (get_or c.args.arcs.now (length c.args.arcs.now - 1 - c.loop-done.done) none)) at
    (get_or_default arcs (length c.args.arcs.now - 1 - c.loop-done.done) none (get_or arcs (length c.args.arcs.now - 1 - c.loop-done.done) none)
    (omega (arith, at, inside))) in
    let among = c.requires.within (length c.args.arcs.now - 1 - c.loop-done.done) none (omega (arith, at, inside)) in
    let from_in : (get_or c.args.arcs.now (length c.args.arcs.now - 1 - c.loop-done.done) none).from < length c.loop-done.marks = omega
    (arith, among.0, inv.same_length) in
    elim c.if-marks-arc.branch [
      | then-marks-arc w ↦ rw w.marks-is (back_take arcs c.requires.turn place before now inv arc inside read from_in)
      | else-marks-arc w ↦ rw w.marks-is (back_skip arcs c.requires.turn place before now inv arc inside read w.if-marks-arc.false)
    ]

pub returns : goal.returns
returns c = back_all c.args.arcs.now (length c.args.arcs.now - c.loop-done.done) c.args.marks.now c.loop-done.marks (omega arith) c.loop-done.invariant
