use Rattle.std.proofs.Common.{◌≡◌, [], ◌∷◌, ◌++◌, length, sym, ap, ◌∙◌, arith}
use Rattle.dispatch_engine.proofs.Common.{is_idle}
use Rattle.dispatch_engine.proofs.lemmas.limits.Promises.{filter_range_below, filter_range_takes, filter_range_skips}
use Rattle.dispatch_engine.proofs.lemmas.outcome.LeftLemmas.{kept_few}
use Rattle.dispatch_engine.proofs.outcome.moves.idle_vehicles.Goals.{then-is_idle+in_ok-push, else-is_idle}
use Rattle.dispatch_engine.proofs.outcome.moves.idle_vehicles.Goals as goal

pub loop-vehicle-preserved : goal.loop-vehicle-preserved
loop-vehicle-preserved c =
    let v = c.loop-vehicle.vehicle in
    let idle = is_idle c.args.settled.now c.args.graph.now c.args.chosen.now in
    elim c.if-is_idle.branch [
      | then-is_idle+in_ok-push w ↦
          rw (w.idle-is, w.in_ok-push.ensures.items)
          (ap (λ vs. vs ++ v ∷ []) c.loop-vehicle.invariant ∙ sym (filter_range_takes idle v (sym c.is_idle.ensures ∙ w.if-is_idle.true)))
      | else-is_idle w ↦ rw w.idle-is (c.loop-vehicle.invariant ∙ sym (filter_range_skips idle v (sym c.is_idle.ensures ∙ w.if-is_idle.false)))
    ]

pub returns-clause-within : goal.returns-clause-within
returns-clause-within c =
    let all = ap length c.as_slice-vehicle-end.ensures in
    let end : c.loop-vehicle.vehicle ≡ length c.args.settled.now.vehicles = omega arith in
    rw (c.loop-vehicle.invariant, end) (filter_range_below (is_idle c.args.settled.now c.args.graph.now c.args.chosen.now) (length c.args.settled.now.vehicles))

pub returns-clause-few : goal.returns-clause-few
returns-clause-few c =
    let all = ap length c.as_slice-vehicle-end.ensures in
    let few = kept_few (is_idle c.args.settled.now c.args.graph.now c.args.chosen.now) c.loop-vehicle.vehicle in
    rw c.loop-vehicle.invariant (omega arith)
