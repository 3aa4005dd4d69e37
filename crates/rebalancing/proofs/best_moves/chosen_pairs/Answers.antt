use Rattle.rebalancing.proofs.Choosing.{IsChosen-skip, IsChosen-push}
use Rattle.rebalancing.proofs.best_moves.chosen_pairs.Goals.{in-Some+in_ok-push, in_default}
use Rattle.rebalancing.proofs.best_moves.chosen_pairs.Goals as goal

pub loop-vehicle-preserved : goal.loop-vehicle-preserved
loop-vehicle-preserved c =
    let s = c.args.matching.now in
    elim c.match-chosen.branch [
      | in-Some+in_ok-push w ↦
          let some = w.in-Some.ensures.some in
          rw (w.pairs-is, w.in_ok-push.ensures.items) (IsChosen-push s c.loop-vehicle.vehicle w.in-Some.rider c.loop-vehicle.pairs.items some.0 some.1 some.2
          c.loop-vehicle.invariant)
      | in_default w ↦ rw w.pairs-is (IsChosen-skip s c.loop-vehicle.vehicle c.loop-vehicle.pairs.items w.in_default.ensures.none c.loop-vehicle.invariant)
    ]
