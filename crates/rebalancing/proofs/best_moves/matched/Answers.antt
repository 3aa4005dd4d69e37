use Rattle.std.proofs.Common.{refl, ◌∙◌}
use Rattle.rebalancing.proofs.best_moves.matched.Goals as goal

pub loop-vehicle-init : goal.loop-vehicle-init
loop-vehicle-init c =
    let made = c.in_ok-matching.ensures in (
      made.priced,
      record {
        few_vehicles = rw made.vehicles c.requires.few_vehicles;
        few_riders = rw made.riders c.requires.few_riders;
        table =
            rw (made.vehicles, made.riders, made.weights) c.requires.table;
      },
      c.in_ok-tree.ensures,
      record { vehicles = refl; riders = refl; weights = refl },
    )

pub loop-vehicle-preserved : goal.loop-vehicle-preserved
loop-vehicle-preserved c =
    let (priced, sized, room, same) = c.loop-vehicle.invariant in
    let done = c.in_ok-insert.ensures in
    let is = done.same in (
      done.priced,
      record {
        few_vehicles = rw is.vehicles sized.few_vehicles;
        few_riders = rw is.riders sized.few_riders;
        table =
            rw (is.vehicles, is.riders, is.weights) sized.table;
      },
      rw (same.riders ∙ c.in_ok-matching.ensures.riders) at done.room,
      record { vehicles = is.vehicles ∙ same.vehicles; riders = is.riders ∙ same.riders; weights = is.weights ∙ same.weights },
    )
