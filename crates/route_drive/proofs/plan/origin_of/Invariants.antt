use Rattle.std.proofs.Common.{◌≡◌, drop, find, ◌==◌}
use Rattle.route_drive.proofs.Common.{BookRider}
use Rattle.route_drive.proofs.plan.origin_of.Given as goal

abbrev pub invariant-loop-found : goal.invariant-loop-found
invariant-loop-found l = find (λ (r : BookRider). r.id == l.rider) l.riders ≡ find (λ (r : BookRider). r.id == l.rider) (drop l.found-index l.riders)
