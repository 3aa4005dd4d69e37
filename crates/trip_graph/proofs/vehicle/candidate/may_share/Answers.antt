use Rattle.std.proofs.Common.{◌++◌, ◌∷◌, [], subst, arith}
use Rattle.trip_graph.proofs.Common.{serves}
use Rattle.trip_graph.proofs.lemmas.vehicle.TripSearch.{one_rider}
use Rattle.trip_graph.proofs.vehicle.candidate.may_share.Goals as goal

pub returns-else-riders-ne1 : goal.returns-else-riders-ne1
returns-else-riders-ne1 c = λ no s.
    let one = one_rider c.args.riders.now (omega arith) in
    let yes = c.has_near.ensures.1 (c.requires.edges _ _ (subst (λ v. serves c.args.growth.now (v ++ c.args.rider ∷ [])) one s)) in
    absurd (cc)
