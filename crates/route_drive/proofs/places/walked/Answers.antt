use Rattle.std.proofs.Common.{ap, ◌∙◌, IfOk}
use Rattle.rayon.proofs.ListFacts.{AllZip-weaken}
use Rattle.rayon.proofs.ToStd.{slice-AllZip}
use Rattle.pool_base.specs.declared.memory.OutOfMemory.{OutOfMemory}
use Rattle.route_drive.specs.work.Places.{IsPlaced}
use Rattle.route_drive.proofs.EnterLemmas.{all-ok}
use Rattle.route_drive.proofs.places.walked.Goals as goal

pub returns-in-Ok : goal.returns-in-Ok
returns-in-Ok g c =
    let roads = c.args.arcs.now.network.now in
    let given = rw (c.map_init.ensures.f) at c.in-Ok.ensures.1 in
    let slice = ap (λ it. it.base.slice.now) c.map_init.ensures.base ∙ ap (λ it. it.slice.now) c.with_min_len.ensures.base ∙ c.par_iter.ensures in
    all-ok OutOfMemory (λ v. v.items) (IsPlaced roads c.args.now) c.args.headings.now c.in-Ok.places c.in-Ok.ensures.0 c.in-Ok.ensures.2
    (slice-AllZip given.0 c.args.headings.now (given.1 ∙ slice) (λ h y. IfOk y (IsPlaced roads c.args.now h)) c.in-Ok.ensures.0
    (AllZip-weaken _ (λ z y. IfOk y (IsPlaced roads c.args.now z.now)) (λ z y told. told.2) given.0 c.in-Ok.ensures.0 given.2))
