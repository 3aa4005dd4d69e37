use Rattle.std.proofs.Common.{◌<◌, ◌≤◌, ◌∷◌, [], ◌++◌, length, take, ap, ◌∙◌, sym, refl, arith, List}
use Rattle.route_drive.proofs.Common.{headings_of, take_all}
use Rattle.route_drive.specs.declared.course.Heading.{Heading}
use Rattle.route_drive.proofs.EnterLemmas.{headings-more}
use Rattle.route_drive.proofs.places.headings_of.Goals as goal

pub loop-k-preserved : goal.loop-k-preserved
loop-k-preserved c =
    let vehicles = c.args.vehicles.now in
    let courses = c.args.courses.now in
    let before = headings_of c.args.dwell c.args.now (take c.loop-k.k vehicles) (take c.loop-k.k courses) in
    let within : c.loop-k.k < length c.args.vehicles.now = omega arith in
    c.in_ok-push.ensures.items ∙ ap (λ (l : List Heading). l ++ c.heading_of.result ∷ []) c.loop-k.invariant ∙
    ap (λ (h : Heading). before ++ h ∷ []) c.heading_of.ensures
    ∙ sym (headings-more c.args.dwell c.args.now vehicles courses c.loop-k.k c.index-vehicles-k.result c.index-courses-k.result c.requires.same within
    c.index-vehicles-k.is c.index-courses-k.is)

pub returns : goal.returns
returns c =
    let all : length c.args.vehicles.now ≤ c.loop-k.k = omega arith in
    rw (c.loop-k.invariant, take_all c.loop-k.k c.args.vehicles.now all, take_all c.loop-k.k c.args.courses.now (omega (arith, all, c.requires.same))) refl
