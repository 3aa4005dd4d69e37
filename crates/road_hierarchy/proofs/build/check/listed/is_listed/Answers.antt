use Rattle.std.proofs.Common.{◌++◌, Contains, subst}
use Rattle.std.proofs.lemmas.Bool.{eqb-true}
use Rattle.road_hierarchy.proofs.build.Reading.{arc_is}
use Rattle.road_hierarchy.proofs.build.check.listed.is_listed.Goals as goal

pub returns-in-Some : goal.returns-in-Some
returns-in-Some c = λ yes.
    subst (λ x. Contains (c.args.draft.now.up.items ++ c.args.draft.now.down.items) x)
    (arc_is c.in-Some.other c.args.arc c.in-Some.ensures.1 c.in-Some.ensures.2 (eqb-true c.in-Some.other.seconds c.args.arc.seconds yes))
    c.in-Some.ensures.0
