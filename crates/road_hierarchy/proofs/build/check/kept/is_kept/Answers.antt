use Rattle.std.proofs.Common.{inr}
use Rattle.std.proofs.lemmas.Bool.{leb-true}
use Rattle.road_hierarchy.proofs.build.check.kept.is_kept.Goals as goal

pub returns-in-Some : goal.returns-in-Some
returns-in-Some c = λ yes. inr (c.in-Some.arc, c.in-Some.ensures.0, c.in-Some.ensures.1, c.in-Some.ensures.2, leb-true c.in-Some.arc.seconds c.args.seconds yes)
