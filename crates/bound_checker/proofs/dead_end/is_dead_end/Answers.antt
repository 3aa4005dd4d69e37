use Rattle.std.proofs.Common.{refl, sym, subst}
use Rattle.bound_checker.proofs.Common.{Usable, usable_of, AreSoleRows, MarksStanding}
use Rattle.bound_checker.proofs.DeadEndLemmas.{when_true, when_false, clash_of, no_clash}
use Rattle.plan_rules.proofs.lemmas.ClashLemmas.{dead_where_stranded}
use Rattle.bound_checker.proofs.dead_end.is_dead_end.Goals as goal

pub returns-then-has_clash : goal.returns-then-has_clash
returns-then-has_clash c =
    let g = c.args.graph.now in
    let u : Usable = usable_of c.args.allowed.now in
    let sole = subst (AreSoleRows g u g.vehicles) (sym c.as_slice.ensures.value) c.in_ok-sole.ensures.rows in
    let some = when_true c.has_clash.result _ _ c.if-has_clash.true c.has_clash.ensures in
    (λ _. clash_of g u g.vehicles c.as_slice.result.now some.0 some.1 sole some.2 some.3, λ _. refl)

pub returns : goal.returns
returns c =
    let g = c.args.graph.now in
    let u : Usable = usable_of c.args.allowed.now in
    let sole = subst (AreSoleRows g u g.vehicles) (sym c.as_slice.ensures.value) c.in_ok-sole.ensures.rows in
    let standing = subst (MarksStanding g u _) (sym c.as_slice-2.ensures.value) c.in_ok-standing.ensures in
    let none = when_false c.has_clash.result _ _ c.if-has_clash.false c.has_clash.ensures in
    dead_where_stranded g u c.has_stranded.result (no_clash g u c.as_slice.result.now c.in_ok-sole.ensures.good sole none) (c.has_stranded.ensures u standing)
