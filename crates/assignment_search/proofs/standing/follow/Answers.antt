use Rattle.std.proofs.Common.{◌<◌, ℕ, true, sym, ap, ◌∙◌, subst}
use Rattle.assignment_search.proofs.Common.{CanBranch, IsSoundNode, coming_after, standing_of, IsPathOf, Node}
use Rattle.plan_rules.proofs.lemmas.PathLemmas.{coming_entered, path_push}
use Rattle.assignment_search.proofs.StandingLemmas.{left_next}
use Rattle.assignment_search.proofs.standing.follow.Goals as goal

pub returns-in_ok-enter-in-Branch-clause-next : goal.returns-in_ok-enter-in-Branch-clause-next
returns-in_ok-enter-in-Branch-clause-next c = λ g usable later e.
    coming_entered g c.args.path.now c.enter.new.self c.in-Branch.vehicle c.in-Branch.row c.in_ok-enter-in-Branch.ensures.ok
    ∙ ap (λ (n : Node). coming_after g (standing_of g c.args.path.now).usable n (standing_of g c.args.path.now).coming) (sym c.in-Branch.is)
    ∙ e

pub returns-in_ok-enter-in-Branch-clause-path : goal.returns-in_ok-enter-in-Branch-clause-path
returns-in_ok-enter-in-Branch-clause-path c = λ g good sound before.
    let can : CanBranch g (standing_of g c.args.path.now).usable c.in-Branch.vehicle c.in-Branch.row =
    subst (IsSoundNode g (standing_of g c.args.path.now).usable) c.in-Branch.is sound in
    let low : c.in-Branch.vehicle < g.vehicles = subst (λ (v : ℕ). v < g.vehicles) can.row.row.own (good.rows c.in-Branch.row can.row.row.within).vehicle in
    subst (IsPathOf g) (sym c.in_ok-enter-in-Branch.ensures.ok)
    (path_push g c.args.path.now (record { vehicle = c.in-Branch.vehicle; row = c.in-Branch.row; alone = true }) before (low, can.row.row))

pub returns-in-Leaf-clause-next : goal.returns-in-Leaf-clause-next
returns-in-Leaf-clause-next c = λ g usable later e.
    left_next g c.leave.result c.args.path.now c.leave.new.self usable later (c.leave.ensures.next g)
    (ap (λ (n : Node). coming_after g (standing_of g c.args.path.now).usable n (standing_of g c.args.path.now).coming) (sym c.in-Leaf.is) ∙ e)

pub returns-in-Leaf-clause-path : goal.returns-in-Leaf-clause-path
returns-in-Leaf-clause-path c = λ g good sound before. c.leave.ensures.path g before

pub returns-in-Dead-clause-next : goal.returns-in-Dead-clause-next
returns-in-Dead-clause-next c = λ g usable later e.
    left_next g c.leave-in-Dead.result c.args.path.now c.leave-in-Dead.new.self usable later (c.leave-in-Dead.ensures.next g)
    (ap (λ (n : Node). coming_after g (standing_of g c.args.path.now).usable n (standing_of g c.args.path.now).coming) (sym c.in-Dead.is) ∙ e)

pub returns-in-Dead-clause-path : goal.returns-in-Dead-clause-path
returns-in-Dead-clause-path c = λ g good sound before. c.leave-in-Dead.ensures.path g before
