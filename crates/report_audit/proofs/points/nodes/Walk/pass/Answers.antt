use Rattle.std.proofs.Common.{◌<◌, ℕ, Bool, true, sym, ap, ◌∙◌, subst}
use Rattle.report_audit.proofs.Common.{IsPathOf, standing_of, IsSoundNode, coming_after, CanBranch, Node, coming_of, coming_entered, path_push}
use Rattle.report_audit.proofs.points.nodes.Walk.pass.Goals as goal

pub returns-in_ok-enter-in-Branch-clause-next : goal.returns-in_ok-enter-in-Branch-clause-next
returns-in_ok-enter-in-Branch-clause-next c = λ g.
    let old = c.args.self.now.path in
    ap (λ (b : Bool). coming_of g b c.enter.new.self) c.requires
    ∙ coming_entered g old c.enter.new.self c.in-Branch.vehicle c.in-Branch.row c.in_ok-enter-in-Branch.ensures.ok
    ∙ ap (λ (n : Node). coming_after g (standing_of g old).usable n (standing_of g old).coming) (sym c.in-Branch.is)

pub returns-in_ok-enter-in-Branch-clause-path : goal.returns-in_ok-enter-in-Branch-clause-path
returns-in_ok-enter-in-Branch-clause-path c = λ g good sound path.
    let old = c.args.self.now.path in
    let v = c.in-Branch.vehicle in let k = c.in-Branch.row in
    let can : CanBranch g (standing_of g old).usable v k = subst (λ (n : Node). IsSoundNode g (standing_of g old).usable n) c.in-Branch.is sound in
    let row = can.row.row in
    let there : v < g.vehicles = subst (λ (w : ℕ). w < g.vehicles) row.own (good.rows k row.within).vehicle in
    subst (IsPathOf g) (sym c.in_ok-enter-in-Branch.ensures.ok) (path_push g old (record { vehicle = v; row = k; alone = true }) path (there, row))

pub returns-in-Leaf-clause-path : goal.returns-in-Leaf-clause-path
returns-in-Leaf-clause-path c = λ g good sound path. c.leave.ensures.path g path

pub returns-in-Dead-clause-path : goal.returns-in-Dead-clause-path
returns-in-Dead-clause-path c = λ g good sound path. c.leave-in-Dead.ensures.path g path
