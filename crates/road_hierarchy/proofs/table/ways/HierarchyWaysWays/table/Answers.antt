use Rattle.std.proofs.Common.{rules, All, Contains, sym, subst}
use Rattle.road_network.specs.Roads.{Roads}
use Rattle.road_hierarchy.proofs.table.ways.HierarchyWaysWays.table.Goals as goal

pub table_by-requires-clause-known : goal.table_by-requires-clause-known
table_by-requires-clause-known g c κs within = subst (λ (r : Roads). All (λ node. Contains r.nodes node) c.args.nodes.now) (sym c.self.view_is) c.requires.known

pub table-requires-clause-known : goal.table-requires-clause-known
table-requires-clause-known g c =
    let known : All (λ node. Contains c.self.inside.network.now.nodes node) c.args.nodes.now = subst (λ (r : Roads). All
    (λ node. Contains r.nodes node) c.args.nodes.now) (sym c.self.view_is) c.requires.known in
    search (rules, known)
