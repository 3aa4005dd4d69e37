use Rattle.std.proofs.Common.{All, Contains, sym, subst}
use Rattle.road_network.specs.Roads.{Roads}
use Rattle.calls_bench.proofs.tables.table_of.Goals as goal

pub table-requires-clause-known : goal.table-requires-clause-known
table-requires-clause-known g c =
    subst (λ (roads : Roads). All (λ node. Contains roads.nodes node) c.args.nodes.now) (sym c.requires) (c.are_known.ensures.0 c.if-are_known.true)
