use Rattle.std.proofs.Common.{All, Contains, ◌∙◌, sym, subst}
use Rattle.ridepool.proofs.Common.{Roads}
use Rattle.ridepool.proofs.ways.NamedWaysWays.table.Goals as goal

pub table-requires-clause-known : goal.table-requires-clause-known
table-requires-clause-known g c =
    let is = rw c.in-Some.is at c.self.invariant in
    subst (λ (r : Roads). All (λ node. Contains r.nodes node) c.args.nodes.now) (sym (is ∙ c.self.view_is)) c.requires.known

pub table-requires-in-None-clause-known : goal.table-requires-in-None-clause-known
table-requires-in-None-clause-known g c = subst (λ (r : Roads). All (λ node. Contains r.nodes node) c.args.nodes.now) (sym c.self.view_is) c.requires.known
