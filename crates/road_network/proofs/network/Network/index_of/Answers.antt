use Rattle.std.proofs.Common.{sym, ◌∙◌}
use Rattle.road_network.proofs.Names.{any_is-Contains, named_at}
use Rattle.road_network.proofs.network.Network.index_of.Goals as goal

pub returns-clause-known : goal.returns-clause-known
returns-clause-known c =
    let known = any_is-Contains c.self.inside.nodes c.args.node in
    let told = rw c.get.ensures.value at c.number_of.ensures.found in
    rw (← c.self.view_is) (λ yes. known.0 (sym told ∙ yes), λ there. told ∙ known.1 there)

pub returns-clause-named : goal.returns-clause-named
returns-clause-named c = rw (← c.self.view_is) (named_at c.number_of.result c.self.inside.nodes c.args.node
    (rw c.get.ensures.value at c.number_of.ensures.number))
