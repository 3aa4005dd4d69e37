use Rattle.std.proofs.Common.{sym, ◌∙◌}
use Rattle.road_network.proofs.Names.{any_is-Contains}
use Rattle.road_network.proofs.network.Network.has_node.Goals as goal

pub returns : goal.returns
returns c =
    let known = any_is-Contains c.self.inside.nodes c.args.node in
    let told = c.is_some.ensures ∙ (rw c.get.ensures.value at c.number_of.ensures.found) in
    rw (← c.self.view_is) (λ yes. known.0 (sym told ∙ yes), λ there. told ∙ known.1 there)
