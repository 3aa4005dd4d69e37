use Rattle.std.proofs.Common.{◌≡◌, get_or, ◌∙◌}
use Rattle.road_network.proofs.Names.{position-own}
use Rattle.road_network.proofs.network.Network.node_at.Goals as goal

pub returns-clause-indexed : goal.returns-clause-indexed
returns-clause-indexed c =
    let name : c.unwrap.result ≡ c.from.result = rw c.unwrap.ensures at c.new.ensures.value in
    let is : c.unwrap.result ≡ get_or c.self.inside.nodes c.args.index 0 = rw c.names.ensures.names at (name ∙ c.from.ensures) in
    rw (← c.self.view_is) (position-own c.self.inside.nodes c.args.index c.unwrap.result c.names.ensures.distinct (rw (← c.self.view_is) at c.requires) is)
