use Rattle.std.proofs.Common.{◌≡◌, ◌<◌, length, sym}
use Rattle.road_network.proofs.Common.{get_or_read, start_at}
use Rattle.road_network.proofs.Stored.{hops_at-leaving}
use Rattle.road_network.proofs.network.Network.arcs_from.Goals as goal

pub returns : goal.returns
returns c =
    let same = hops_at-leaving (length c.self.inside.nodes) c.args.index c.self.inside.ends.items c.self.inside.hops.items
    (rw (← c.self.view_is) at c.requires) in
    let within : c.args.index < length c.self.inside.ends.items = rw (← c.self.invariant.each) at (rw (← c.self.view_is) at c.requires) in
    let start : c.first_place-start.result ≡ start_at c.self.inside.ends.items c.args.index = rw c.as_slice.ensures.value at c.first_place-start.ensures in
    let end = get_or_read c.self.inside.ends.items c.args.index c.index-end.result.now within c.index-end.ensures 0 in
    rw (← c.self.view_is) (rw (start, end, c.as_slice-2.ensures.value) (sym same))
