use Rattle.std.proofs.Common.{◌≡◌, ◌<◌, length, nat_eq, refl, sym, ◌∙◌, arith, ap, map}
use Rattle.travel_times.proofs.Common.{map_more, All-push, index_in}
use Rattle.travel_times.proofs.table.Tables.{position-is}
use Rattle.std.proofs.lemmas.List.{take_all}
use Rattle.travel_times.proofs.table.table.indexes_of.Goals as goal

pub unwrap-requires : goal.unwrap-requires
unwrap-requires c =
    let within : c.loop-node.node-index < length c.args.nodes.now = omega arith in
    let node = c.node-item.result in
    c.index_of.ensures.known.1 (rw (← c.node-item.is) at (c.requires.known c.loop-node.node-index node within))

pub loop-node-preserved : goal.loop-node-preserved
loop-node-preserved c =
    let within : c.loop-node.node-index < length c.args.nodes.now = omega arith in
    let nodes = c.args.network.now.nodes in
    let node = c.node-item.result in
    let i = c.loop-node.node-index in
    let index : index_in nodes node ≡ c.unwrap.result = position-is (nat_eq node) nodes c.unwrap.result (sym c.index_of.ensures.value ∙ c.unwrap.ensures) in
    let below : c.unwrap.result < length nodes = rw c.unwrap.ensures at c.index_of.ensures.within in (
      rw (c.in_ok-push.ensures.items, c.loop-node.invariant.0, map_more (index_in nodes) c.args.nodes.now i node within, ← c.node-item.is, index) refl,
      rw c.in_ok-push.ensures.items (All-push (λ point. point < length nodes) c.loop-node.points.items c.unwrap.result c.loop-node.invariant.1 below),
    )

pub returns-clause-indexes : goal.returns-clause-indexes
returns-clause-indexes c = c.loop-node.invariant.0 ∙ ap (map (index_in c.args.network.now.nodes))
    (take_all c.loop-node.node-index c.args.nodes.now (omega arith))
