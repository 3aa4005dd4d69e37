use Rattle.std.proofs.Common.{◌≡◌, ◌<◌, ◌++◌, length, slice_index, refl, arith}
use Rattle.std.proofs.lemmas.List.{get_or_read}
use Rattle.road_hierarchy.proofs.build.Checking.{hops_turned, kept_more}
use Rattle.road_hierarchy.proofs.build.check.kept.are_kept.Goals as goal

pub are_hops_kept-requires : goal.are_hops_kept-requires
are_hops_kept-requires c = hops_turned c.args.network.now c.args.draft.now.turns.items c.loop-node.node c.arcs_from.result.now
    c.node_count-node-end.ensures.kept.arcs c.requires c.arcs_from.ensures

pub loop-node-preserved : goal.loop-node-preserved
loop-node-preserved c =
    let inside : c.loop-node.node < length c.args.draft.now.turns.items = omega (arith, c.requires, c.node_count-node-end.ensures.count) in
    let read : c.index.result.now ≡ slice_index c.args.draft.now.turns.items c.loop-node.node =
    get_or_read c.args.draft.now.turns.items c.loop-node.node c.index.result.now inside c.index.ensures 0 in
    kept_more c.args.network.now c.args.draft.now.turns.items (c.args.draft.now.up.items ++ c.args.draft.now.down.items) c.loop-node.node c.index.result.now
    c.arcs_from.result.now inside read c.arcs_from.ensures
    (c.if-not-are_hops_kept.ensures refl) c.loop-node.invariant

pub returns : goal.returns
returns c = λ yes node inside. c.loop-node.invariant node (omega (arith, inside, c.loop-node-test.false, c.node_count-node-end.ensures.count))
