use Rattle.std.proofs.Common.{◌≡◌, ◌≤◌, ◌<◌, ℕ, List, Contains, length, slice_index, ap, subst, arith}
use Rattle.std.proofs.lemmas.List.{get_or_read}
use Rattle.road_network.specs.declared.hop.Hop.{Hop}
use Rattle.road_hierarchy.proofs.build.Checking.{given_of, hops_turned}
use Rattle.road_hierarchy.proofs.build.check.backed.is_given.Goals as goal

pub has_hop-requires : goal.has_hop-requires
has_hop-requires c = λ k d inside.
    let turned = hops_turned c.args.network.now c.args.draft.now.turns.items c.in-Some.node.now c.arcs_from.result.now c.node_count.ensures.kept.arcs
    c.requires c.arcs_from.ensures k d inside in
    omega (arith, turned, ap (λ (turns : List ℕ). length turns) c.deref-2.ensures.value)

pub returns : goal.returns
returns c = λ yes.
    let inside : c.in-Some.node.now < length c.args.draft.now.turns.items = omega (arith, c.requires, c.node_count.ensures.count, c.if-node-node_count.false) in
    let read : c.index.result.now ≡ slice_index c.args.draft.now.turns.items c.in-Some.node.now =
    get_or_read c.args.draft.now.turns.items c.in-Some.node.now c.index.result.now inside c.index.ensures 0 in
    let turn : slice_index c.args.draft.now.turns.items c.in-Some.node.now ≡ c.args.arc.from = omega (arith, read, c.if-index-arc.false) in
    let found : (hop : Hop) × Contains c.arcs_from.result.now hop × (slice_index c.args.draft.now.turns.items hop.to ≡ c.args.arc.to) ×
    (hop.seconds ≤ c.args.arc.seconds) =
    subst (λ (turns : List ℕ). (hop : Hop) × Contains c.arcs_from.result.now hop × (slice_index turns hop.to ≡ c.args.arc.to) ×
    (hop.seconds ≤ c.args.arc.seconds)) c.deref-2.ensures.value (c.has_hop.ensures yes) in
    given_of c.args.network.now c.args.draft.now.turns.items c.in-Some.node.now c.arcs_from.result.now c.args.arc c.node_count.ensures.kept.arcs c.requires
    inside c.arcs_from.ensures turn found
