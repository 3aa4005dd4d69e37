use Rattle.std.proofs.Common.{◌≡◌, ◌<◌, ◌≤◌, length, slice_index, arith}
use Rattle.route_drive.proofs.Common.{never}
use Rattle.route_drive.proofs.TreeLemmas.{IsGrowing-start, IsGrowing-more, start_is_near, is_found}
use Rattle.route_drive.proofs.tree.shortest_tree.Goals as goal

pub loop-next-init : goal.loop-next-init
loop-next-init c =
    let roads = c.args.network.now in
    let kept = c.node_count.ensures.kept in
    let zero : slice_index c.args.times.now c.args.start ≡ 0 = start_is_near roads.arcs (length roads.nodes) c.args.start c.args.goal c.args.times.now kept.arcs
    kept.few_nodes c.requires.start c.requires.goal c.requires.times in
    let near : slice_index c.args.times.now c.args.start < never = rw zero (omega arith) in
    rw (c.in_ok-begin.ensures.seen, c.in_ok-begin.ensures.found, c.node_count.ensures.count)
    (IsGrowing-start c.args.network.now.arcs c.args.times.now c.args.start (slice_index c.args.times.now c.args.goal) (length c.args.network.now.nodes)
    c.requires.size c.requires.start near)

pub loop-next-preserved : goal.loop-next-preserved
loop-next-preserved c =
    IsGrowing-more c.args.network.now.arcs c.args.times.now c.args.start (slice_index c.args.times.now c.args.goal) c.loop-next.next c.loop-next.tree.seen.items
    c.open.new.tree.seen.items c.loop-next.tree.found.items c.open.new.tree.found.items (let t = c.loop-next-test.true in let e = c.len.ensures in let ok =
    c.loop-next.tree.found.ok.0 in omega (arith, t, e, ok)) c.loop-next.invariant
    c.in_ok-open.ensures.0 c.in_ok-open.ensures.1 c.in_ok-open.ensures.2

pub returns : goal.returns
returns c =
    let roads = c.args.network.now in
    let kept = c.node_count.ensures.kept in
    let inv = c.loop-next.invariant in
    let all : length c.loop-next.tree.found.items ≤ c.loop-next.next = (let t = c.loop-next-test.false in let e = c.len.ensures in let ok =
    c.loop-next.tree.found.ok.0 in omega (arith, t, e, ok)) in (
      inv.tree,
      inv.first,
      is_found roads.arcs (length roads.nodes) c.args.start c.args.goal c.args.times.now kept.arcs kept.few_nodes c.requires.start c.requires.goal
          c.requires.times c.loop-next.tree.seen.items c.loop-next.tree.found.items
          (record { tree = inv.tree; first = inv.first; opened = λ k lt h. inv.opened k (omega (arith, all)) h }) c.requires.near,
    )
