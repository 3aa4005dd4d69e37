use Rattle.std.proofs.Common.{◌≡◌, ℕ, ◌<◌, false, length, slice_index, map, replicate, ◌∙◌, arith, ap}
use Rattle.travel_times.proofs.Common.{
  with_items,
  with_items_is,
  get_or_read,
  get_or-replicate,
  length-replicate,
  never,
  hop_of,
  leaving,
  reach,
  IsNextTaken,
  RelaxesHops,
}
use Rattle.travel_times.proofs.lemmas.search.SearchLemmas.{AreTimesUpTo-settled, IsSearching-start, IsSearching-step, hops_among, none_waits, reach_short}
use Rattle.travel_times.proofs.search.search.Search.run.Goals as goal

pub loop-node-init : goal.loop-node-init
loop-node-init c =
    let roads = c.args.arcs.now.network.now in
    let n = length roads.nodes in (
      rw (c.in_ok-begin.ensures.seconds, c.in_ok-begin.ensures.waiting, c.node_count-nodes.ensures.count)
          (IsSearching-start roads.arcs n c.args.start (replicate n never) (replicate n false) (length-replicate {A = ℕ} n never) (length-replicate n false)
          c.requires.start
          (λ node h. get_or-replicate {A = ℕ} n node never 0 h) (none_waits n)),
      c.node_count-nodes.ensures.kept,
    )

pub reach-requires : goal.reach-requires
reach-requires c = rw (c.deref-in-loop-node.ensures.value, c.loop-node.invariant.0.seconds_length) c.requires.goal

pub relax-requires-clause-hops : goal.relax-requires-clause-hops
relax-requires-clause-hops c =
    let taken : IsNextTaken c.loop-node.self.waiting.items c.next_near.new.waiting c.in-Some.node = rw c.deref_mut.ensures.value at c.in-Some.ensures.some in
    let below : c.in-Some.node < length c.args.arcs.now.network.now.nodes = (let b = c.loop-node.invariant.0.waiting_length in let d =
    taken.within in omega (arith, b, d)) in
    rw (c.deref_mut-in-Some.ensures.value, c.loop-node.invariant.0.seconds_length, c.leaving.ensures, c.args.arcs.now.copied.placed c.in-Some.node below)
    (hops_among c.args.arcs.now.network.now.arcs (length c.args.arcs.now.network.now.nodes) c.in-Some.node c.loop-node.invariant.1.arcs)

pub loop-node-preserved : goal.loop-node-preserved
loop-node-preserved c =
    let s = c.loop-node.self in
    let roads = c.args.arcs.now.network.now in
    let n = length roads.nodes in
    let inv = c.loop-node.invariant.0 in
    let node = c.in-Some.node in
    let taken : IsNextTaken s.waiting.items c.next_near.new.waiting node = rw c.deref_mut.ensures.value at c.in-Some.ensures.some in
    let waiting_length : length c.next_near.new.waiting ≡ s.waiting.len = omega (arith, taken.same_length, s.waiting.ok.0) in
    let below : c.in-Some.node < length c.args.arcs.now.network.now.nodes = (let b = inv.waiting_length in let d = taken.within in omega (arith, b, d)) in
    let within : c.in-Some.node < length c.loop-node.self.seconds.items =
    let a : length c.loop-node.self.seconds.items ≡ length c.args.arcs.now.network.now.nodes = inv.seconds_length in
    let b : length c.loop-node.self.waiting.items ≡ length c.args.arcs.now.network.now.nodes = inv.waiting_length in
    let d : c.in-Some.node < length c.loop-node.self.waiting.items = taken.within in
    omega arith in
    let here : c.index-here.result.now ≡ slice_index s.seconds.items node = get_or_read s.seconds.items node c.index-here.result.now within c.index-here.ensures
    0 in
    let waiting_is : c.deref_mut-in-Some-2.result.now ≡ c.next_near.new.waiting = c.deref_mut-in-Some-2.ensures.value ∙
    with_items_is s.waiting c.next_near.new.waiting waiting_length in
    let relaxes : RelaxesHops (map hop_of (leaving node roads.arcs)) (length (map hop_of (leaving node roads.arcs))) (slice_index s.seconds.items node)
    s.seconds.items c.next_near.new.waiting c.relax.new.seconds c.relax.new.waiting =
    rw (c.leaving.ensures, c.args.arcs.now.copied.placed node below, here, c.deref_mut-in-Some.ensures.value, waiting_is) at c.in_ok-relax.ensures.relaxes in
    let seconds_length : length c.relax.new.seconds ≡ s.seconds.len = omega (arith, relaxes.seconds_length, s.seconds.ok.0) in
    let waiting_length' : length c.relax.new.waiting ≡ s.waiting.len = omega (arith, relaxes.waiting_length, waiting_length) in (
      rw (
        with_items_is s.seconds c.relax.new.seconds seconds_length,
        with_items_is (with_items s.waiting c.next_near.new.waiting) c.relax.new.waiting
            waiting_length',
      )
          (IsSearching-step roads.arcs n c.args.start node s.seconds.items c.relax.new.seconds s.waiting.items c.next_near.new.waiting c.relax.new.waiting
          c.loop-node.invariant.1.arcs inv taken relaxes),
      c.loop-node.invariant.1,
    )

pub returns-clause-times : goal.returns-clause-times
returns-clause-times c =
    let s = c.loop-node.self in
    let roads = c.args.arcs.now.network.now in
    let inv = c.loop-node.invariant.0 in
    let same : c.next_near.new.waiting ≡ s.waiting.items = c.in_default.ensures.unchanged ∙ c.deref_mut.ensures.value in
    let most = rw c.deref-in-loop-node.ensures.value at c.reach.ensures in
    AreTimesUpTo-settled roads.arcs (length roads.nodes) c.args.start (reach c.args.goal s.seconds.items) s.seconds.items s.waiting.items
    c.loop-node.invariant.1.arcs c.loop-node.invariant.1.few_nodes inv
    (reach_short roads.arcs (length roads.nodes) c.args.start s.seconds.items s.waiting.items c.args.goal inv c.requires.goal)
    (λ node waiting. rw (most, c.deref.ensures.value) at (c.in_default.ensures.none node (rw same waiting)))

pub index_mut-requires : goal.index_mut-requires
index_mut-requires c = omega (
  arith,
  ap length c.in_ok-begin.ensures.seconds,
  length-replicate {A = ℕ} c.node_count-nodes.result never,
  c.requires.start,
  c.node_count-nodes.ensures.count,
)

pub index_mut-requires-2 : goal.index_mut-requires-2
index_mut-requires-2 c = omega (
  arith,
  ap length c.in_ok-begin.ensures.waiting,
  length-replicate c.node_count-nodes.result false,
  c.requires.start,
  c.node_count-nodes.ensures.count,
)

pub relax-requires-clause-short : goal.relax-requires-clause-short
relax-requires-clause-short c =
    let s = c.loop-node.self in
    let inv = c.loop-node.invariant.0 in
    let node = c.in-Some.node in
    let taken : IsNextTaken s.waiting.items c.next_near.new.waiting node = rw c.deref_mut.ensures.value at c.in-Some.ensures.some in
    let within : c.in-Some.node < length c.loop-node.self.seconds.items = omega (arith, taken.within, inv.seconds_length, inv.waiting_length) in
    rw (get_or_read s.seconds.items node c.index-here.result.now within c.index-here.ensures 0) (inv.reached node taken.waited)

pub loop-node-smaller : goal.loop-node-smaller
loop-node-smaller c =
    let s = c.loop-node.self in
    let taken : IsNextTaken s.waiting.items c.next_near.new.waiting c.in-Some.node = rw c.deref_mut.ensures.value at c.in-Some.ensures.some in
    let waiting_length : length c.next_near.new.waiting ≡ s.waiting.len = omega (arith, taken.same_length, s.waiting.ok.0) in
    let waiting_is : c.deref_mut-in-Some-2.result.now ≡ c.next_near.new.waiting = c.deref_mut-in-Some-2.ensures.value ∙
    with_items_is s.waiting c.next_near.new.waiting waiting_length in
    let less = rw (c.deref_mut-in-Some.ensures.value, waiting_is) at c.in_ok-relax.ensures.relaxes.less in
    let seconds_length : length c.relax.new.seconds ≡ s.seconds.len = omega (
      arith,
      c.in_ok-relax.ensures.seconds_length,
      ap length
          c.deref_mut-in-Some.ensures.value,
      s.seconds.ok.0,
    ) in
    let waiting_length' : length c.relax.new.waiting ≡ s.waiting.len = omega (arith, c.in_ok-relax.ensures.waiting_length, ap length waiting_is, waiting_length)
    in
    rw (
      with_items_is s.seconds c.relax.new.seconds seconds_length,
      with_items_is (with_items s.waiting c.next_near.new.waiting) c.relax.new.waiting
          waiting_length',
    )
    (omega (arith, less, taken.fewer))
