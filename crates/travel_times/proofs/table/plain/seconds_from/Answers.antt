use Rattle.std.proofs.Common.{◌≡◌, ℕ, ◌<◌, false, length, slice_index, set, map, replicate, arith, ap}
use Rattle.travel_times.proofs.Common.{
  with_item,
  with_items_is,
  get_or_read,
  get_or-replicate,
  length-replicate,
  never,
  hop_of,
  leaving,
  IsNextTaken,
  RelaxesHops,
}
use Rattle.travel_times.proofs.lemmas.search.SearchLemmas.{
  IsSearching-start,
  IsSearching-step,
  IsTimeBetween-settled,
  IsNextTaken-set,
  hops_among,
  none_waits,
  none_waits_near,
}
use Rattle.travel_times.proofs.table.plain.seconds_from.Goals as goal

pub loop-node-init : goal.loop-node-init
loop-node-init c =
    let roads = c.args.network.now in
    let n = length roads.nodes in (
      rw (c.in_ok-seconds.ensures, c.in_ok-waiting.ensures, c.node_count-nodes.ensures.count)
          (IsSearching-start roads.arcs n c.args.start (replicate n never) (replicate n false) (length-replicate {A = ℕ} n never) (length-replicate n false)
          c.requires
          (λ node h. get_or-replicate {A = ℕ} n node never 0 h) (none_waits n)),
      c.node_count-nodes.ensures.kept,
    )

pub relax-requires-clause-hops : goal.relax-requires-clause-hops
relax-requires-clause-hops c =
    rw (c.deref_mut.ensures.value, c.loop-node.invariant.0.seconds_length, c.arcs_from.ensures)
    (hops_among c.args.network.now.arcs (length c.args.network.now.nodes) c.in-Some.node c.loop-node.invariant.1.arcs)

pub loop-node-preserved : goal.loop-node-preserved
loop-node-preserved c =
    let s = c.loop-node.seconds in
    let w = c.loop-node.waiting in
    let roads = c.args.network.now in
    let n = length roads.nodes in
    let inv = c.loop-node.invariant.0 in
    let node = c.in-Some.node in
    let some = rw c.deref.ensures.value at c.in-Some.ensures.some in
    let taken : IsNextTaken w.items (set w.items node false) node = IsNextTaken-set w.items node some.0 some.1 in
    let within : c.in-Some.node < length c.loop-node.seconds.items =
    let a : length c.loop-node.seconds.items ≡ length c.args.network.now.nodes = inv.seconds_length in
    let b : length c.loop-node.waiting.items ≡ length c.args.network.now.nodes = inv.waiting_length in
    let d : c.in-Some.node < length c.loop-node.waiting.items = taken.within in
    omega arith in
    let here : c.index-here.result.now ≡ slice_index s.items node = get_or_read s.items node c.index-here.result.now within c.index-here.ensures 0 in
    let relaxes : RelaxesHops (map hop_of (leaving node roads.arcs)) (length (map hop_of (leaving node roads.arcs))) (slice_index s.items node) s.items
    (set w.items node false) c.relax.new.seconds c.relax.new.waiting =
    rw (c.arcs_from.ensures, here, c.deref_mut.ensures.value, c.deref_mut-in-Some.ensures.value) at c.relax.ensures in
    let seconds_length : length c.relax.new.seconds ≡ s.len = omega (arith, relaxes.seconds_length, s.ok.0) in
    let waiting_length : length c.relax.new.waiting ≡ w.len = omega (arith, relaxes.waiting_length, taken.same_length, w.ok.0) in (
      rw (with_items_is s c.relax.new.seconds seconds_length, with_items_is (with_item w node false) c.relax.new.waiting waiting_length)
          (IsSearching-step roads.arcs n c.args.start node s.items c.relax.new.seconds w.items (set w.items node false) c.relax.new.waiting
          c.loop-node.invariant.1.arcs inv taken relaxes),
      c.loop-node.invariant.1,
    )

pub returns-clause-times : goal.returns-clause-times
returns-clause-times c =
    let roads = c.args.network.now in
    IsTimeBetween-settled roads.arcs (length roads.nodes) c.args.start c.loop-node.seconds.items c.loop-node.waiting.items c.loop-node.invariant.1.arcs
    c.loop-node.invariant.1.few_nodes c.loop-node.invariant.0
    (none_waits_near c.loop-node.seconds.items c.loop-node.waiting.items c.loop-node.invariant.0.reached
    (rw (c.deref.ensures.value, c.deref-in-loop-node.ensures.value) at c.in_default.ensures.none))

pub index_mut-requires : goal.index_mut-requires
index_mut-requires c = omega (
  arith,
  ap length c.in_ok-seconds.ensures,
  length-replicate {A = ℕ} c.node_count-nodes.result never,
  c.requires,
  c.node_count-nodes.ensures.count,
)

pub index_mut-requires-2 : goal.index_mut-requires-2
index_mut-requires-2 c = omega (
  arith,
  ap length c.in_ok-waiting.ensures,
  length-replicate c.node_count-nodes.result false,
  c.requires,
  c.node_count-nodes.ensures.count,
)

pub relax-requires-clause-short : goal.relax-requires-clause-short
relax-requires-clause-short c =
    let inv = c.loop-node.invariant.0 in
    let node = c.in-Some.node in
    let some = rw c.deref.ensures.value at c.in-Some.ensures.some in
    let within : c.in-Some.node < length c.loop-node.seconds.items = omega (arith, some.0, inv.seconds_length, inv.waiting_length) in
    rw (get_or_read c.loop-node.seconds.items node c.index-here.result.now within c.index-here.ensures 0) (inv.reached node some.1)

pub loop-node-smaller : goal.loop-node-smaller
loop-node-smaller c =
    let s = c.loop-node.seconds in
    let w = c.loop-node.waiting in
    let node = c.in-Some.node in
    let some = rw c.deref.ensures.value at c.in-Some.ensures.some in
    let taken : IsNextTaken w.items (set w.items node false) node = IsNextTaken-set w.items node some.0 some.1 in
    let less = rw (c.deref_mut.ensures.value, c.deref_mut-in-Some.ensures.value) at c.relax.ensures.less in
    let seconds_length : length c.relax.new.seconds ≡ s.len = omega (arith, c.relax.ensures.seconds_length, ap length c.deref_mut.ensures.value, s.ok.0) in
    let waiting_length : length c.relax.new.waiting ≡ w.len = omega (
      arith,
      c.relax.ensures.waiting_length,
      ap length c.deref_mut-in-Some.ensures.value,
      taken.same_length,
      w.ok.0,
    ) in
    rw (with_items_is s c.relax.new.seconds seconds_length, with_items_is (with_item w node false) c.relax.new.waiting waiting_length)
    (omega (arith, less, taken.fewer))
