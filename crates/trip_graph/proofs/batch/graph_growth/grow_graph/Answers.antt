use Rattle.std.proofs.Common.{◌≡◌, ℕ, ◌+◌, ◌<◌, List, [], length, get_or, sym, ◌∙◌, subst, arith, rules}
use Rattle.trip_graph.proofs.Common.{get_or_default, point_count, travel_time, IsRvGraph, RvEdge, Settled, TripOf, AreLevels, AreLevelsUpTo}
use Rattle.trip_graph.proofs.batch.SingleEdges.{have_one, rv_of_singles}
use Rattle.trip_graph.proofs.Lists.{on_err}
use Rattle.trip_graph.proofs.batch.graph_growth.grow_graph.Goals as goal

-- the level of one rider, as it is read
singles_of : (tau : ℕ → ℕ → ℕ) (settled : Settled) (sizes : ℕ) (levels : List (List (List TripOf))) (own singles : List (List TripOf)) → 1 < sizes
    → AreLevels tau settled sizes levels → own ≡ get_or levels 1 own → singles ≡ own → AreLevelsUpTo tau settled 1 (length settled.vehicles) singles
singles_of tau settled sizes levels own singles some all read same =
    let lt : 1 < length levels = (let c = all.count in omega arith) in
    subst (λ (l : List (List TripOf)). AreLevelsUpTo tau settled 1 (length settled.vehicles) l) (get_or_default levels 1 [] own lt ∙ sym read ∙ sym same)
    (all.each 1 some)

pub rider_rider-requires : goal.rider_rider-requires
rider_rider-requires g c = c.sound_for_larger.ensures c.args.settings.now.trip 6 (point_count c.args.times.now) (travel_time c.args.times.now)
    c.args.settled.now c.args.settings.now.in_range.trip_range.1 c.requires

pub all_levels-requires-clause-can : goal.all_levels-requires-clause-can
all_levels-requires-clause-can g c κs within = record {
  sound = c.sound_for_larger.ensures c.args.settings.now.trip 6 (point_count c.args.times.now) (travel_time c.args.times.now) c.args.settled.now
      c.args.settings.now.in_range.trip_range.1 c.requires;
  pairs = search rules;
}

pub edges_of-requires : goal.edges_of-requires
edges_of-requires g c =
    let tau = travel_time c.args.times.now in
    let settled = c.args.settled.now in
    let levels = (rw c.if-not-branch.false at c.in_ok-all_levels.ensures).0 in
    have_one tau settled (length settled.vehicles) c.as_slice.result.now
    (singles_of tau settled (c.args.settings.now.trip + 1) c.all_levels.new.levels.items c.index.result.now c.as_slice.result.now
    (let least = c.args.settings.now.in_range.trip_range.0 in omega arith) levels c.index.ensures c.as_slice.ensures)

pub returns : goal.returns
returns g c =
    let tau = travel_time c.args.times.now in
    let settled = c.args.settled.now in
    let levels = (rw c.if-not-branch.false at c.in_ok-all_levels.ensures).0 in
    let rv = rv_of_singles tau settled c.as_slice.result.now
    (singles_of tau settled (c.args.settings.now.trip + 1) c.all_levels.new.levels.items c.index.result.now c.as_slice.result.now
    (let least = c.args.settings.now.in_range.trip_range.0 in omega arith) levels c.index.ensures c.as_slice.ensures) in
    (c.in_ok-graph.ensures, subst (λ (l : List RvEdge). IsRvGraph tau settled l) (sym c.in_ok-rv.ensures ∙ sym c.of.ensures) rv, c.in_ok-rr.ensures)

pub returns-in_err-all_levels : goal.returns-in_err-all_levels
returns-in_err-all_levels g c = on_err c.from_residual-in_err-all_levels.result _ c.from_residual-in_err-all_levels.ensures.0

pub returns-in_err-rv : goal.returns-in_err-rv
returns-in_err-rv g c = on_err c.from_residual-in_err-rv.result _ c.from_residual-in_err-rv.ensures.0

pub graph_of-requires-clause-sound : goal.graph_of-requires-clause-sound
graph_of-requires-clause-sound g c = c.requires

pub returns-in_err-graph : goal.returns-in_err-graph
returns-in_err-graph g c = on_err c.from_residual-in_err-graph.result _ c.from_residual-in_err-graph.ensures.0

pub returns-then-not-branch : goal.returns-then-not-branch
returns-then-not-branch g c =
    let more = rw c.if-not-branch.true at c.in_ok-all_levels.ensures in
    rw c.from-room.ensures at more

pub graph_of-requires-clause-levels : goal.graph_of-requires-clause-levels
graph_of-requires-clause-levels g c =
    let went = rw c.if-not-branch.false at c.in_ok-all_levels.ensures in
    rw c.deref.ensures.value went.0

pub graph_of-requires-clause-few : goal.graph_of-requires-clause-few
graph_of-requires-clause-few g c =
    let went = rw c.if-not-branch.false at c.in_ok-all_levels.ensures in
    rw (c.deref.ensures.value, sym c.from-room.ensures) went.1
