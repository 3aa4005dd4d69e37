use Rattle.std.proofs.Common.{List, [], ◌++◌, map, ap, ◌∙◌, add-one, ◌≡◌, length, subst, arith}
use Rattle.trip_graph.proofs.Common.{get_or_default, RvEdge, TripOf, edges_upto, single_edge}
use Rattle.trip_graph.proofs.Lists.{on_err}
use Rattle.trip_graph.proofs.batch.edges.edges_of.Goals as goal

pub loop-vehicle-preserved : goal.loop-vehicle-preserved
loop-vehicle-preserved c =
    let singles = c.args.singles.now in
    let v = c.loop-vehicle.vehicle in
    let rows = c.index-singles-vehicle.result in
    let read = c.rows.ensures ∙ c.index-singles-vehicle.is ∙ get_or_default singles v rows [] c.loop-vehicle-test.true in
    rw add-one (c.in_ok-add_edges.ensures ∙ ap (λ (es : List RvEdge). es ++ map (single_edge v) c.rows.result.now) c.loop-vehicle.invariant
    ∙ ap (λ (ts : List TripOf). edges_upto singles v ++ map (single_edge v) ts) read)

pub returns-in_err-add_edges : goal.returns-in_err-add_edges
returns-in_err-add_edges c = on_err c.from_residual.result _ c.from_residual.ensures.0

pub returns : goal.returns
returns c =
    let whole : c.loop-vehicle.vehicle ≡ length c.args.singles.now = omega (arith, c.loop-vehicle-test.false, c.loop-vehicle.auto.vehicle-end) in
    subst (λ n. c.loop-vehicle.edges.items ≡ edges_upto c.args.singles.now n) whole c.loop-vehicle.invariant
