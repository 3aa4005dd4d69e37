use Rattle.std.proofs.Common.{◌≡◌, ℕ, List, All, Contains, length, map, sym, ap, ◌∙◌, subst}
use Rattle.std.proofs.lemmas.Result.{IfOk-weaker}
use Rattle.dispatch_engine.proofs.Common.{length-map, travel_time}
use Rattle.dispatch_engine.specs.outcome.Outcome.{AnswersWith, IsGoodOutcome, IsGoodPlan}
use Rattle.road_network.specs.Roads.{Roads, index_in}
use Rattle.travel_times.specs.table.Table.{AreTravelTimes}
use Rattle.dispatch_engine.proofs.lemmas.outcome.PointLemmas.{points_known}
use Rattle.dispatch_engine.proofs.solver.BatchSolver.solve.Goals as goal

pub table-requires-clause-known : goal.table-requires-clause-known
table-requires-clause-known g c =
    let nodes = c.args.self.now.network.now.nodes in
    subst (λ (roads : Roads). All (λ node. Contains roads.nodes node) c.nodes.result.now) (sym c.args.self.now.same_roads)
    (subst (λ (points : List ℕ). All (λ node. Contains nodes node) points) (sym c.nodes.ensures.nodes)
    (points_known c.args.snapshot.now nodes c.in_ok-points.points c.in_ok-points.ensures.points c.requires))

pub settle-requires-clause-table : goal.settle-requires-clause-table
settle-requires-clause-table g c = (rw length-map at c.in_ok-times.ensures.points) ∙ ap length c.nodes.ensures.nodes

pub invariant_of-instance : goal.invariant_of-instance
invariant_of-instance g c = record { table = (rw length-map at c.in_ok-times.ensures.points) ∙ ap length c.nodes.ensures.nodes }

pub outcome_of-requires-after_bounds : goal.outcome_of-requires-after_bounds
outcome_of-requires-after_bounds g c κs within = c.in_ok-settled.ensures.sound

pub returns : goal.returns
returns g c =
    let roads = c.args.self.now.network.now in
    let settings = c.args.self.now.settings.now in
    let times = c.in_ok-times.times in
    let table = subst (λ (of : Roads). AreTravelTimes of.arcs (map (index_in of.nodes) c.nodes.result.now) times) c.args.self.now.same_roads
    c.in_ok-times.ensures in
    IfOk-weaker c.outcome_of.result
    (λ outcome. (outcome.expired ≡ c.args.snapshot.now.expired) × AnswersWith settings c.in_ok-points.points (travel_time times) c.in_ok-settled.settled
    (IsGoodPlan settings) outcome.answer)
    (IsGoodOutcome settings roads c.args.snapshot.now)
    (λ outcome told. record {
      points = c.in_ok-points.points;
      times = times;
      settled = c.in_ok-settled.settled;
      nodes = c.in_ok-points.ensures.points;
      table = subst (λ (points : List ℕ). AreTravelTimes roads.arcs (map (index_in roads.nodes) points) times) c.nodes.ensures.nodes table;
      limits = c.in_ok-settled.ensures.settled;
      expired = told.0;
      answer = told.1;
    })
    c.outcome_of.ensures
