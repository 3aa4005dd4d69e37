use Rattle.report_audit.proofs.lemmas.points.EdgeLemmas.{one_rv_graph, one_rr_graph}
use Rattle.report_audit.proofs.lemmas.points.GraphLemmas.{one_trip_graph}
use Rattle.report_audit.proofs.points.problem_laws.a_batch_has_one_graph_of_each_kind.Goals as goal

pub returns-clause-vehicles : goal.returns-clause-vehicles
returns-clause-vehicles c = λ tau settled edges others is also. one_rv_graph tau settled edges others is also

pub returns-clause-riders : goal.returns-clause-riders
returns-clause-riders c = λ tau settled pairs others is also. one_rr_graph tau settled pairs others is also

pub returns-clause-trips : goal.returns-clause-trips
returns-clause-trips c = λ settings tau settled graph other is also. one_trip_graph settings tau settled graph other is also
