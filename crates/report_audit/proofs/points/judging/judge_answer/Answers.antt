use Rattle.std.proofs.Common.{List, sym, subst, arith}
use Rattle.report_audit.proofs.Common.{
  IfOk-weaker,
  RvEdge,
  IsRvGraph,
  travel_time,
  Answer,
  HasMoreRows,
  IsAnswer,
  AnswersWith,
  HasGraphsWith,
  Posed,
  Holds,
  IsVerdictOf,
}
use Rattle.report_audit.proofs.lemmas.points.GraphLemmas.{graph_or_overflow}
use Rattle.trip_graph.specs.declared.batch.answer.GraphAnswer.{GraphAnswer}
use Rattle.trip_graph.specs.declared.batch.answer.GraphAnswer.TheVariants.{Graph as Grown}
use Rattle.report_audit.proofs.lemmas.points.PosedLemmas.{with_graphs, of_graphs}
use Rattle.report_audit.proofs.lemmas.points.VerdictLemmas.{verdict_of_same}
use Rattle.dispatch_engine.specs.declared.outcome.point.Point.TheVariants as point
use Rattle.report_audit.proofs.points.judging.judge_answer.Goals as goal

pub returns-in-Overflow : goal.returns-in-Overflow
returns-in-Overflow g c =
    let instance = c.args.instance.now in let settings = instance.settings.now in let points = instance.points.now in let tau =
    travel_time instance.times.now in let settled = instance.settled.now in
    let more : HasMoreRows tau settled settings.trip settings.pairs = subst (λ (a : GraphAnswer). IsAnswer settings tau settled a) c.in-Overflow.is
    c.in_ok-grow_graph.ensures in (
      λ q h. absurd (omega arith),
      λ by.
          let with = subst (λ (a : Answer). AnswersWith settings points tau settled (Holds settings point.Answer) a) c.in-Planned.is by in
          graph_or_overflow settings tau settled with.graph with.exact more,
    )

pub returns-in-Overflow-answer-2 : goal.returns-in-Overflow-answer-2
returns-in-Overflow-answer-2 g c =
    let instance = c.args.instance.now in let settings = instance.settings.now in let points = instance.points.now in let tau =
    travel_time instance.times.now in let settled = instance.settled.now in
    let grown : IsAnswer settings tau settled (Grown c.in-Graph.graph c.in-Graph.rv c.in-Graph.rr) =
    subst (λ (a : GraphAnswer). IsAnswer settings tau settled a) c.in-Graph.is c.in_ok-grow_graph.ensures in (
      λ q h. absurd (omega arith),
      λ by. graph_or_overflow settings tau settled c.in-Graph.graph grown.0
          (subst (λ (a : Answer). AnswersWith settings points tau settled (Holds settings point.Answer) a) c.in-Overflow-answer-2.is by),
    )

pub returns : goal.returns
returns g c =
    let instance = c.args.instance.now in let settings = instance.settings.now in let points = instance.points.now in let tau =
    travel_time instance.times.now in let settled = instance.settled.now in
    let planned = c.in-Planned-answer.planned in
    let grown : IsAnswer settings tau settled (Grown c.in-Graph.graph c.in-Graph.rv c.in-Graph.rr) =
    subst (λ (a : GraphAnswer). IsAnswer settings tau settled a) c.in-Graph.is c.in_ok-grow_graph.ensures in
    let p : Posed = record { points = points; tau = tau; settled = settled; graph = c.in-Graph.graph; edges = c.as_slice.result.now; pairs = c.in-Graph.rr } in
    let vehicles = subst (λ (es : List RvEdge). IsRvGraph tau settled es) (sym c.as_slice.ensures) grown.1 in
    IfOk-weaker c.judge_plan.result _ _
    (λ verdict is. subst (λ (a : Answer). IsVerdictOf (λ q. AnswersWith settings points tau settled (Holds settings q) a) verdict) (sym c.in-Planned-answer.is)
    (verdict_of_same (λ q. Holds settings q planned p) (λ q. HasGraphsWith settings points tau settled (Holds settings q planned))
    (λ q. with_graphs settings points tau settled p.graph p.edges p.pairs grown.0 vehicles grown.2 (Holds settings q planned))
    (λ q. of_graphs settings points tau settled p.graph p.edges p.pairs grown.0 vehicles grown.2 (Holds settings q planned)) verdict is))
    c.judge_plan.ensures
