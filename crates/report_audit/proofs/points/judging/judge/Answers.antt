use Rattle.std.proofs.Common.{◌≡◌, ℕ, List, All, Contains, length, map, sym, ap, ◌∙◌, subst, arith}
use Rattle.report_audit.proofs.Common.{
  IfOk-weaker,
  both_ways,
  length-map,
  Batch,
  IsVerdictOf,
  Meets,
  Fails,
  IsKept,
  point_count,
  travel_time,
  Roads,
  index_in,
  AreTravelTimes,
}
use Rattle.dispatch_engine.proofs.lemmas.outcome.PointLemmas.{points_known}
use Rattle.report_audit.proofs.lemmas.points.IdLemmas.{own_ids}
use Rattle.report_audit.proofs.lemmas.points.PosedLemmas.{meets_of, verdict_good}
use Rattle.dispatch_engine.specs.declared.outcome.point.Point.TheVariants as point
use Rattle.report_audit.proofs.points.judging.judge.Goals as goal

pub table-requires-clause-known : goal.table-requires-clause-known
table-requires-clause-known g c =
    let nodes = c.args.network.now.nodes in
    subst (λ (roads : Roads). All (λ node. Contains roads.nodes node) c.nodes.result.now) (sym c.requires.ways)
    (subst (λ (points : List ℕ). All (λ node. Contains nodes node) points) (sym c.nodes.ensures.nodes)
    (points_known c.args.snapshot.now nodes c.in_ok-points.points c.in_ok-points.ensures.points c.requires.nodes))

pub settle-requires-clause-points : goal.settle-requires-clause-points
settle-requires-clause-points g c = c.in_ok-points.ensures.points

pub settle-requires-clause-table : goal.settle-requires-clause-table
settle-requires-clause-table g c = c.in_ok-times.ensures.points ∙ length-map _ _ ∙ ap (λ (ps : List ℕ). length ps) c.nodes.ensures.nodes

pub returns-then-not-are_same_riders : goal.returns-then-not-are_same_riders
returns-then-not-are_same_riders g c =
    let settings = c.args.settings.now in let roads = c.args.network.now in let batch = c.args.snapshot.now in let outcome = c.args.outcome.now in
    let others : outcome.expired ≡ batch.expired → ⊥ = λ same. both_ways _ c.if-not-are_same_riders.true
    (c.are_same_riders.ensures.1 (c.as_slice.ensures ∙ same ∙ sym (c.as_slice-2.ensures ∙ ap (λ (b : Batch). b.expired) c.snapshot.view_is))) in
    let fails : IsVerdictOf (Meets settings roads batch outcome) (Fails point.Answer) = (λ q h. absurd (omega arith), λ meets. others meets.expired) in
    record { points = fails; good = verdict_good settings roads batch outcome (Fails point.Answer) fails }

pub judge_answer-requires-clause-ids : goal.judge_answer-requires-clause-ids
judge_answer-requires-clause-ids g c =
    λ κs lives. own_ids c.args.settings.now c.in_ok-points.points (travel_time c.in_ok-times.times) c.args.snapshot.now c.in_ok-settled.settled
    (subst (λ (b : Batch). IsKept b) c.snapshot.view_is c.snapshot.invariant) c.in_ok-settled.ensures.settled

pub invariant_of-instance : goal.invariant_of-instance
invariant_of-instance g c = record { table = c.in_ok-times.ensures.points ∙ length-map _ _ ∙ ap (λ (ps : List ℕ). length ps) c.nodes.ensures.nodes }

pub judge_answer-requires-clause-sound : goal.judge_answer-requires-clause-sound
judge_answer-requires-clause-sound g c κs within = c.in_ok-settled.ensures.sound

pub returns : goal.returns
returns g c =
    let settings = c.args.settings.now in let roads = c.args.network.now in let batch = c.args.snapshot.now in let outcome = c.args.outcome.now in
    let points = c.in_ok-points.points in let times = c.in_ok-times.times in let settled = c.in_ok-settled.settled in
    let table : AreTravelTimes roads.arcs (map (index_in roads.nodes) points) times = rw (c.requires.ways, c.nodes.ensures.nodes) at c.in_ok-times.ensures in
    let expired : outcome.expired ≡ batch.expired = sym c.as_slice.ensures ∙ c.are_same_riders.ensures.0 c.if-not-are_same_riders.false ∙ c.as_slice-2.ensures ∙
    ap (λ (b : Batch). b.expired) c.snapshot.view_is in
    let meets = meets_of settings roads batch outcome points times settled c.in_ok-points.ensures.points table c.in_ok-settled.ensures.settled expired in
    record {
      points = IfOk-weaker c.judge_answer.result _ _ meets c.judge_answer.ensures;
      good = IfOk-weaker c.judge_answer.result _ _ (λ verdict is. verdict_good settings roads batch outcome verdict (meets verdict is)) c.judge_answer.ensures;
    }
