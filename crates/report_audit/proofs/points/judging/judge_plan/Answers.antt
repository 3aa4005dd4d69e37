use Rattle.report_audit.proofs.Common.{both_ways, Planned, Posed, Settings, posed_by, Holds}
use Rattle.report_audit.proofs.lemmas.points.ChosenLemmas.{with_plan}
use Rattle.report_audit.proofs.lemmas.points.VerdictLemmas.{HoldBelow, hold_none, hold_more}
use Rattle.dispatch_engine.specs.declared.outcome.point.Point.TheVariants as point
use Rattle.report_audit.proofs.points.judging.judge_plan.Goals as goal

-- the points before the second hold, and so on
module _ (settings : Settings) (p : Posed) (planned : Planned) where
  first : HoldBelow (λ q. Holds settings q planned p) 1
  first = hold_more (λ q. Holds settings q planned p) point.Answer (hold_none (λ q. Holds settings q planned p)) tt

  second : Holds settings point.Graphs planned p → HoldBelow (λ q. Holds settings q planned p) 2
  second graphs = hold_more (λ q. Holds settings q planned p) point.Graphs first graphs

  third : Holds settings point.Graphs planned p → Holds settings point.Late planned p → HoldBelow (λ q. Holds settings q planned p) 3
  third graphs late = hold_more (λ q. Holds settings q planned p) point.Late (second graphs) late

pub returns-then-not-branch : goal.returns-then-not-branch
returns-then-not-branch c = (
  first c.args.graphs.now.instance.now.settings.now (posed_by c.args.graphs.now) c.args.planned.now,
  λ holds. both_ways _ c.if-not-branch.true (c.in_ok-tells_graphs.ensures.1 holds),
)

pub returns-then-not-branch-2 : goal.returns-then-not-branch-2
returns-then-not-branch-2 c = (
  second c.args.graphs.now.instance.now.settings.now (posed_by c.args.graphs.now) c.args.planned.now (c.in_ok-tells_graphs.ensures.0 c.if-not-branch.false),
  λ holds. both_ways _ c.if-not-branch-2.true (c.in_ok-are_late.ensures.1 (rw c.as_slice.ensures holds)),
)

pub judge_chosen-requires-clause-gives : goal.judge_chosen-requires-clause-gives
judge_chosen-requires-clause-gives c = rw (c.in-Some.is, c.as_slice-2.ensures) at c.in_ok-plan_of_trips.ensures

pub judge_chosen-requires-clause-before : goal.judge_chosen-requires-clause-before
judge_chosen-requires-clause-before c =
    let settings = c.args.graphs.now.instance.now.settings.now in let p = posed_by c.args.graphs.now in let planned = c.args.planned.now in
    let gives = rw (c.in-Some.is, c.as_slice-2.ensures) at c.in_ok-plan_of_trips.ensures in
    hold_more (λ q. Holds settings q planned p) point.Trips
    (third settings p planned (c.in_ok-tells_graphs.ensures.0 c.if-not-branch.false) (rw c.as_slice.ensures at
    (c.in_ok-are_late.ensures.0 c.if-not-branch-2.false)))
    (with_plan settings p planned c.in-Some.plan gives (λ chosen. Unit {0}) tt)

pub left_riders-requires : goal.left_riders-requires
left_riders-requires c =
    let gives = rw (c.in-Some.is, c.as_slice-2.ensures) at c.in_ok-plan_of_trips.ensures in rw c.chosen.ensures gives.plan
