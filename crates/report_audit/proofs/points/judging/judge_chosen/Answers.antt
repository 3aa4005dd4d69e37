use Rattle.report_audit.proofs.Common.{both_ways, IsBestNear, AreMoves, idle_vehicles, TellsPlan, posed_by, Holds, left_riders}
use Rattle.report_audit.proofs.lemmas.points.ChosenLemmas.{with_plan, at_plan, up_to_plan, up_to_bound, up_to_tree}
use Rattle.report_audit.proofs.lemmas.points.VerdictLemmas.{hold_more, hold_all}
use Rattle.dispatch_engine.specs.declared.outcome.point.Point.TheVariants as point
use Rattle.report_audit.proofs.points.judging.judge_chosen.Goals as goal

pub returns-then-not-branch : goal.returns-then-not-branch
returns-then-not-branch c =
    let settings = c.args.graphs.now.instance.now.settings.now in let p = posed_by c.args.graphs.now in let settled = p.settled in let graph =
    p.graph in let plan = c.args.plan.now in let planned = c.args.planned.now in (
      c.requires.before,
      λ holds. both_ways _ c.if-not-branch.true
          (c.in_ok-tells_plan.ensures.1 (at_plan settings p planned plan c.requires.gives (λ chosen. TellsPlan settled graph chosen planned) holds)),
    )

pub returns-then-not-branch-2 : goal.returns-then-not-branch-2
returns-then-not-branch-2 c = (
  up_to_plan c.args.graphs.now.instance.now.settings.now (posed_by c.args.graphs.now) c.args.planned.now c.args.plan.now c.requires.gives c.requires.before
      (c.in_ok-tells_plan.ensures.0 c.if-not-branch.false),
  λ holds. both_ways _ c.if-not-branch-2.true (c.in_ok-shows_bound.ensures.1 holds),
)

pub is_well_shown-requires : goal.is_well_shown-requires
is_well_shown-requires c = c.in_ok-shows_bound.ensures.0 c.if-not-branch-2.false

pub returns-then-not-branch-3 : goal.returns-then-not-branch-3
returns-then-not-branch-3 c = (
  up_to_bound c.args.graphs.now.instance.now.settings.now (posed_by c.args.graphs.now) c.args.planned.now c.args.plan.now c.requires.gives c.requires.before
      (c.in_ok-tells_plan.ensures.0 c.if-not-branch.false)
      (c.in_ok-shows_bound.ensures.0 c.if-not-branch-2.false),
  λ holds. both_ways _ c.if-not-branch-3.true (c.in_ok-is_well_shown.ensures.1 holds),
)

pub is_best_near-requires : goal.is_best_near-requires
is_best_near-requires c = (c.in_ok-tells_plan.ensures.0 c.if-not-branch.false).0

pub are_moves-requires-clause-plan : goal.are_moves-requires-clause-plan
are_moves-requires-clause-plan c = rw c.chosen.ensures c.requires.gives.plan

pub returns-then-not-branch-4 : goal.returns-then-not-branch-4
returns-then-not-branch-4 c =
    let settings = c.args.graphs.now.instance.now.settings.now in let p = posed_by c.args.graphs.now in let settled = p.settled in let graph =
    p.graph in let plan = c.args.plan.now in let planned = c.args.planned.now in (
      up_to_tree settings p planned plan c.requires.gives c.requires.before (c.in_ok-tells_plan.ensures.0 c.if-not-branch.false)
          (c.in_ok-shows_bound.ensures.0 c.if-not-branch-2.false) (c.in_ok-is_well_shown.ensures.0 c.if-not-branch-3.false),
      λ holds. both_ways _ c.if-not-branch-4.true
          (c.in_ok-is_best_near.ensures.1 (at_plan settings p planned plan c.requires.gives (λ chosen. IsBestNear graph chosen) holds)),
    )

pub returns-then-not-branch-5 : goal.returns-then-not-branch-5
returns-then-not-branch-5 c =
    let settings = c.args.graphs.now.instance.now.settings.now in let p = posed_by c.args.graphs.now in let settled = p.settled in let graph =
    p.graph in let plan = c.args.plan.now in let planned = c.args.planned.now in (
      hold_more (λ q. Holds settings q planned p) point.Best
          (up_to_tree settings p planned plan c.requires.gives c.requires.before (c.in_ok-tells_plan.ensures.0 c.if-not-branch.false)
          (c.in_ok-shows_bound.ensures.0 c.if-not-branch-2.false) (c.in_ok-is_well_shown.ensures.0 c.if-not-branch-3.false))
          (with_plan settings p planned plan c.requires.gives (λ chosen. IsBestNear graph chosen) (c.in_ok-is_best_near.ensures.0 c.if-not-branch-4.false)),
      λ holds. both_ways _ c.if-not-branch-5.true (c.in_ok-are_moves.ensures.1 (rw (c.as_slice-moves.ensures, c.chosen.ensures, c.requires.left)
          (at_plan settings p planned plan c.requires.gives (λ chosen. AreMoves p.tau settled (idle_vehicles settled graph chosen) (left_riders graph chosen)
          planned.moves) holds))),
    )

pub returns : goal.returns
returns c =
    let settings = c.args.graphs.now.instance.now.settings.now in let p = posed_by c.args.graphs.now in let settled = p.settled in let graph =
    p.graph in let plan = c.args.plan.now in let planned = c.args.planned.now in
    let moves = rw (c.as_slice-moves.ensures, c.chosen.ensures, c.requires.left) at (c.in_ok-are_moves.ensures.0 c.if-not-branch-5.false) in
    hold_all (λ q. Holds settings q planned p) (hold_more (λ q. Holds settings q planned p) point.Moves
    (hold_more (λ q. Holds settings q planned p) point.Best
    (up_to_tree settings p planned plan c.requires.gives c.requires.before (c.in_ok-tells_plan.ensures.0 c.if-not-branch.false)
    (c.in_ok-shows_bound.ensures.0 c.if-not-branch-2.false) (c.in_ok-is_well_shown.ensures.0 c.if-not-branch-3.false))
    (with_plan settings p planned plan c.requires.gives (λ chosen. IsBestNear graph chosen) (c.in_ok-is_best_near.ensures.0 c.if-not-branch-4.false)))
    (with_plan settings p planned plan c.requires.gives (λ chosen. AreMoves p.tau settled (idle_vehicles settled graph chosen) (left_riders graph chosen)
    planned.moves) moves))
