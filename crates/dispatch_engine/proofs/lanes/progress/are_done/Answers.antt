use Rattle.std.proofs.Common.{◌≡◌, [], List, true, false, refl, sym, subst, arith}
use Rattle.dispatch_engine.proofs.Common.{both_ways, IsRest, progress_at, Command, lane_at}
use borrow.Author.Count.{below_more}
use Rattle.dispatch_engine.proofs.lemmas.lanes.ProgressLemmas.{done_all}
use Rattle.dispatch_engine.proofs.lanes.progress.are_done.Goals as goal

pub loop-lane-preserved : goal.loop-lane-preserved
loop-lane-preserved c =
    let round = c.args.round.now in let lanes = c.args.lanes.now in let n = c.loop-lane.lane in
    let here : IsRest (lane_at round n) (progress_at lanes n) [] = subst (λ (cs : List Command). IsRest cs (progress_at lanes n) []) c.lane.ensures.commands
    (c.is_done.ensures.0 c.if-not-is_done.false) in
    below_more (λ k. IsRest (lane_at round k) (progress_at lanes k) []) n c.loop-lane.invariant here

pub returns-then-not-is_done : goal.returns-then-not-is_done
returns-then-not-is_done c =
    let round = c.args.round.now in let lanes = c.args.lanes.now in let n = c.loop-lane.lane in (
      λ no. absurd (let f : false ≡ true = no in cc),
      λ done. absurd (both_ways _ c.if-not-is_done.true
          (c.is_done.ensures.1 (subst (λ (cs : List Command). IsRest cs (progress_at lanes n) []) (sym c.lane.ensures.commands) (done n)))),
    )

pub returns : goal.returns
returns c =
    (λ yes. done_all c.args.round.now c.args.lanes.now c.keeps.ensures c.requires (λ k h. c.loop-lane.invariant k (omega (arith, h))), λ done. refl)
