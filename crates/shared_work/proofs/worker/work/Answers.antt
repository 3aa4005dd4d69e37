use Rattle.std.proofs.Common.{sum_by, sym, ap, ◌∙◌, subst, arith}
use Rattle.shared_work.specs.work.Claims.{past}
use Rattle.shared_work.specs.work.Workers.{AreDoneRight}
use Rattle.shared_work.proofs.Ended.{none_past, drew_one, fewer_left, broke_off, came_to_end, one_done}
use Rattle.shared_work.proofs.worker.work.Goals as goal

pub draw-number-requires-clause-none_past : goal.draw-number-requires-clause-none_past
draw-number-requires-clause-none_past g c = let i = c.loop-alloc.invariant in
    ap (λ p. sum_by (past p) c.loop-alloc.worker.hand.me.0.numbers) c.requires.claims.1 ∙ ap (λ m. sum_by (past c.args.pieces) m.0.numbers) i.drawn ∙
    none_past c.args.pieces (g.J.Job.right c.args.job.now) _ i.right

pub returns-then-number-from-clause-worked : goal.returns-then-number-from-clause-worked
returns-then-number-from-clause-worked g c = let i = c.loop-alloc.invariant in let d = c.draw-number.ensures in
    came_to_end _ _ _ _ (d.own.0 ∙ i.own) (drew_one _ _ _ _ i.drawn d.number) (omega (arith, c.if-number-from.true, c.from.ensures))

pub returns-in_default-clause-worked : goal.returns-in_default-clause-worked
returns-in_default-clause-worked g c = let i = c.loop-alloc.invariant in let d = c.draw-number.ensures in
    broke_off _ _ _ _ (d.own.0 ∙ i.own) (drew_one _ _ _ _ i.drawn d.number) i.begun

pub returns-in_default-push-clause-worked : goal.returns-in_default-push-clause-worked
returns-in_default-push-clause-worked g c = let i = c.loop-alloc.invariant in let d = c.draw-number.ensures in
    broke_off _ _ _ _ (d.own.0 ∙ i.own) (drew_one _ _ _ _ i.drawn d.number) i.begun

pub loop-alloc-preserved : goal.loop-alloc-preserved
loop-alloc-preserved g c =
    let i = c.loop-alloc.invariant in
    let d = c.draw-number.ensures in
    let done = one_done _ (g.J.Job.right c.args.job.now) _ _ (record { piece = c.draw-number.result; out = c.in-Ok.out }) _ (drew_one _ _ _ _ i.drawn d.number)
    c.in-Ok-push.ensures.items i.right (omega (arith, c.if-number-from.false, c.from.ensures)) c.in-Ok.ensures in
    record { own = d.own.0 ∙ i.own; drawn = done.0; right = done.1; begun = i.begun }

pub loop-alloc-smaller : goal.loop-alloc-smaller
loop-alloc-smaller g c = let d = c.draw-number.ensures in fewer_left _ _ _ _ d.number d.rises (omega (arith, c.if-number-from.false, c.from.ensures))

pub returns-in_default-push-clause-right : goal.returns-in_default-push-clause-right
returns-in_default-push-clause-right g c = subst (AreDoneRight c.args.pieces (g.J.Job.right c.args.job.now)) (sym c.in_default-push.ensures.items)
    c.loop-alloc.invariant.right
