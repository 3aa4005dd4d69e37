use Rattle.std.proofs.Common.{ℕ, All, sym, ap, ◌∙◌, subst}
use Rattle.std.proofs.lemmas.Result.{IfOk-weaker}
use Rattle.shared_work.specs.work.Workers.{AreDoneRight}
use Rattle.shared_work.proofs.run.run_pieces.Goals as goal

pub returns : goal.returns
returns g c =
    let right = g.J.Job.right c.args.job.now in
    let is = ap (λ q. q.pieces) c.in_ok-claims.ensures.5 in
    let worked = subst (λ (p : ℕ). All (λ w. AreDoneRight p right w.done.items) c.work_all.new.crew.items) (sym is) c.work_all.ensures.right in
    let done = subst (AreDoneRight _ right) (sym c.close.ensures.done) (c.in_ok-all.ensures.right c.args.job.now worked) in
    let outs = c.in_order.ensures _ c.args.job.now done c.close.ensures.once in
    record { count = IfOk-weaker c.in_order.result _ _ (λ _ o. o.0 ∙ is) outs; right = IfOk-weaker c.in_order.result _ _ (λ _ o. o.1) outs }
