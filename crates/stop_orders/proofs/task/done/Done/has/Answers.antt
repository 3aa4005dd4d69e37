use Rattle.std.proofs.Common.{eqb, ap, ◌∙◌}
use Rattle.stop_orders.proofs.Common.{shr_and_one, has}
use Rattle.stop_orders.proofs.task.done.Done.has.Goals as goal

pub returns : goal.returns
unfolding has
returns c = ap (λ n. eqb n 1) (shr_and_one c.self.inside.bits c.args.bit) ∙ ap (λ n. has n c.args.bit) c.self.view_is
