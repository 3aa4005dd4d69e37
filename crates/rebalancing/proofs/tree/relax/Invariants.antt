use Rattle.rebalancing.proofs.Relaxing.{IsRelaxing}
use Rattle.rebalancing.proofs.tree.relax.Given as goal

abbrev pub invariant-loop-rider : goal.invariant-loop-rider
invariant-loop-rider l = IsRelaxing l.reached.row.now l.rider_price l.place l.reached.offset l.reached.position l.initial.tight_at l.initial.parent_of
    l.tight_at l.parent_of l.rider l.riders l.nearest
