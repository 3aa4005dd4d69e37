use Rattle.std.proofs.Common.{◌≡◌, ◌-◌, [], false, length}
use Rattle.shared_work.specs.work.Claims.{draws}
use Rattle.shared_work.specs.work.Workers.{AreDoneRight, pieces_of}
use Rattle.shared_work.proofs.worker.work.Given as goal

abbrev pub invariant-loop-alloc : goal.invariant-loop-alloc
invariant-loop-alloc g l = record {
  own : l.worker.hand.table_id ≡ l.claims.shared.table_id;
  drawn : l.worker.hand.me ≡ (draws 1 (pieces_of l.worker.done.items), []);
  right : AreDoneRight l.pieces (g.J.Job.right l.job) l.worker.done.items;
  begun : l.worker.ended ≡ false;
}

abbrev pub decreases-loop-alloc : goal.decreases-loop-alloc
decreases-loop-alloc g l = l.pieces - length l.worker.hand.me.0.numbers
