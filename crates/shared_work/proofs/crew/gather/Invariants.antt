use Rattle.std.proofs.Common.{◌≡◌, ◌+◌, true, [], All, vec_len}
use Rattle.shared_work.specs.work.Workers.{HasWorked, AreDoneRight, Matches}
use Rattle.shared_work.proofs.crew.gather.Given as goal

abbrev pub invariant-loop-worker : goal.invariant-loop-worker
invariant-loop-worker g l = record {
  own : l.all.hand.table_id ≡ l.claims.shared.table_id;
  parts : l.all.hand.me.0.parts + vec_len l.crew ≡ vec_len l.fn.crew;
  empty_handed : l.all.hand.me.1 ≡ [];
  matches : l.all.ended ≡ true → Matches l.claims.shared.key.pieces l.all.hand.me.0.numbers l.all.done.items;
  worked : All (HasWorked l.claims.shared.table_id l.claims.shared.key.pieces) l.crew.items;
  right : (job : g.row.J.Denot) → All (λ w. AreDoneRight l.claims.shared.key.pieces (g.J.Job.right job) w.done.items) l.fn.crew.items
      → AreDoneRight l.claims.shared.key.pieces (g.J.Job.right job) l.all.done.items × All (λ w. AreDoneRight l.claims.shared.key.pieces (g.J.Job.right job)
      w.done.items) l.crew.items;
}

abbrev pub decreases-loop-worker : goal.decreases-loop-worker
decreases-loop-worker g l = vec_len l.crew
