use Rattle.std.proofs.Common.{◌≡◌, ◌<◌, List, [], ◌++◌, map, length, vec_len}
use Rattle.seat_lock.proofs.Common.{Idle, claim_of}
use Rattle.seat_lock.proofs.hand_out.join_all.Given as goal

abbrev pub invariant-loop-pass : goal.invariant-loop-pass
invariant-loop-pass g l = (done : List _) × (l.passes.items ++ done ≡ l.fn.passes.items) × (l.all.me.0.claims ≡ map claim_of done) × (0 < length done) ×
    (l.all.me.0.stage ≡ Idle) × (l.all.me.1 ≡ []) × (l.all.table_id ≡ l.queue.shared.table_id)

abbrev pub decreases-loop-pass : goal.decreases-loop-pass
decreases-loop-pass g l = vec_len l.passes
