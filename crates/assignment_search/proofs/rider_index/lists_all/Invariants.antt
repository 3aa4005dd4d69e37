use Rattle.std.proofs.Common.{ℕ, suc, ◌<◌, length, get_or}
use Rattle.assignment_search.proofs.Common.{riders_at, IsListed}
use Rattle.assignment_search.proofs.rider_index.lists_all.Given as goal

abbrev pub invariant-loop-row : goal.invariant-loop-row
invariant-loop-row l = (k i : ℕ) → k < l.row → i < length (riders_at l.graph k) → IsListed l.listed (get_or l.starts (get_or (riders_at l.graph k) i 0) 0)
    (get_or l.starts (suc (get_or (riders_at l.graph k) i 0)) 0) k
