use Rattle.std.proofs.Common.{ℕ, suc, ◌<◌, get_or}
use Rattle.assignment_search.proofs.Common.{IsListed}
use Rattle.assignment_search.proofs.rider_index.is_listed_for_all.Given as goal

abbrev pub invariant-loop-place : goal.invariant-loop-place
invariant-loop-place l = (i : ℕ) → i < l.place → IsListed l.listed (get_or l.starts (get_or l.riders i 0) 0) (get_or l.starts (suc (get_or l.riders i 0)) 0)
    l.row
