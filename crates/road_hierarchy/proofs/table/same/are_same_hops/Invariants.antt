use Rattle.std.proofs.Common.{ℕ, ◌<◌}
use Rattle.road_hierarchy.proofs.table.Hops.{HasSameHop}
use Rattle.road_hierarchy.proofs.table.same.are_same_hops.Given as goal

abbrev pub invariant-loop-place : goal.invariant-loop-place
invariant-loop-place l = (k : ℕ) → k < l.place → HasSameHop l.a l.b k
