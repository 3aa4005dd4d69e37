use Rattle.std.proofs.Common.{◌&&◌, length, IfSome, neg_ℤ, pos, ◌≤ℤ◌}
use Rattle.assignment_search.proofs.Common.{has_rider, usable_of, room_at, list_start}
use Rattle.assignment_search.proofs.ListedLemmas.{IsLeastListed}
use Rattle.assignment_search.proofs.first_fit_pass.least_listed.Given as goal

abbrev pub invariant-loop-place : goal.invariant-loop-place
invariant-loop-place l = record {
  value : IsLeastListed (length l.graph.rows) (λ k. usable_of l.allowed k && has_rider l.graph k l.rider) (room_at l.graph (usable_of l.allowed) l.multipliers)
      l.index.rows.items (list_start l.index l.rider) l.place l.least;
  small : IfSome l.least (λ z. neg_ℤ (pos 8000000000000) ≤ℤ z);
}
