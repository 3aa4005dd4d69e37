use Rattle.std.proofs.Common.{◌==◌, count_by}
use Rattle.rebalancing.proofs.Inserting.{IsSearching}
use Rattle.rebalancing.proofs.matching.Matching.insert.Given as goal

abbrev pub invariant-search : goal.invariant-search
invariant-search l = IsSearching l.fn.self l.self l.tree l.vehicle l.nearest

abbrev pub decreases-search : goal.decreases-search
decreases-search l = count_by (λ x. x == 0) l.tree.place.items
