use Rattle.std.proofs.Common.{ℕ, ◌+◌}
use Rattle.rebalancing.proofs.Common.{Matching, IsPricedMatching, IsSized, IsSameProblem, IsNearest, IsSearchTree}
use Rattle.rebalancing.specs.declared.tree.Tree.{Tree}

-- the search for a vehicle goes on, and `nearest` is the rider that is tight next
pub record IsSearching (first s : Matching) (t : Tree) (vehicle nearest : ℕ) : Type 0 where
  pub sized : IsSized s
  pub priced : IsPricedMatching vehicle (vehicle + 1) s
  pub tree : IsSearchTree s vehicle t
  pub next : IsNearest s.riders t.place.items t.tight_at.items nearest
  pub same : IsSameProblem first s
