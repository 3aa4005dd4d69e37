-- The names that the proofs of this crate cite from elsewhere, passed on from one place. Declares nothing.
pub use Rattle.std.proofs.lemmas.Bool.{cases_eq, cases_lt}
pub use Rattle.std.proofs.lemmas.List.{get_or-map, get_or-replicate, length-map, length-replicate}
pub use Rattle.std.proofs.lemmas.List.{get_or-append_right, get_or_append_left, get_or_push, get_or_read, length_push, map_more, set_past, with_items_is}
pub use Rattle.std.proofs.lemmas.List.Elements.{All-from_get_or, All-head, All-push, All-tail, Contains-append_left, Contains-push}
pub use Rattle.pool_base.specs.Times.{travel_time}
pub use Rattle.rebalancing.specs.Matching.{IsBestMatching, IsMatching, pair_seconds}
pub use Rattle.std.proofs.lemmas.Int.{ints}
pub use Rattle.std.proofs.lemmas.List.Sums.{sum_by-cons, sum_by-le, sum_by-le-sum_by, sum_by-set}
pub use Rattle.pool_base.specs.TravelTime.{longest, never}
pub use Rattle.rebalancing.specs.Potentials.{ArePotentials, pair_worth, potential}
pub use Rattle.rebalancing.specs.declared.matching.Matching.{Matching}
pub use Rattle.rebalancing.specs.work.Chosen.{IsChosen, seconds_in}
pub use Rattle.rebalancing.specs.work.Prices.{IsPriced, IsPricedMatching, IsSameProblem, IsSized, weight_in}
pub use Rattle.rebalancing.specs.work.Relaxation.{Falls, Improves, IsCheaper, Relaxes, Rises}
pub use Rattle.rebalancing.specs.work.SearchTree.{HasRoom, IsCheapest, IsGrown, IsNearest, IsOpen, IsOpenMatching, IsReached, IsRooted, IsSearchTree, root_of}
pub use Rattle.rebalancing.specs.work.Weights.{weight_at, weight_of}
