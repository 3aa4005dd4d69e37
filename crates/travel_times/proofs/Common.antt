-- The names that the proofs of this crate cite from elsewhere, passed on from one place. Declares nothing.
pub use Rattle.std.proofs.lemmas.Bool.{cases_Bool, cases_eq, cases_lt, false≢true, le-ltb, lt-ltb, ne_eqb, or_parts}
pub use Rattle.std.proofs.lemmas.List.{
  drop-append-le,
  ext_get_or,
  get_or-append_right,
  get_or-map,
  get_or-replicate,
  get_or-set_other,
  get_or-set_same,
  get_or_append_left,
  get_or_default,
  get_or_past,
  get_or_push,
  get_or_read,
  length-map,
  length-replicate,
  length-set,
  length_push,
  map_more,
  replicate_more,
  same_lists,
  take-append-le,
  take_at,
  with_items_is,
}
pub use Rattle.std.proofs.lemmas.List.Elements.{
  All-contains,
  All-contains_itself,
  All-filter,
  All-from_get_or,
  All-head,
  All-map,
  All-nil,
  All-push,
  All-tail,
  All-weaker,
  Contains-append_left,
  Contains-get_or,
  Contains-push,
  Contains-push_cases,
}
pub use Rattle.std.proofs.lemmas.List.Sums.{count_by-le-length, length-filter, sum_by-append, sum_by-cons, sum_by-set, sum_by_push}
pub use Rattle.std.proofs.lemmas.Bool.Decides.{nat_tests}
pub use Rattle.std.proofs.lemmas.Nat.{mul-add-lt}
pub use Rattle.std.specs.Fork.{IsChunk, slice_chunk}
unfoldable pub use Rattle.std.specs.List.{IsDistinct}
pub use Rattle.std.specs.List.{AllByRecursion, list_any, position_or_len}
pub use Rattle.std.specs.Vec.{with_item, with_items}
pub use Rattle.std.proofs.Math.Nat.{mul-le-mul_right}
pub use Rattle.pool_base.specs.TravelTime.{IsTable, cell_of, longest, never}
pub use Rattle.road_network.specs.Roads.{IsArcAmong, IsNetwork, Roads, hop_of, index_in, leaving}
pub use Rattle.road_network.specs.Walk.{HasNoWalk, IsLeastTime, IsTimeBetween, IsWalk, walk_seconds}
pub use Rattle.road_network.specs.declared.arc.Arc.{Arc}
pub use Rattle.road_network.specs.declared.hop.Hop.{Hop}
pub use Rattle.travel_times.specs.search.Near.{AreTimesUpTo, reach}
pub use Rattle.travel_times.specs.search.Search.{IsHopRelaxed, IsNextTaken, RelaxesHops, waits, work_left}
pub use Rattle.travel_times.specs.lemmas.search.Search.{HasWalkOf, IsSearching}
pub use Rattle.travel_times.specs.work.table.Table.{AreRows, AreWritten, IsPiece, IsPieceWritten, IsRowAt, IsUnwritten, WritesRow}
pub use Rattle.travel_times.specs.labels.Fault.{IsFirstWrong, IsForwardAt}
pub use Rattle.travel_times.specs.labels.Label.{IsBackwardHub, IsForwardHub, IsLabel}
pub use Rattle.travel_times.specs.labels.Labels.{AreLabelsOf, NodeLabels, label_at}
pub use Rattle.travel_times.specs.labels.Rank.{IsOfLowerRank, degree}
pub use Rattle.travel_times.specs.declared.labels.hub.Hub.{Hub}
pub use Rattle.travel_times.specs.work.labels.Adding.{AddsHub, AreHopsBothWays, IsClean}
pub use Rattle.travel_times.specs.work.labels.Building.{AreLabelled, AreMadeFrom, AreRanksOf}
pub use Rattle.travel_times.specs.work.labels.Cells.{AreCells}
pub use Rattle.travel_times.specs.work.labels.Common.{IsLeastInCommon, IsRising, RiseByRank}
pub use Rattle.travel_times.specs.work.labels.Difference.{IsFirstDifference}
pub use Rattle.travel_times.specs.work.labels.Drafts.{GainsHub, HandsOver, HasSpread, IsAmongHubs, IsSpread}
pub use Rattle.travel_times.specs.work.labels.Hops.{AreHopsOf, AreNodeHops, AreTurnedBefore, TurnsHops, arc_from, directed, turned}
pub use Rattle.travel_times.specs.work.labels.Order.{IsNodeOrder, key_of, reaching_before}
pub use Rattle.travel_times.specs.work.labels.Pruned.{IsPruned, IsPruning, IsTold, IsToldAt}
pub use Rattle.travel_times.specs.work.labels.Ranked.{AreLabelsBelow, IsLabelBelow, IsRankedHub, IsRanking}
