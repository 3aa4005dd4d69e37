-- The names that the proofs of this crate cite from elsewhere, passed on from one place. Declares nothing.
pub use Rattle.std.proofs.lemmas.Bool.{
  and_from,
  and_left,
  and_right,
  both_ways,
  cases_Bool,
  cases_eq,
  cases_lt,
  cond-false,
  cond-true,
  cond_both,
  false_from_ne_true,
  false≢true,
  or_cases,
  or_left,
  or_right,
}
pub use Rattle.std.proofs.lemmas.Bool.Decides.{nat_tests}
pub use Rattle.std.proofs.lemmas.Int.{int_min_is, ints}
pub use Rattle.std.proofs.lemmas.List.{
  at_drop_more,
  get_or-replicate,
  get_or_append_left,
  get_or_default,
  get_or_past,
  get_or_push,
  get_or_read,
  length-replicate,
  length_push,
  map-append,
  set_at,
  take_more,
}
pub use Rattle.std.proofs.lemmas.List.Folds.{list_any_at}
pub use Rattle.std.proofs.lemmas.List.Sums.{fold_more, fold_push, sum_by-cons}
pub use Rattle.std.proofs.lemmas.Option.{none-some, same_Some}
pub use Rattle.std.specs.Int.{int_min}
pub use Rattle.std.specs.List.{list_any}
pub use Rattle.std.specs.List.Sorted.{IsStrictlyIncreasing}
pub use Rattle.std.specs.Ordering.{ordering_index, ordering_then}
unfoldable pub use Rattle.plan_rules.specs.Graph.{times_served}
pub use Rattle.plan_rules.specs.Graph.{
  Graph,
  IsGraphRow,
  IsRowOf,
  IsStartOf,
  choice_at,
  cost_at,
  has_rider,
  must_be_served,
  no_row,
  riders_at,
  row_at,
  row_cmp,
  row_vehicle,
}
pub use Rattle.plan_rules.specs.work.Graph.{AreRisingBelow}
pub use Rattle.plan_rules.specs.lemmas.Graph.{HasNoRow, is_in}
pub use Rattle.plan_rules.specs.GraphFault.{HoldsRightly, IsInOrder}
pub use Rattle.plan_rules.specs.GoodGraph.{IsGoodGraph}
pub use Rattle.plan_rules.specs.Greedy.{IsGreedy, IsTaken, IsTriedBefore}
pub use Rattle.plan_rules.specs.work.Rank.{IsApart, AreRanks, IsInTheWay, IsSelection, parts_of, row_of}
unfoldable pub use Rattle.plan_rules.specs.Multipliers.{first_fit_below, leaf_value}
pub use Rattle.plan_rules.specs.Multipliers.{Usable, first_fit_of, first_fit_value, is_usable_by, multiplier_at, multiplier_sum, reduced_cost, usable_of}
pub use Rattle.plan_rules.specs.Terms.{least_cost, rider_term, vehicle_term}
pub use Rattle.plan_rules.specs.Parts.{graph_of}
unfoldable pub use Rattle.plan_rules.specs.Path.{standing_of}
pub use Rattle.plan_rules.specs.Path.{Standing, decided, root}
unfoldable pub use Rattle.plan_rules.specs.Plan.{cost_of}
pub use Rattle.plan_rules.specs.Plan.{IsBound, IsLawful, IsPlan}
pub use Rattle.plan_rules.specs.lemmas.Plan.{choice_cost, MarksServed, choice_size, left_out, times_chosen}
pub use Rattle.plan_rules.specs.Reading.{IsSoundNode, ReadsTo, coming_after, places_from}
pub use Rattle.plan_rules.specs.Size.{IsSmall, IsSmallSum}
pub use Rattle.plan_rules.specs.Sums.{all_below, count_below, int_sum_below, least_below, lesser, sum_below}
unfoldable pub use Rattle.plan_rules.specs.Tree.{is_within}
pub use Rattle.plan_rules.specs.Tree.{
  Bounded,
  CanBranch,
  Clash,
  Closed,
  IsDeadEnd,
  Stranded,
  IsSoleRow,
  IsSoundTree,
  IsTreeOf,
  IsTreeOfValue,
  MayUse,
  Parted,
  Place,
  SearchTree,
  belongs_to_dead_end,
  belongs_to_end,
  every_row,
  is_choice_usable,
  least_leaf,
  only_row,
  places_within,
  rounded_up,
  tree_value,
  with_leaf,
  without_row,
}
pub use Rattle.plan_rules.specs.lemmas.DeadEnd.{IsClash, IsStranded, IsOnlyOf, StandsInNone, StandsInSome}
pub use Rattle.plan_rules.specs.declared.node.Node.{Node}
pub use Rattle.plan_rules.specs.declared.node.Node.TheVariants.{Branch, Dead, Leaf}
pub use Rattle.plan_rules.specs.declared.path.Decision.{Decision}
pub use Rattle.plan_rules.specs.declared.row.TripRow.{TripRow}
unfoldable pub use Rattle.plan_rules.specs.lemmas.Rank.{rank_value}
pub use Rattle.plan_rules.specs.lemmas.Rank.{rank_of}
pub use Rattle.plan_rules.specs.lemmas.Tree.{IsWholeTree, places, places_read, preorder, value_read}
pub use Rattle.plan_rules.specs.work.DeadEnd.{MarksSole, MarksSomeUsable}
pub use Rattle.plan_rules.specs.work.Plan.{IsServedOnce}
pub use mir.Syntax.{w128}
