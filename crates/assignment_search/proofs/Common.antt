-- The names that the proofs of this crate cite from elsewhere, passed on from one place. Declares nothing.
pub use Rattle.assignment_search.specs.Cheapest.{AreCheapest, IsNoCheaper}
pub use Rattle.assignment_search.specs.Found.{IsBestNear, IsFairNode, IsSearchAnswer}
pub use Rattle.assignment_search.specs.Growth.{product_below}
pub use Rattle.assignment_search.specs.Index.{IsIndexOf, IsListed, list_end, list_start}
pub use Rattle.assignment_search.specs.declared.growth.OpenLeaf.{OpenLeaf}
pub use Rattle.assignment_search.specs.work.Ceiling.{AreCeilings}
pub use Rattle.assignment_search.specs.work.Change.{BettersNothing, IsShared}
pub use Rattle.assignment_search.specs.work.Found.{IsTreeSoFar}
pub use Rattle.assignment_search.specs.work.Growth.{
  HasLeaf,
  HasUsable,
  IsFixed,
  IsGoodLeaf,
  IsGoodNode,
  IsGrown,
  IsJudged,
  IsLowest,
  IsNewEnd,
  IsSolePlan,
  IsWorthBranching,
}
pub use Rattle.assignment_search.specs.work.Next.{IsNext, IsPartedAt, IsParting}
pub use Rattle.assignment_search.specs.work.OpenLeaves.{AreOpen, leaf_cmp, leaf_sum}
pub use Rattle.assignment_search.specs.work.Size.{HasLeastCosts, IsCost, IsModest}
pub use Rattle.plan_rules.proofs.lemmas.GraphLemmas.{has_at, in_choice, times_served_as_count, times_served_some, row_between, row_read}
pub use Rattle.plan_rules.proofs.lemmas.PlanLemmas.{has_choice}
pub use Rattle.plan_rules.proofs.lemmas.SumLemmas.{
  count_below_found,
  count_below_some,
  count_below_two,
  flag,
  flag-false,
  flag-true,
  int_sum_le,
  int_sum_same,
  int_sum_zero,
  least_below_found,
  least_below_none,
  least_below_some,
  part,
  sum_below_plus,
  sum_below_same,
  int_sum_more,
  int_sum_plus,
  int_sum_single,
  lesser-le_left,
  lesser-le_right,
}
pub use Rattle.plan_rules.proofs.lemmas.TreeLemmas.{dead_end_holds_none, each_plan_at_one_end, no_plan_at_dead_ends, tree_value_bounds, within_every_row}
pub use Rattle.plan_rules.proofs.lemmas.UsableLemmas.{
  Agree,
  agree_back,
  can_branch_agrees,
  dead_end_agrees,
  first_fit_value_agrees,
  leaf_value_agrees,
  least_below_agrees,
  may_use_agrees,
}
pub use Rattle.plan_rules.proofs.lemmas.ValueLemmas.{least_passed, least_taken, none_after, none_before, starts_rise, sum_more}
pub use Rattle.plan_rules.specs.GoodGraph.{IsGoodGraph}
pub use Rattle.plan_rules.specs.Graph.{Graph, IsRowOf, choice_at, cost_at, has_rider, must_be_served, riders_at, row_vehicle, row_at}
pub use Rattle.plan_rules.specs.Greedy.{IsGreedy, IsTaken, IsTriedBefore}
pub use Rattle.plan_rules.specs.Multipliers.{
  Usable,
  first_fit_of,
  first_fit_value,
  is_usable_by,
  multiplier_at,
  reduced_cost,
  usable_of,
  multiplier_sum,
  room_at,
}
pub use Rattle.plan_rules.specs.Path.{IsPathOf, standing_of}
pub use Rattle.plan_rules.specs.Plan.{IsBound, IsLawful, IsPlan}
pub use Rattle.plan_rules.specs.Reading.{IsSoundNode, ReadsTo, coming_after, places_from}
pub use Rattle.plan_rules.specs.Size.{IsSmall, IsSmallSum}
pub use Rattle.plan_rules.specs.Sums.{count_below, int_sum_below, least_below, lesser, sum_below}
pub use Rattle.plan_rules.specs.Terms.{first_fit, rider_term, vehicle_term, least_cost}
pub use Rattle.plan_rules.specs.Tree.{
  CanBranch,
  Clash,
  IsDeadEnd,
  IsSoleRow,
  MayUse,
  Place,
  belongs_to_dead_end,
  belongs_to_end,
  every_row,
  least_leaf,
  only_row,
  rounded_up,
  without_row,
  Stranded,
}
pub use Rattle.plan_rules.specs.declared.node.Node.{Node}
pub use Rattle.plan_rules.specs.declared.node.Node.TheVariants.{Branch, Dead, Leaf}
pub use Rattle.plan_rules.specs.declared.row.TripRow.{TripRow}
pub use Rattle.plan_rules.specs.lemmas.Graph.{HasNoRow, is_in}
pub use Rattle.plan_rules.specs.lemmas.Plan.{choice_cost, left_out, times_chosen}
pub use Rattle.plan_rules.specs.lemmas.Tree.{IsWholeTree, places, places_read, value_read}
pub use Rattle.std.proofs.lemmas.Bool.{and_from, and_parts, both_ways, cases_Bool, cases_eq, cases_lt, false_from_ne_true, or_cases}
pub use Rattle.std.proofs.lemmas.Bool.Decides.{nat_tests}
pub use Rattle.std.proofs.lemmas.Int.{int_min_is, ints}
pub use Rattle.std.proofs.lemmas.List.{get_or-replicate, get_or_append_left, get_or_push, get_or_read, set-get_or, set_past, get_or_past, length_push}
pub use Rattle.std.proofs.lemmas.List.Sorted.{sum_by_popped, sum_by_pushed}
pub use Rattle.std.proofs.lemmas.List.Sums.{sum_by-cons}
pub use Rattle.std.proofs.lemmas.Option.{none-some, same_Some}
pub use Rattle.std.specs.BinaryHeap.{IsHeap}
pub use Rattle.std.specs.Int.{int_min}
pub use Rattle.std.specs.List.{AllByRecursion, list_any}
pub use Rattle.std.specs.declared.cmp.Reverse.{Reverse}
pub use mir.Syntax.{w128}
unfoldable pub use Rattle.assignment_search.specs.Growth.{choice_count}
unfoldable pub use Rattle.plan_rules.specs.Multipliers.{first_fit_below, leaf_value}
unfoldable pub use Rattle.plan_rules.specs.Plan.{cost_of}
