-- The names that the proofs of this crate cite from elsewhere, passed on from one place. Declares nothing.
pub use Rattle.std.proofs.lemmas.Bool.{and_left, both_ways, cases_eq, cases_lt, cond-false, false≢true}
pub use Rattle.std.proofs.lemmas.Int.{int_min_is, ints}
pub use Rattle.std.proofs.lemmas.List.{at_drop_more, get_or_append_left, get_or_past, get_or_push, length_push, take_more, with_items_is}
pub use Rattle.std.proofs.lemmas.Option.{none-some, same_Some}
pub use Rattle.bound_checker.specs.lemmas.Visit.{coming_of}
pub use Rattle.bound_checker.specs.work.DeadEnd.{AreSoleRows, IsApart, MarksStanding, ShareARider}
pub use Rattle.bound_checker.specs.work.Leaf.{AreLeast}
pub use Rattle.bound_checker.specs.work.Visit.{IsNodeFault, IsReady}
pub use Rattle.plan_rules.proofs.lemmas.GraphLemmas.{has_at, row_read}
pub use Rattle.plan_rules.proofs.lemmas.MarkLemmas.{IsMarking}
pub use Rattle.plan_rules.proofs.lemmas.PathLemmas.{along_alone, along_without, coming_next, standing_push, standing_start}
pub use Rattle.plan_rules.proofs.lemmas.ReadLemmas.{least_leaf_push, places_push, reads_push}
pub use Rattle.plan_rules.proofs.lemmas.SumLemmas.{int_sum_more, int_sum_same, least_below_more}
pub use Rattle.plan_rules.proofs.lemmas.UsableLemmas.{Agree, agree_back, can_branch_agrees, dead_end_agrees, leaf_value_agrees}
pub use Rattle.plan_rules.specs.Graph.{Graph, IsRowOf, choice_at, has_rider, must_be_served, riders_at, row_at, row_vehicle}
pub use Rattle.plan_rules.specs.GoodGraph.{IsGoodGraph}
unfoldable pub use Rattle.plan_rules.specs.Multipliers.{leaf_value}
pub use Rattle.plan_rules.specs.Multipliers.{Usable, is_usable_by, multiplier_at, multiplier_sum, reduced_cost, usable_of}
pub use Rattle.plan_rules.specs.Terms.{rider_term, vehicle_term}
pub use Rattle.plan_rules.specs.Path.{IsPathOf, Standing, standing_of}
pub use Rattle.plan_rules.specs.Reading.{ReadsTo}
pub use Rattle.plan_rules.specs.Size.{IsSmall, IsSmallSum}
pub use Rattle.plan_rules.specs.Sums.{int_sum_below, least_below, lesser}
pub use Rattle.plan_rules.specs.Tree.{Clash, IsDeadEnd, IsSoleRow, IsTreeOfValue, every_row, least_leaf, rounded_up, with_leaf}
pub use Rattle.plan_rules.specs.lemmas.DeadEnd.{IsClash, IsStranded, IsOnlyOf, StandsInNone, StandsInSome}
pub use Rattle.plan_rules.specs.declared.node.Node.{Node}
pub use Rattle.plan_rules.specs.declared.path.Decision.{Decision}
pub use Rattle.plan_rules.specs.declared.row.TripRow.{TripRow}
pub use Rattle.plan_rules.specs.lemmas.Tree.{IsWholeTree, places_read, value_read}
pub use mir.Syntax.{w128}
