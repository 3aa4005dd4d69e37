-- The names that the proofs of this crate cite from elsewhere, passed on from one place. Declares nothing.
pub use Rattle.std.proofs.lemmas.Bool.{cases_Bool, cases_eq, cases_lt, false≢true}
pub use Rattle.std.proofs.lemmas.Bool.Decides.{nat_tests}
pub use Rattle.std.proofs.lemmas.List.{
  flat_map_more,
  get_or-replicate,
  get_or_append_left,
  get_or_default,
  get_or_push,
  get_or_read,
  length-map,
  length-replicate,
  map_more,
  map_push,
  take_more,
}
pub use Rattle.std.proofs.lemmas.List.Elements.{
  All-append,
  All-drop,
  All-head,
  All-map,
  All-more,
  All-nil,
  All-push,
  All-same,
  All-set,
  All-tail,
  All-take,
  filter-append,
  filter_more,
}
pub use Rattle.std.proofs.lemmas.List.Sums.{
  count_by-le-length,
  count_by_more_no,
  count_by_more_yes,
  length-filter,
  passes_at_first,
  position_or_len_is,
  sum_by-cons,
  sum_by-le-sum_by,
  sum_by-take-le,
}
pub use Rattle.std.specs.List.{IsDistinct, list_any, position_or_len}
pub use Rattle.pool_base.specs.InOrder.{first_fault}
pub use Rattle.pool_base.specs.Numeral.{number_at}
pub use Rattle.pool_io.specs.Table.{record_at}
unfoldable pub use Rattle.road_network.specs.Reading.{network_of, refusal_at}
pub use Rattle.road_network.specs.Reading.{arc_seconds, nodes_of}
pub use Rattle.road_network.specs.Roads.{IsArcAmong, Roads, hop_of, index_in, leaving}
pub use Rattle.road_network.specs.Storage.{start_at}
pub use Rattle.road_network.specs.Walk.{Arc}
pub use Rattle.road_network.specs.declared.fault.NetworkFault.TheVariants.{TooManyArcs, TooManyNodes}
pub use Rattle.road_network.specs.declared.hop.Hop.{Hop}
pub use Rattle.road_network.specs.lemmas.Limits.{greatest_name, longest_arc, most_arcs, most_nodes}
pub use Rattle.road_network.specs.lemmas.Rows.{arc_in, by_node, first_refusal, names_in, roads_of}
unfoldable pub use Rattle.road_network.specs.lemmas.Rows.{field_refusal}
pub use Rattle.pool_base.specs.Numbering.{with_name}
pub use Rattle.road_network.specs.work.Numbering.{with_row}
pub use Rattle.road_network.specs.work.Storage.{ArePacked, IsHopAmong, arc_from, arcs_before, arcs_leaving, by_start, hops_at, stored_arcs}
