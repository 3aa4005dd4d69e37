-- The names that the proofs of this crate cite from elsewhere, passed on from one place. Declares nothing.
pub use Rattle.std.proofs.lemmas.Bool.{and_left, and_parts, cases_eq, cases_lt, cases_order, cond-false, cond-true, false≢true, not-false, or_from}
pub use Rattle.std.proofs.lemmas.List.{drop-map, get_or-map, get_or_at, get_or_default, length-map, length_push, map-append, set_at, take-map, take_more}
pub use Rattle.std.proofs.lemmas.List.Elements.{
  All-append,
  All-cons,
  All-drop,
  All-head,
  All-nil,
  All-push,
  All-same,
  All-tail,
  All-take,
  All-weaker,
  Contains-append_cases,
  Contains-append_left,
  Contains-append_right,
  Contains-push,
  Contains-push_cases,
  filter-append,
}
pub use Rattle.std.proofs.lemmas.Result.{err_from_is_err_and, on_ok_weaker}
pub use Rattle.std.specs.List.{AllWithin, list_all, list_any, position_from, prefix_len, range_with_len}
pub use Rattle.pool_base.proofs.lemmas.InOrderLemmas.{all_or_first-all, all_or_first-err, all_or_first-ok, first_fault-all, refused_where-passed, then_ok}
pub use Rattle.pool_base.specs.InOrder.{all_or_first, refused_where, ◌>>=◌}
pub use Rattle.pool_io.specs.Table.{field_at, record_at, table_of}
pub use Rattle.request_book.specs.declared.values.command.Command.{Command}
unfoldable pub use Rattle.input_rows.specs.script.ScriptRow.{command_in, script_row_in, three_in}
pub use Rattle.input_rows.specs.script.ScriptRow.{IsBehind, leaves_empty}
pub use Rattle.input_rows.specs.script.Round.{IsRound, MayStand, NumberedLanes, empty_round, with_command}
pub use Rattle.input_rows.specs.script.Script.{round_of, script_of}
pub use Rattle.input_rows.specs.declared.script.fault.ScriptFault.{ScriptFault}
pub use Rattle.input_rows.specs.declared.script.fault.ScriptFault.TheVariants.{ExtraField, LaneRange, Number, RoundBack, SealLane, UnknownCommand}
pub use Rattle.input_rows.specs.declared.script.script_row.ScriptRow.{ScriptRow}
pub use Rattle.input_rows.specs.declared.script.version.ScriptVersion.{ScriptVersion}
pub use Rattle.input_rows.specs.lemmas.script.Named.{script_row_at, round_before, rounds_of}
unfoldable pub use Rattle.input_rows.specs.work.script.Building.{with_script_row}
pub use Rattle.input_rows.specs.work.script.Building.{commands_of, joins, round_of_last}
pub use Rattle.input_rows.specs.work.script.Words.{is_empty_in}
pub use Rattle.std.proofs.lemmas.List.Edits.{get_or-insert_above, get_or-insert_at, get_or-insert_below, length-insert}
pub use Rattle.std.proofs.lemmas.List.Folds.{Any-from_list_any, list_any-append, list_any_at, list_any_none}
pub use Rattle.request_book.specs.values.Kept.{IsFleet}
pub use Rattle.request_book.specs.values.Vehicle.{HasSeats}
pub use Rattle.request_book.specs.declared.values.vehicle.Vehicle.{Vehicle}
pub use Rattle.input_rows.specs.fleet.Fleet.{IsFleetOf, vehicles_of}
unfoldable pub use Rattle.input_rows.specs.fleet.Vehicle.{vehicle_in}
pub use Rattle.input_rows.specs.declared.fleet.fault.FleetFault.TheVariants.{Duplicate, Seats, TooManyVehicles, UnknownNode}
pub use Rattle.input_rows.specs.lemmas.fleet.NamedFleet.{empty_vehicle, vehicle_of_row}
pub use Rattle.input_rows.specs.work.fleet.Place.{IsPlaceOf, has_id_at, has_vehicle}
pub use Rattle.pool_base.specs.Numeral.{number_at, number_in, number_up_to}
pub use Rattle.road_network.specs.Roads.{Roads, has_node}
pub use Rattle.std.proofs.lemmas.Nat.{mod_below}
pub use Rattle.std.specs.Option.{option_or}
unfoldable pub use Rattle.csv.specs.Machine.{next_record}
unfoldable pub use Rattle.csv.specs.Reading.{records_from, strip_bom}
pub use Rattle.csv.specs.Reading.{default_config, records}
unfoldable pub use Rattle.input_rows.specs.made.Part.{draw}
pub use Rattle.input_rows.specs.made.Part.{Part, both, each, plain}
pub use Rattle.input_rows.specs.made.MadeRow.{csv_line, field_text}
unfoldable pub use Rattle.input_rows.specs.lemmas.made.Parts.{
  all_reports,
  arcs_down,
  arcs_of_row,
  arcs_right,
  fleet_part,
  network_part,
  reports,
  script_part,
  submits,
}
pub use Rattle.input_rows.specs.lemmas.made.Parts.{csv_lines, draws_of, nothing, other_than, seal_row, text_under}
unfoldable pub use Rattle.input_rows.specs.made.Texts.{arcs_between, batch_rows, drawn_node, report_row, submit_row, texts_of, vehicle_row}
pub use Rattle.input_rows.specs.made.Texts.{Texts, node_id}
pub use Rattle.input_rows.specs.declared.made.row.Field.{Field}
pub use Rattle.input_rows.specs.made.Accepted.{AreReadable, IsNetworkText, IsScriptText}
pub use Rattle.input_rows.specs.work.made.Written.{Writes}
pub use Rattle.pool_base.proofs.lemmas.DistinctLemmas.{any-distinct, length-distinct}
pub use Rattle.pool_base.specs.Header.{fleet_header, network_header, script_header}
pub use Rattle.rand_core.specs.Stream.{Stream, next_u64}
pub use Rattle.rider_limits.specs.declared.load_shape.LoadShape.{LoadShape}
unfoldable pub use Rattle.road_network.specs.Reading.{network_of, refusal_at}
pub use Rattle.road_network.specs.Reading.{nodes_of}
unfoldable pub use Rattle.road_network.specs.lemmas.Rows.{field_refusal}
pub use Rattle.road_network.specs.lemmas.Rows.{names_in, roads_of}
pub use Rattle.road_network.specs.lemmas.Limits.{greatest_name, longest_arc, most_nodes}
