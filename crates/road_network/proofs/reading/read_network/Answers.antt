use Rattle.std.proofs.Common.{◌≡◌, ◌+◌, ◌<◌, ◌≤◌, [], Ok, true, length, take, map, sym, ap, ◌∙◌, arith}
use Rattle.road_network.proofs.Common.{
  length-map,
  All-more,
  All-same,
  record_at,
  IsArcAmong,
  most_nodes,
  most_arcs,
  greatest_name,
  longest_arc,
  arc_in,
  arc_seconds,
  with_row,
  TooManyNodes,
}
use Rattle.std.specs.Result.{is_ok}
use Rattle.std.proofs.lemmas.List.{take_all}
use Rattle.std.proofs.lemmas.Result.{err_from_is_err_and}
use Rattle.road_network.proofs.Names.{All-with_name}
use Rattle.road_network.proofs.Refusals.{
  first_refusal-next,
  first_refusal-field,
  first_refusal-nodes,
  first_refusal-end,
  network_of-refused,
  network_of-accepted,
  network_of-too_many,
}
use Rattle.road_network.proofs.Sorted.{length-by_start-all}
use Rattle.road_network.proofs.RowSteps.{All-arc_in, All-numbered-more, arc_in-numbered, arcs-more, nodes_of-more}
use Rattle.road_network.proofs.reading.read_network.Goals as goal

pub returns-then-len-gt-MOST_ARCS-clause-refused : goal.returns-then-len-gt-MOST_ARCS-clause-refused
returns-then-len-gt-MOST_ARCS-clause-refused c known = network_of-too_many c.args.rows.now.records (omega (arith, c.len.ensures, c.if-len-gt-MOST_ARCS.true))

pub returns-in_err-named-clause-refused : goal.returns-in_err-named-clause-refused
returns-in_err-named-clause-refused c =
    let few : length c.args.rows.now.records ≤ most_arcs = omega (arith, c.len.ensures, c.if-len-gt-MOST_ARCS.false) in
    let within : c.rows.row < length c.args.rows.now.records = omega (arith, c.len-row-end.ensures) in
    let p = err_from_is_err_and c.from_residual.result c.from_residual.ensures.1 in
    rw (p.1, p.2) (λ known. network_of-refused c.args.rows.now.records c.in_err-named.field-0.0 few
    (first_refusal-field c.args.rows.now.records c.rows.row c.in_err-named.field-0.0 within c.in_err-named.ensures.refused c.rows.invariant.0))

pub returns-then-len-gt-MOST_NODES-clause-refused : goal.returns-then-len-gt-MOST_NODES-clause-refused
returns-then-len-gt-MOST_NODES-clause-refused c known =
    let few : length c.args.rows.now.records ≤ most_arcs = omega (arith, c.len.ensures, c.if-len-gt-MOST_ARCS.false) in
    let within : c.rows.row < length c.args.rows.now.records = omega (arith, c.len-row-end.ensures) in
    let accepted = c.in_ok-named.ensures.accepted in
    let nodes = rw (c.in_ok-from.ensures.nodes, accepted.1, accepted.2) at c.in_ok-to.ensures.nodes in
    let many : most_nodes < length (with_row c.rows.nodes.names (record_at c.args.rows.now c.rows.row)) =
    omega (arith, ap length nodes, c.len-in-rows.ensures.len, c.if-len-gt-MOST_NODES.true) in
    network_of-refused c.args.rows.now.records (TooManyNodes (c.rows.row + 1)) few (first_refusal-nodes c.args.rows.now.records c.rows.row c.rows.nodes.names
    within c.rows.invariant.1 accepted.0 many c.rows.invariant.0)

pub rows-preserved : goal.rows-preserved
rows-preserved c =
    let inv = c.rows.invariant in
    let within : c.rows.row < length c.args.rows.now.records = omega (arith, c.len-row-end.ensures) in
    let accepted = c.in_ok-named.ensures.accepted in
    let small = c.in_ok-named.ensures.small in
    let nodes = rw (c.in_ok-from.ensures.nodes, accepted.1, accepted.2) at c.in_ok-to.ensures.nodes in
    let few : length (with_row c.rows.nodes.names (record_at c.args.rows.now c.rows.row)) ≤ most_nodes =
    omega (arith, ap length nodes, c.len-in-rows.ensures.len, c.if-len-gt-MOST_NODES.false) in
    let good : is_ok c.push.result ≡ true = rw c.if-is_err.false at c.is_err.ensures.negation in
    let pushed = rw good at c.push.ensures.items in
    let arc = arc_in-numbered c.rows.nodes.names (record_at c.args.rows.now c.rows.row) c.in_ok-from.from c.in_ok-to.to c.in_ok-named.named.seconds
    (rw (c.in_ok-from.ensures.nodes, accepted.1) at c.in_ok-from.ensures.index)
    (rw (nodes, accepted.2) at c.in_ok-to.ensures.index) accepted.3 in
    rw nodes (
      first_refusal-next c.args.rows.now.records c.rows.row c.rows.nodes.names within inv.1 accepted.0 few inv.0,
      nodes_of-more c.args.rows.now.records c.rows.row c.rows.nodes.names within inv.1,
      few,
      pushed ∙ arcs-more c.args.rows.now.records c.rows.row c.rows.nodes.names c.rows.arcs.items
          (record { from = c.in_ok-from.from; to = c.in_ok-to.to; seconds = c.in_ok-named.named.seconds }) within inv.4 inv.3 arc,
      All-numbered-more c.args.rows.now.records c.rows.row c.rows.nodes.names within inv.4,
      All-more (λ fields. arc_seconds fields ≤ longest_arc) c.args.rows.now.records c.rows.row [] within inv.5 (rw (← accepted.3) small.2),
      All-with_name (λ name. name ≤ greatest_name) _ _ (All-with_name (λ name. name ≤ greatest_name) c.rows.nodes.names _ inv.6 (rw (← accepted.1) small.0))
          (rw (← accepted.2) small.1),
    )

pub of-requires-clause-distinct : goal.of-requires-clause-distinct
of-requires-clause-distinct c = rw c.names.ensures.names c.names.ensures.distinct

pub of-requires-clause-among : goal.of-requires-clause-among
of-requires-clause-among c =
    let inv = c.rows.invariant in
    rw c.names.ensures.names (All-same (IsArcAmong (length c.rows.nodes.names)) c.as_slice.result.now
    (map (arc_in c.rows.nodes.names) (take c.rows.row c.args.rows.now.records)) (c.as_slice.ensures.value ∙ inv.3)
    (All-arc_in c.rows.nodes.names (take c.rows.row c.args.rows.now.records) inv.4 inv.5))

pub returns-in-Ok-clause-network : goal.returns-in-Ok-clause-network
returns-in-Ok-clause-network c =
    let inv = c.rows.invariant in
    let few : length c.args.rows.now.records ≤ most_arcs = omega (arith, c.len.ensures, c.if-len-gt-MOST_ARCS.false) in
    let all : length c.args.rows.now.records ≤ c.rows.row = omega (arith, c.len-row-end.ensures) in
    let whole = take_all c.rows.row c.args.rows.now.records all in
    let nodes = rw whole at inv.1 in
    let arcs = rw (whole, nodes) at (c.as_slice.ensures.value ∙ inv.3) in
    let accepted = network_of-accepted c.args.rows.now.records few (first_refusal-end c.args.rows.now.records c.rows.row all inv.0) in
    let network = rw (c.names.ensures.names, arcs, nodes) at c.in-Ok.ensures in
    accepted ∙ ap Ok (sym network)

pub returns-in-Ok-clause-every_row : goal.returns-in-Ok-clause-every_row
returns-in-Ok-clause-every_row c =
    let inv = c.rows.invariant in
    let all : length c.args.rows.now.records ≤ c.rows.row = omega (arith, c.len-row-end.ensures) in
    let whole = take_all c.rows.row c.args.rows.now.records all in
    let arcs = rw whole at (c.as_slice.ensures.value ∙ inv.3) in
    let among = All-same (IsArcAmong (length c.rows.nodes.names)) c.as_slice.result.now (map (arc_in c.rows.nodes.names)
    (take c.rows.row c.args.rows.now.records)) (c.as_slice.ensures.value ∙ inv.3) (All-arc_in c.rows.nodes.names (take c.rows.row c.args.rows.now.records)
    inv.4 inv.5) in
    let network = rw c.names.ensures.names at c.in-Ok.ensures in
    rw network (length-by_start-all (length c.rows.nodes.names) c.as_slice.result.now among ∙ ap length arcs ∙
    length-map c.args.rows.now.records (arc_in c.rows.nodes.names))
