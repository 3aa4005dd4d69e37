use Rattle.std.proofs.Common.{◌≡◌, ◌==◌, ◌<◌, ◌≤◌, ℕ, List, [], All, length, sym, ap, ◌∙◌, subst, arith}
use Rattle.report_audit.proofs.Common.{
  filter_range_below,
  filter_range_rises,
  kept_few,
  nil_from_length,
  point_count,
  travel_time,
  MoveLine,
  idle_vehicles,
  is_idle,
  no_moves,
}
use Rattle.std.proofs.lemmas.Bool.{eq-eqb, eqb-true}
use Rattle.plan_rules.specs.lemmas.Plan.{times_chosen}
use Rattle.report_audit.proofs.lemmas.points.IdleLemmas.{own_places, none_move}
use Rattle.report_audit.proofs.points.moves.are_moves.Goals as goal

pub returns-then-is_empty : goal.returns-then-is_empty
returns-then-is_empty c =
    let tau = travel_time c.args.graphs.now.instance.now.times.now in let settled = c.args.graphs.now.instance.now.settled.now in let left =
    c.args.left.now in let moves = c.args.moves.now in
    let idle = idle_vehicles settled c.args.graphs.now.graph.now c.args.chosen.now in
    let nobody : length c.in_ok-idle.idle.items ≡ 0 = grind (arith, c.is_empty.ensures, c.if-is_empty.true) in
    let none : idle ≡ [] = sym c.in_ok-idle.ensures.value ∙ nil_from_length c.in_ok-idle.idle.items nobody in
    let told = c.is_empty-then-is_empty.ensures in (
      λ is. no_moves tau settled idle left moves none (nil_from_length moves (eqb-true (length moves) 0 (sym told ∙ is))),
      λ are. told ∙ eq-eqb (length moves) 0 (ap (λ (ms : List MoveLine). length ms) (none_move tau settled idle left moves none are)),
    )

pub are_best-requires-clause-places : goal.are_best-requires-clause-places
are_best-requires-clause-places c =
    let settled = c.args.graphs.now.instance.now.settled.now in let graph = c.args.graphs.now.graph.now in let chosen = c.args.chosen.now in let left =
    c.args.left.now in
    let some : 0 < length c.in_ok-idle.idle.items = grind (arith, c.is_empty.ensures, c.if-is_empty.false) in
    let few : length c.in_ok-idle.idle.items ≤ length settled.vehicles = c.in_ok-idle.ensures.few in
    let left_out : All (λ r. r < length settled.riders) left =
    subst (λ (n : ℕ). All (λ r. r < n) left) c.requires.exact.exact.rider_total
    (subst (λ (rs : List ℕ). All (λ r. r < graph.riders) rs) (sym c.requires.left) (filter_range_below (λ r. times_chosen graph chosen r == 0) graph.riders)) in
    rw (c.deref.ensures.value, c.in_ok-idle.ensures.value)
    (own_places c.args.graphs.now.instance.now.settings.now.trip (point_count c.args.graphs.now.instance.now.times.now)
    (travel_time c.args.graphs.now.instance.now.times.now) settled (idle_vehicles settled graph chosen) left c.requires.exact.sound (omega arith)
    (filter_range_below (is_idle settled graph chosen) (length settled.vehicles)) left_out
    (filter_range_rises (is_idle settled graph chosen) (length settled.vehicles))
    (rw c.requires.left (filter_range_rises (λ r. times_chosen graph chosen r == 0) graph.riders)))

pub are_best-requires-clause-few_riders : goal.are_best-requires-clause-few_riders
are_best-requires-clause-few_riders c =
    let few = kept_few (λ r. times_chosen c.args.graphs.now.graph.now c.args.chosen.now r == 0) c.args.graphs.now.graph.now.riders in
    let most : length c.args.graphs.now.instance.now.settled.now.riders ≤ 1000 = c.requires.exact.sound.rider_count in
    let total = c.requires.exact.exact.rider_total in
    rw c.requires.left (omega arith)

pub returns : goal.returns
returns c = rw (c.deref.ensures.value, c.in_ok-idle.ensures.value) at c.are_best.ensures
