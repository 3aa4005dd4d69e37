use Rattle.std.proofs.Common.{◌≡◌, ℕ, ◌+◌, List, length, get_or, sym, ap, ◌∙◌, subst, arith}
use Rattle.plan_rules.proofs.Common.{length_push, IsStartOf, graph_of}
use Rattle.plan_rules.proofs.RowLemmas.{start_next, starts_push}
use Rattle.plan_rules.proofs.row_index.row_starts.Goals as goal

pub loop-vehicle-preserved : goal.loop-vehicle-preserved
loop-vehicle-preserved c =
    let g = graph_of c.args.parts.now in
    let h = c.end_of_vehicle-row.ensures in
    let long : length c.loop-vehicle.starts.items ≡ c.loop-vehicle.vehicle = omega (arith, c.loop-vehicle.invariant.len, c.loop-vehicle.starts.ok.0) in
    record {
      len = omega (arith, c.in_ok-push.ensures.len, c.loop-vehicle.invariant.len);
      before = λ v l. subst (λ (xs : List ℕ). IsStartOf g v (get_or xs v 0)) (sym c.in_ok-push.ensures.items)
          (starts_push g c.loop-vehicle.starts.items c.loop-vehicle.row c.loop-vehicle.vehicle long c.loop-vehicle.invariant.before
          c.loop-vehicle.invariant.here v l);
      here = start_next g c.loop-vehicle.vehicle c.loop-vehicle.row c.end_of_vehicle-row.result c.requires.order c.loop-vehicle.invariant.here h.after h.within
          h.own h.next;
    }

pub returns : goal.returns
returns c =
    let g = graph_of c.args.parts.now in
    let done : c.loop-vehicle.vehicle ≡ g.vehicles = omega arith in
    let long : length c.loop-vehicle.starts.items ≡ c.loop-vehicle.vehicle = omega (arith, c.loop-vehicle.invariant.len, c.loop-vehicle.starts.ok.0) in
    let more : length c.push-2.new.self.items ≡ length c.loop-vehicle.starts.items + 1 = ap length c.in_ok-push-2.ensures.items ∙
    length_push c.loop-vehicle.starts.items c.loop-vehicle.row in
    record {
      sized = omega arith;
      starts = λ v l. subst (λ (xs : List ℕ). IsStartOf g v (get_or xs v 0)) (sym c.in_ok-push-2.ensures.items)
          (starts_push g c.loop-vehicle.starts.items c.loop-vehicle.row c.loop-vehicle.vehicle long c.loop-vehicle.invariant.before
          c.loop-vehicle.invariant.here v (omega (arith, l)));
    }
