use Rattle.std.proofs.Common.{◌≡◌, ◌<◌, ◌+◌, length, get_or, leb, true, false, take, sym, ap, ◌∙◌, arith}
use Rattle.route_drive.proofs.Common.{PlannedStop, Stay, due, standing_after, reported_place, le-leb, lt-leb}
use Rattle.route_drive.proofs.EnterLemmas.{filter_skips, filter_takes, standing-push}
use Rattle.route_drive.proofs.places.standing.Goals.{then-stop-now, else-stop-now}
use Rattle.route_drive.proofs.places.standing.Goals as goal

pub loop-stop-preserved : goal.loop-stop-preserved
loop-stop-preserved c =
    let stops = c.args.stops.now in
    let i = c.loop-stop.stop-index in
    let stop = c.stop-item.result in
    let now = c.get-now.result in
    let within : c.loop-stop.stop-index < length c.args.stops.now = omega arith in
    let same : get_or c.args.stops.now c.loop-stop.stop-index c.stop-item.result ≡ c.stop-item.result = sym c.stop-item.is in
    let p = λ (s : PlannedStop). leb s.second c.get-now.result in
    elim c.if-stop-now.branch [
      | then-stop-now w ↦
          let kept : leb (get_or c.args.stops.now c.loop-stop.stop-index c.stop-item.result).second c.get-now.result ≡ true =
          rw same (le-leb stop.second now w.if-stop-now.true) in
          let more : due c.get-now.result (take (i + 1) stops) ≡ _ = filter_takes p stops i stop within kept in
          record {
            after = rw w.at-is (sym (ap (standing_after c.args.dwell (reported_place c.args.vehicle.now)) more ∙
                standing-push c.args.dwell (reported_place c.args.vehicle.now) (due now (take i stops)) (get_or stops i stop)
                ∙ ap (λ (s : PlannedStop). let at : Stay = record { node = s.node; second = s.second; free = s.second + c.args.dwell } in at) same));
            short = rw w.at-is (omega (arith, c.get-now.ensures.within, c.get-now.ensures.value, w.if-stop-now.true));
          }
      | else-stop-now w ↦
          let left : leb (get_or c.args.stops.now c.loop-stop.stop-index c.stop-item.result).second c.get-now.result ≡ false =
          rw same (lt-leb stop.second now w.if-stop-now.false) in
          let none : due c.get-now.result (take (i + 1) stops) ≡ _ = filter_skips p stops i stop within left in
          record {
            after = rw w.at-is (c.loop-stop.invariant.after ∙ sym (ap (standing_after c.args.dwell (reported_place c.args.vehicle.now)) none));
            short = rw w.at-is c.loop-stop.invariant.short;
          }
    ]
