use Rattle.std.proofs.Common.{append-nil, sym}
use Rattle.dispatch_report.proofs.Common.{stop_text}
use Rattle.dispatch_report.proofs.LineLemmas.{put-next}
use Rattle.dispatch_report.proofs.block.put_stops.Goals as goal

pub loop-stop-init : goal.loop-stop-init
loop-stop-init c = sym (append-nil _)

pub loop-stop-preserved : goal.loop-stop-preserved
loop-stop-preserved c = put-next stop_text c.args.stops.now c.loop-stop.stop-index c.stop-item.result _ _ _ c.loop-stop-test.true c.stop-item.is
    c.loop-stop.invariant c.in_ok-put_stop.ensures
