use Rattle.std.proofs.Common.{append-nil, sym}
use Rattle.dispatch_report.proofs.Common.{spaced}
use Rattle.dispatch_report.proofs.LineLemmas.{put-next}
use Rattle.dispatch_report.proofs.words.put_riders.Goals as goal

pub loop-rider-init : goal.loop-rider-init
loop-rider-init c = sym (append-nil _)

pub loop-rider-preserved : goal.loop-rider-preserved
loop-rider-preserved c = put-next spaced c.args.riders.now c.loop-rider.rider-index c.rider-item.result _ _ _ c.loop-rider-test.true c.rider-item.is
    c.loop-rider.invariant (rw (c.from.ensures, c.get.ensures.value) at c.in_ok-put_spaced.ensures)
