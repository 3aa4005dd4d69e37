use Rattle.request_book.proofs.notices.ToldLemmas.{heard-next}
use Rattle.request_book.proofs.notices.telling.tell_one.Goals as goal

pub loop-notice-preserved : goal.loop-notice-preserved
loop-notice-preserved g c =
    heard-next c.args.notices.now c.loop-notice.notice-index c.notice-item.result _ _ _ c.loop-notice-test.true c.notice-item.is c.loop-notice.invariant
    c.in_ok-tell_once.ensures.heard
