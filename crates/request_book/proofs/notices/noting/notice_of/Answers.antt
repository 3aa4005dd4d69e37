use Rattle.std.proofs.Common.{sym, ◌∙◌, arith}
use Rattle.request_book.proofs.notices.NoticeLemmas.{notice-here, notice-next, notice-none}
use Rattle.request_book.proofs.notices.noting.notice_of.Goals as goal

pub returns-in-Some : goal.returns-in-Some
returns-in-Some c =
    sym (notice-here c.args.batch c.args.chosen.now c.args.rider c.loop-trip.trip-index c.trip-item.result c.in-Some.notice c.loop-trip-test.true c.trip-item.is
    (sym c.trip_notice.ensures ∙ c.in-Some.is))
    ∙ c.loop-trip.invariant

pub loop-trip-preserved : goal.loop-trip-preserved
loop-trip-preserved c =
    notice-next c.args.batch c.args.chosen.now c.args.rider c.loop-trip.trip-index c.trip-item.result c.loop-trip-test.true c.trip-item.is
    (sym c.trip_notice.ensures ∙ c.in_default.is)
    ∙ c.loop-trip.invariant

pub returns : goal.returns
returns c = sym (notice-none c.args.batch c.args.chosen.now c.args.rider c.loop-trip.trip-index (omega arith)) ∙ c.loop-trip.invariant
