use Rattle.std.proofs.Common.{take}
use Rattle.request_book.specs.notices.Told.{HasHeard}
use Rattle.request_book.proofs.notices.telling.tell_one.Given as goal

abbrev pub invariant-loop-notice : goal.invariant-loop-notice
invariant-loop-notice g l =
    HasHeard (take l.notice-index l.notices)
    (record { told = g.N.Notifier.told l.initial.notifier; faults = g.N.Notifier.faults l.initial.notifier; steady = g.N.Notifier.steady l.initial.notifier })
    (record { told = g.N.Notifier.told l.notifier; faults = g.N.Notifier.faults l.notifier; steady = g.N.Notifier.steady l.notifier })
