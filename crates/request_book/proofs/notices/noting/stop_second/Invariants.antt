use Rattle.std.proofs.Common.{◌≡◌, drop}
use Rattle.request_book.specs.notices.Notices.{stop_second}
use Rattle.request_book.proofs.notices.noting.stop_second.Given as goal

abbrev pub invariant-loop-stop : goal.invariant-loop-stop
invariant-loop-stop l = stop_second l.pick l.rider (drop l.stop-index l.stops) ≡ stop_second l.pick l.rider l.stops
