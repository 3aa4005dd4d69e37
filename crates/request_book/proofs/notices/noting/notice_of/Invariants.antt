use Rattle.std.proofs.Common.{◌≡◌, drop}
use Rattle.request_book.specs.notices.Notices.{notice_of}
use Rattle.request_book.proofs.notices.noting.notice_of.Given as goal

abbrev pub invariant-loop-trip : goal.invariant-loop-trip
invariant-loop-trip l = notice_of l.batch (drop l.trip-index l.chosen) l.rider ≡ notice_of l.batch l.chosen l.rider
