use Rattle.std.proofs.Common.{◌≡◌, drop}
use Rattle.request_book.proofs.Common.{find_passenger}
use Rattle.request_book.proofs.register.riding.seat_of.Given as goal

abbrev pub invariant-loop-seat : goal.invariant-loop-seat
invariant-loop-seat l = find_passenger l.rider (drop l.seat l.aboard) ≡ find_passenger l.rider l.aboard
