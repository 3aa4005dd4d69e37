use Rattle.std.proofs.Common.{◌≡◌, ◌-◌, length, take}
use Rattle.request_book.proofs.Common.{state_of, IsIndexed, HasRoom}
use Rattle.request_book.proofs.register.Register.place_all.Given as goal

abbrev pub invariant-loop-rider : goal.invariant-loop-rider
invariant-loop-rider l = record {
  state : state_of l.self ≡ record (state_of l.initial.self) { riders = take l.rider-index l.riders };
  indexed : IsIndexed l.self;
  room : HasRoom (length l.riders - l.rider-index) l.self;
}
