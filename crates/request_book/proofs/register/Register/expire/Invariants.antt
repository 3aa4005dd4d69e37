use Rattle.std.proofs.Common.{◌≡◌, ℕ, drop}
use Rattle.request_book.proofs.Common.{changed_in_turn, with_status, Expired, state_of, IsIndexed, HasRoom}
use Rattle.request_book.proofs.register.Register.expire.Given as goal

abbrev pub invariant-loop-rider : goal.invariant-loop-rider
invariant-loop-rider l = record {
  turn : changed_in_turn (λ r. r.id) (with_status Expired) (drop l.rider-index l.expired) l.self.riders.items ≡ changed_in_turn (λ r. r.id)
      (with_status Expired) l.expired l.initial.self.riders.items;
  state : state_of l.self ≡ record (state_of l.initial.self) { riders = l.self.riders.items };
  indexed : IsIndexed l.self;
  room : (n : ℕ) → HasRoom n l.initial.self → HasRoom n l.self;
}
