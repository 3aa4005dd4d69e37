use Rattle.request_book.proofs.lemmas.BookLemmas.{stored-roomier}
use Rattle.request_book.proofs.book.Book.reserve_with_seals.Goals as goal

pub invariant_of-self-in_err-reserve-2 : goal.invariant_of-self-in_err-reserve-2
invariant_of-self-in_err-reserve-2 c =
    let h = c.self.invariant in
    stored-roomier _ _ _ _ _ _ _ _ h c.in_ok-reserve.ensures.items c.in_err-reserve-2.ensures.state c.in_ok-reserve.ensures.len c.in_ok-reserve.ensures.capacity
    c.in_err-reserve-2.ensures.indexed (c.in_err-reserve-2.ensures.room c.self.inside.reserved h.room)

pub invariant_of-self-2 : goal.invariant_of-self-2
invariant_of-self-2 c =
    let h = c.self.invariant in
    stored-roomier _ _ _ _ _ _ _ _ h c.in_ok-reserve.ensures.items c.reserve-2.ensures.state c.in_ok-reserve.ensures.len c.in_ok-reserve.ensures.capacity
    c.reserve-2.ensures.indexed (c.reserve-2.ensures.room c.self.inside.reserved h.room)
