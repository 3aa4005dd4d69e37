use Rattle.std.proofs.Common.{◌≡◌, ℕ, ◌+◌, ◌-◌, ◌<◌, List, sym, ap, subst, arith}
use Rattle.request_book.proofs.Common.{Entry, State, BookView, IsBook, state_of, HasRoom}
use Rattle.request_book.proofs.lemmas.BookLemmas.{applied-book}
use Rattle.request_book.proofs.book.Book.apply.Goals as goal

pub invariant_of-self-in-Err-run : goal.invariant_of-self-in-Err-run
invariant_of-self-in-Err-run c =
    let b = c.self.inside in
    let h = c.self.invariant in
    let view : State → BookView = λ s. record {
      nodes = b.nodes.names;
      wait = b.wait;
      first = b.first;
      base = b.base;
      entries = b.entries.items;
      state =
          s;
      spare = b.reserved;
    } in
    record {
      book = subst (λ s. IsBook (view s)) (sym c.in-Err-run.ensures.err) h.book;
      indexed = c.run.ensures.indexed;
      room = c.in-Err-run.ensures.kept b.reserved h.room;
      entries = h.entries;
    }

pub invariant_of-self : goal.invariant_of-self
invariant_of-self c =
    let b = c.self.inside in
    let h = c.self.invariant in
    let view : State → List Entry → ℕ → BookView = λ s es n. record {
      nodes = b.nodes.names;
      wait = b.wait;
      first = b.first;
      base = b.base;
      entries =
          es;
      state = s;
      spare = n;
    } in
    let spare : b.reserved ≡ c.make_room.new.self.spare = ap (λ (v : BookView). v.spare) c.self.view_is in
    let some : 0 < b.reserved = omega (arith, spare, c.in-Ok.ensures.room) in
    let one_less : b.reserved ≡ (b.reserved - 1) + 1 = omega (arith, some) in
    record {
      book = subst (λ es. IsBook (view (state_of c.run.new.self) es (b.reserved - 1))) (sym c.append.ensures.items)
          (applied-book (view (state_of b.register) b.entries.items b.reserved) c.args.lane c.args.command c.in-Ok-run.reply (state_of c.run.new.self)
          (b.reserved - 1) h.book c.in-Ok-run.ensures.ok);
      indexed = c.run.ensures.indexed;
      room = c.run.ensures.room (b.reserved - 1) (subst (λ n. HasRoom n b.register) one_less h.room);
      entries = omega (arith, some, h.entries, c.append.ensures.len, c.append.ensures.capacity);
    }
