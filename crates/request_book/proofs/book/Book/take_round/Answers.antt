use Rattle.std.proofs.Common.{◌≡◌, ℕ, List, [], sym, ap, subst, ◌∙◌, arith}
use Rattle.request_book.proofs.Common.{Entry, State, BookView, IsBook, state_of}
use Rattle.std.specs.Global.{Vec}
use Rattle.request_book.proofs.lemmas.BookLemmas.{round-book}
use Rattle.request_book.proofs.lemmas.register.IndexLemmas.{no-room}
use Rattle.request_book.proofs.book.Book.take_round.Goals as goal

pub invariant_of-self : goal.invariant_of-self
invariant_of-self c =
    let b = c.self.inside in
    let h = c.self.invariant in
    let view : ℕ → State → List Entry → BookView = λ n base es. record {
      nodes = b.nodes.names;
      wait = b.wait;
      first = n;
      base = base;
      entries = es;
      state =
          state_of b.register;
      spare = 0;
    } in
    let before : BookView = record {
      nodes = b.nodes.names;
      wait = b.wait;
      first = b.first;
      base = b.base;
      entries = b.entries.items;
      state =
          state_of b.register;
      spare = b.reserved;
    } in
    let base : c.replace-base.new.dest ≡ state_of b.register =
    c.replace-base.ensures.after ∙ c.in_ok-state.ensures ∙ sym (ap (λ (v : BookView). v.state) c.self.view_is) in
    let entries : c.replace-entries.new.dest.items ≡ [] = ap (λ (v : Vec Entry). v.items) c.replace-entries.ensures.after ∙ c.new.ensures.items in
    let first = c.replace-first.new.dest in
    record {
      book = subst (λ t. IsBook (view first t c.replace-entries.new.dest.items)) (sym base)
          (subst (λ es. IsBook (view first (state_of b.register) es)) (sym entries) (round-book before first h.book));
      indexed = h.indexed;
      room = no-room b.register;
      entries = omega (arith, c.replace-entries.new.dest.ok.1);
    }
