use Rattle.std.proofs.Common.{◌≡◌, ℕ, List, [], sym, ap, subst, ◌∙◌, arith}
use Rattle.request_book.proofs.Common.{Vehicle, Entry, State, BookView, IsBook, opening, KeysRise, state_of}
use Rattle.request_book.proofs.lemmas.BookLemmas.{opening-book, fleet-rise}
use Rattle.request_book.proofs.lemmas.register.IndexLemmas.{no-room}
use Rattle.request_book.proofs.book.Book.over.Goals as goal

pub of-requires : goal.of-requires
of-requires c =
    subst (KeysRise (λ (v : Vehicle). v.id)) (sym c.into_vehicles-vehicles.ensures.vehicles)
    (fleet-rise c.args.nodes.names c.args.fleet c.into_vehicles-vehicles.ensures.kept)

pub invariant_of-result : goal.invariant_of-result
invariant_of-result c =
    let fleet = c.args.fleet in
    let nodes = c.args.nodes.names in
    let taken = c.into_vehicles-vehicles.ensures.vehicles in
    let view : List ℕ → State → List Entry → State → BookView = λ ns base es s. record {
      nodes = ns;
      wait = c.args.wait;
      first = 0;
      base = base;
      entries =
          es;
      state = s;
      spare = 0;
    } in
    let base : c.opening.result ≡ opening fleet =
    c.opening.ensures ∙ ap opening (c.in-Ok.ensures ∙ c.deref.ensures.value ∙ taken) in
    let state : state_of c.in-Ok-of.register ≡ opening fleet = c.in-Ok-of.ensures.state ∙ ap opening taken in
    let same : view nodes c.opening.result c.new.result.items (state_of c.in-Ok-of.register) ≡ view nodes (opening fleet) [] (opening fleet) =
    ap (λ t. view nodes t c.new.result.items (state_of c.in-Ok-of.register)) base
    ∙ ap (λ es. view nodes (opening fleet) es (state_of c.in-Ok-of.register)) c.new.ensures.items
    ∙ ap (view nodes (opening fleet) []) state in
    record {
      book = subst IsBook (sym same) (opening-book nodes fleet c.into_vehicles-vehicles.ensures.kept c.args.wait c.requires);
      indexed = c.in-Ok-of.ensures.indexed;
      room = no-room c.in-Ok-of.register;
      entries = omega (arith, c.new.result.ok.1);
    }
