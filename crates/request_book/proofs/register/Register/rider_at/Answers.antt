use Rattle.request_book.proofs.lemmas.register.RegisterLemmas.{found_by_keys, eqb_comm}
use Rattle.request_book.proofs.register.Register.rider_at.Goals as goal

pub returns : goal.returns
returns c =
    let g = c.args.self.now in
    let e = c.number_of.ensures in
    found_by_keys (λ r. r.id) c.args.rider _ (eqb_comm c.args.rider) g.riders.items c.requires.riders g.ids.names c.number_of.result c.requires.ids
    (rw c.get.ensures.value at e.number) (rw c.get.ensures.value at e.found)
