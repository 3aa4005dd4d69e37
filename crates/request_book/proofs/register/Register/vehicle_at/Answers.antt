use Rattle.request_book.proofs.lemmas.values.KeyedLemmas.{KeysDiffer-from_rise}
use Rattle.request_book.proofs.lemmas.register.RegisterLemmas.{found_by_keys, eqb_comm}
use Rattle.request_book.proofs.register.Register.vehicle_at.Goals as goal

pub returns : goal.returns
returns c =
    let g = c.args.self.now in
    let e = c.number_of.ensures in
    found_by_keys (λ v. v.id) c.args.vehicle _ (eqb_comm c.args.vehicle) g.vehicles.items (KeysDiffer-from_rise (λ v. v.id) g.vehicles.items
    c.requires.vehicles) g.vehicle_ids.names c.number_of.result c.requires.vehicle_ids (rw c.get.ensures.value at e.number)
    (rw c.get.ensures.value at e.found)
