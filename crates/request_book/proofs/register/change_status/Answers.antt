use Rattle.std.proofs.Common.{refl}
use Rattle.request_book.proofs.Common.{with_status}
use Rattle.request_book.proofs.lemmas.register.RegisterLemmas.{write_found, write_none, eqb_comm}
use Rattle.request_book.proofs.register.change_status.Goals as goal

pub returns-in-Some-clause-changed : goal.returns-in-Some-clause-changed
returns-in-Some-clause-changed c =
    let e = c.in-Some.ensures in
    let x = c.index_mut.result.now in
    write_found (λ r. r.id) c.args.rider _ (eqb_comm c.args.rider) c.args.riders.now.items c.requires.differ (with_status c.args.status) c.args.ids.now.names
    c.in-Some.at x (with_status c.args.status x) c.requires.ids (rw c.get.ensures.value at e.number) c.index_mut.ensures.value refl

pub returns-in_default-clause-changed : goal.returns-in_default-clause-changed
returns-in_default-clause-changed c =
    let e = c.in_default.ensures in
    write_none (λ r. r.id) c.args.rider _ (eqb_comm c.args.rider) c.args.riders.now.items c.requires.differ (with_status c.args.status) c.args.ids.now.names
    c.requires.ids (rw c.get.ensures.value at e.number) (rw c.get.ensures.value at e.found)
