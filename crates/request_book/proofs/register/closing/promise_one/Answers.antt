use Rattle.std.proofs.Common.{Bool, cond, ap, ◌∙◌, ◌&&◌}
use Rattle.request_book.proofs.Common.{BookRider, Promised, takes_promise, with_status, is_waiting}
use Rattle.request_book.proofs.lemmas.register.RegisterLemmas.{write_found, write_none, eqb_comm}
use Rattle.request_book.proofs.register.closing.promise_one.Goals as goal

pub returns-in-Some-clause-changed : goal.returns-in-Some-clause-changed
returns-in-Some-clause-changed c =
    let e = c.in-Some.ensures in
    let x = c.index_mut.result.now in
    let took : Bool → BookRider = λ l. cond (l && is_waiting x.status) (with_status (Promised c.args.promise) x) x in
    write_found (λ r. r.id) c.args.rider _ (eqb_comm c.args.rider) c.args.riders.now.items c.requires.differ
    (takes_promise c.args.batch.now (record { rider = c.args.rider; promise = c.args.promise })) c.args.ids.now.names c.in-Some.at x
    c.take_promise.new.rider c.requires.ids (rw c.get.ensures.value at e.number) c.index_mut.ensures.value
    (c.take_promise.ensures ∙ ap took c.in_batch-listed.ensures)

pub returns-in_default-clause-changed : goal.returns-in_default-clause-changed
returns-in_default-clause-changed c =
    let e = c.in_default.ensures in
    write_none (λ r. r.id) c.args.rider _ (eqb_comm c.args.rider) c.args.riders.now.items c.requires.differ
    (takes_promise c.args.batch.now (record { rider = c.args.rider; promise = c.args.promise })) c.args.ids.now.names c.requires.ids
    (rw c.get.ensures.value at e.number) (rw c.get.ensures.value at e.found)
