use Rattle.std.proofs.Common.{[], sym, ap, ◌∙◌}
use Rattle.request_book.proofs.Common.{picks, after_answer, promised_in_turn}
use Rattle.request_book.proofs.lemmas.register.CloseLemmas.{released, promised-all}
use Rattle.request_book.proofs.register.closing.settle.Goals as goal

pub returns-in-Planned-clause-settled : goal.returns-in-Planned-clause-settled
unfolding after_answer
returns-in-Planned-clause-settled c =
    let batch = c.args.batch.now in
    let rs = c.args.riders.now.items in
    let plan = c.in-Planned.plan in
    c.promise_all.ensures.promised
    ∙ ap (λ l. promised_in_turn batch (picks l) c.release.new.riders.items) c.as_slice.ensures
    ∙ ap (promised_in_turn batch (picks plan.chosen)) (c.release.ensures.changed ∙ released batch rs)
    ∙ promised-all batch [] (picks plan.chosen) rs
    ∙ sym (ap (λ a. after_answer batch a rs) c.in-Planned.is)

pub returns-in_default-clause-settled : goal.returns-in_default-clause-settled
unfolding after_answer
returns-in_default-clause-settled c = sym (ap (λ a. after_answer c.args.batch.now a c.args.riders.now.items) c.in_default.is)
