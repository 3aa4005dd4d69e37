use Rattle.std.proofs.Common.{Some, None, sym, ap, ◌∙◌}
use Rattle.request_book.proofs.Common.{Reply, Cancelled, State, state_of}
use Rattle.request_book.proofs.lemmas.register.IndexLemmas.{less-room}
use Rattle.request_book.proofs.lemmas.register.StepLemmas.{cancel-unknown, cancel-known}
use Rattle.request_book.proofs.register.Register.cancel.Goals as goal

pub returns-in_default-clause-stepped : goal.returns-in_default-clause-stepped
returns-in_default-clause-stepped c = cancel-unknown (state_of c.args.self.now) c.args.rider (sym c.rider.ensures ∙ c.in_default.is)

pub returns-in-Some-first_of-clause-stepped : goal.returns-in-Some-first_of-clause-stepped
returns-in-Some-first_of-clause-stepped c =
    cancel-known (state_of c.args.self.now) c.args.rider c.in-Some.found (Some c.in-Some-first_of.refusal) _ _ (sym c.rider.ensures ∙ c.in-Some.is)
    (sym c.in-Some-first_of.is ∙ c.first_of.ensures) c.is_aboard.ensures c.has_ended.ensures

pub returns-in-None-clause-stepped : goal.returns-in-None-clause-stepped
returns-in-None-clause-stepped c =
    let cancelled : State → State × Reply = λ s. (s, Cancelled) in
    ap cancelled c.retire.ensures.state
    ∙ cancel-known (state_of c.args.self.now) c.args.rider c.in-Some.found None _ _ (sym c.rider.ensures ∙ c.in-Some.is) (sym c.in-None.is ∙ c.first_of.ensures)
    c.is_aboard.ensures c.has_ended.ensures

pub returns-in-None-clause-room : goal.returns-in-None-clause-room
returns-in-None-clause-room c n room = c.retire.ensures.room n (less-room n c.args.self.now room)
