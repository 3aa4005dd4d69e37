use Rattle.std.proofs.Common.{Some, None, sym, ap, ◌∙◌}
use Rattle.request_book.proofs.Common.{Reply, Accepted, State, state_of}
use Rattle.request_book.proofs.lemmas.register.StepLemmas.{submit-fits, submit-known}
use Rattle.request_book.proofs.register.Register.submit.Goals as goal

pub place-requires-clause-new : goal.place-requires-clause-new
place-requires-clause-new c = (submit-fits c.args.nodes.now.names (state_of c.args.self.now) c.args.new.now (sym c.submit_refusal.ensures ∙ c.in-None.is)).0

pub place-requires-clause-pool_room : goal.place-requires-clause-pool_room
place-requires-clause-pool_room c active = (submit-fits c.args.nodes.now.names (state_of c.args.self.now) c.args.new.now
    (sym c.submit_refusal.ensures ∙ c.in-None.is)).1

pub returns-in-Some-clause-stepped : goal.returns-in-Some-clause-stepped
returns-in-Some-clause-stepped c =
    submit-known c.args.nodes.now.names (state_of c.args.self.now) c.args.new.now (Some c.in-Some.refusal) (sym c.in-Some.is ∙ c.submit_refusal.ensures)

pub returns-in-None-clause-stepped : goal.returns-in-None-clause-stepped
returns-in-None-clause-stepped c =
    let accepted : State → State × Reply = λ s. (s, Accepted) in
    ap accepted c.place.ensures.state ∙ submit-known c.args.nodes.now.names (state_of c.args.self.now) c.args.new.now None
    (sym c.in-None.is ∙ c.submit_refusal.ensures)
