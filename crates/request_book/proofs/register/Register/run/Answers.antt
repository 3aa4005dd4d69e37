use Rattle.std.proofs.Common.{◌≡◌, ◌∙◌}
use Rattle.request_book.proofs.Common.{Seal, state_of, step, table_step}
use Rattle.std.proofs.lemmas.Result.{IfOk-weaker}
use Rattle.request_book.proofs.lemmas.register.StepTable.{step-is}
use Rattle.request_book.proofs.lemmas.register.IndexLemmas.{less-room}
use Rattle.request_book.proofs.register.Register.run.Goals as goal

pub returns-in-Submit-clause-ok : goal.returns-in-Submit-clause-ok
unfolding table_step
returns-in-Submit-clause-ok c = c.submit.ensures.stepped ∙ step-is c.args.nodes.now.names c.args.wait (state_of c.args.self.now) c.args.command.now _
    c.in-Submit.is

pub returns-in-Cancel-clause-ok : goal.returns-in-Cancel-clause-ok
unfolding table_step
returns-in-Cancel-clause-ok c = c.cancel.ensures.stepped ∙ step-is c.args.nodes.now.names c.args.wait (state_of c.args.self.now) c.args.command.now _
    c.in-Cancel.is

pub returns-in-Report-clause-ok : goal.returns-in-Report-clause-ok
unfolding table_step
returns-in-Report-clause-ok c = c.report.ensures.stepped ∙ step-is c.args.nodes.now.names c.args.wait (state_of c.args.self.now) c.args.command.now _
    c.in-Report.is

pub returns-in-Pickup-clause-ok : goal.returns-in-Pickup-clause-ok
unfolding table_step
returns-in-Pickup-clause-ok c = c.pickup.ensures.stepped ∙ step-is c.args.nodes.now.names c.args.wait (state_of c.args.self.now) c.args.command.now _
    c.in-Pickup.is

pub returns-in-Dropoff-clause-ok : goal.returns-in-Dropoff-clause-ok
unfolding table_step
returns-in-Dropoff-clause-ok c = c.dropoff.ensures.stepped ∙ step-is c.args.nodes.now.names c.args.wait (state_of c.args.self.now) c.args.command.now _
    c.in-Dropoff.is

pub returns-in-Close-clause-ok : goal.returns-in-Close-clause-ok
unfolding table_step
returns-in-Close-clause-ok c = c.close.ensures.stepped ∙ step-is c.args.nodes.now.names c.args.wait (state_of c.args.self.now) c.args.command.now _
    c.in-Close.is

pub returns-in-Seal-clause-ok : goal.returns-in-Seal-clause-ok
unfolding table_step
returns-in-Seal-clause-ok c =
    let s = state_of c.args.self.now in
    IfOk-weaker c.seal.result (λ reply. (state_of c.seal.new.self, reply) ≡ table_step c.args.nodes.now.names c.args.wait s (Seal c.in-Seal.now))
    (λ reply. (state_of c.seal.new.self, reply) ≡ step c.args.nodes.now.names c.args.wait s c.args.command.now)
    (λ reply e. e ∙ step-is c.args.nodes.now.names c.args.wait s c.args.command.now _ c.in-Seal.is) c.seal.ensures.ok

pub returns-in-Seal-clause-room : goal.returns-in-Seal-clause-room
returns-in-Seal-clause-room c n room = c.seal.ensures.room n (less-room n c.args.self.now room)
