use Rattle.request_book.proofs.lemmas.register.IndexLemmas.{IsIndexed-leaves}
use Rattle.request_book.proofs.register.Register.retire.Goals as goal

pub returns-clause-indexed : goal.returns-clause-indexed
returns-clause-indexed c =
    IsIndexed-leaves c.args.self.now c.change_status.new.riders c.leave.new.pool c.args.rider c.args.status c.requires.inactive c.change_status.ensures.changed
    c.leave.ensures.items c.leave.ensures.room c.requires.indexed
