use Rattle.std.proofs.Common.{◌∷◌, [], rules, subst}
use Rattle.dispatch_engine.proofs.Common.{on_ok_weaker, on_err_weaker, HasTaken, IsPlain}
use Rattle.dispatch_engine.proofs.lanes.PassLemmas.{runs-plain, begun-none}
use Rattle.dispatch_engine.proofs.lanes.lane.run_command.Goals as goal

pub returns-in_default-clause-run : goal.returns-in_default-clause-run
returns-in_default-clause-run g c =
    let plain : IsPlain c.args.command.now = search rules in
    on_ok_weaker c.take.result
    (λ taken.
    let called = subst (λ command. HasTaken c.args.book.now.start.nodes c.args.pass.now command c.take.new.pass) c.copied.ensures taken in
    runs-plain c.args.solver.now.settings.now c.args.solver.now.network.now c.args.book.now.start.nodes c.args.pass.now c.take.new.pass c.args.command.now
    called.receipt plain called.called)
    c.take.ensures.taken

pub returns-in_default-clause-begun : goal.returns-in_default-clause-begun
returns-in_default-clause-begun g c =
    on_err_weaker c.take.result
    (begun-none c.args.solver.now.settings.now c.args.solver.now.network.now (c.args.command.now ∷ []) c.args.pass.now c.take.new.pass)
    c.take.ensures.refused
