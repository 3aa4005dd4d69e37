use Rattle.std.proofs.Common.{◌∙◌}
use Rattle.std.proofs.lemmas.Result.{IfOk-weaker}
use Rattle.live_dispatch.proofs.DeskLemmas.{log-more, log-short}
use Rattle.live_dispatch.proofs.logged.DeskLogged.play.Goals as goal

pub returns-clause-short : goal.returns-clause-short
returns-clause-short g c = log-short c.enter.result c.enter.new.self c.enter.ensures.short

pub returns-clause-entry : goal.returns-clause-entry
returns-clause-entry g c =
    IfOk-weaker c.enter.result _ _
    (λ reply entered. log-more c.args.self.now c.enter.new.self c.args.lane c.args.call.lane c.args.call.command reply
    (c.if-lane-pass_of.false ∙ c.pass_of.ensures) entered)
    c.enter.ensures.entered
