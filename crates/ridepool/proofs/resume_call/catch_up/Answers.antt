use Rattle.ridepool.proofs.ResumeLemmas.{caught-up, none-waits}
use Rattle.ridepool.proofs.resume_call.catch_up.Goals as goal

pub close_open-caught-requires-clause-empty : goal.close_open-caught-requires-clause-empty
close_open-caught-requires-clause-empty g c κs within = (c.requires.ready.empty, c.requires.ready.fresh)

pub close_open-caught-requires-clause-small : goal.close_open-caught-requires-clause-small
close_open-caught-requires-clause-small g c κs within = c.requires.ready.low

pub close_open-caught-requires-clause-nodes : goal.close_open-caught-requires-clause-nodes
close_open-caught-requires-clause-nodes g c κs within = c.requires.ready.named c.in-Some.snapshot c.in-Some.is

pub returns-in-Some-clause-caught : goal.returns-in-Some-clause-caught
returns-in-Some-clause-caught g c =
    caught-up _ _ c.args.book c.args.waits c.in-Some.snapshot _ _ c.requires.ready c.in-Some.is c.close_open-caught.result.book
    c.close_open-caught.ensures.closed

pub returns-in-None-clause-caught : goal.returns-in-None-clause-caught
returns-in-None-clause-caught g c = none-waits _ _ c.args.book c.args.waits _ c.requires.ready c.in-None.is
