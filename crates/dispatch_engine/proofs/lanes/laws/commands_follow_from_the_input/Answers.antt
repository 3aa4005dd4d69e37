use Rattle.dispatch_engine.proofs.lanes.SameLemmas.{commands-same}
use Rattle.dispatch_engine.proofs.lanes.laws.commands_follow_from_the_input.Goals as goal

pub returns : goal.returns
returns c = commands-same
