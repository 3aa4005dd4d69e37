use Rattle.route_drive.proofs.RestLemmas.{suffix_serves}
use Rattle.route_drive.proofs.laws.orders_go_on.Goals as goal

pub returns : goal.returns
returns c = suffix_serves
