use Rattle.route_drive.proofs.kept.Promised.{days_keep}
use Rattle.route_drive.proofs.laws.days_keep.Goals as goal

pub returns : goal.returns
returns c = days_keep
