use Rattle.report_audit.proofs.block.LawLemmas.{long_trip_fails}
use Rattle.report_audit.proofs.block.laws.long_trips_fail_by_the_trips.Goals as goal

pub returns : goal.returns
returns c = long_trip_fails
