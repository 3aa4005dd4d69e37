use Rattle.std.proofs.Common.{ap, sym}
use Rattle.ridepool.specs.Text.{audit_text}
use Rattle.ridepool.proofs.text.audit_phrase.Goals as goal

pub returns-in-Batch : goal.returns-in-Batch
returns-in-Batch c = rw c.point_place.ensures (sym (ap audit_text c.in-Batch.is))
