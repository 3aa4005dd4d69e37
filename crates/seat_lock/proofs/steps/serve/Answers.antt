use Rattle.std.proofs.Common.{rules}
use Rattle.seat_lock.proofs.KeepsTurns.{serves_as}
use Rattle.seat_lock.proofs.steps.serve.Goals as goal

pub fetch_add-requires : goal.fetch_add-requires
fetch_add-requires g c = (search rules, search rules, serves_as _ _ _ _ _ _ _ _ c.requires.serves)
