use Rattle.std.proofs.Common.{rules}
use Rattle.seat_lock.proofs.KeepsTurns.{draws}
use Rattle.seat_lock.proofs.steps.draw.Goals as goal

pub fetch_add-requires : goal.fetch_add-requires
fetch_add-requires g c = (search rules, search rules, draws _ _ _ _ _ _ _ _ c.requires.rests.idle c.requires.rests.claims)
