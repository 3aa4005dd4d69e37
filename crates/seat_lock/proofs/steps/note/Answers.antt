use Rattle.std.proofs.Common.{rules}
use Rattle.seat_lock.proofs.KeepsTurns.{notes_as}
use Rattle.seat_lock.proofs.steps.note.Goals as goal

pub fetch_add-requires : goal.fetch_add-requires
fetch_add-requires g c = (search rules, search rules, notes_as _ _ _ _ _ _ _ _ c.requires.notes)
