use Rattle.std.proofs.Common.{rules}
use Rattle.shared_work.proofs.Keeps.{draws_kept}
use Rattle.shared_work.proofs.claims.draw.Goals as goal

pub fetch_add-requires : goal.fetch_add-requires
fetch_add-requires c = (search rules, search rules, draws_kept _ _ _ _ _ c.requires.part c.requires.none_past)
