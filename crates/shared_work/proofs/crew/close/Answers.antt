use Rattle.std.proofs.Common.{sym, ◌∙◌}
use Rattle.shared_work.proofs.Keeps.{ends, each_drawn}
use Rattle.shared_work.proofs.crew.close.Goals as goal

pub returns-clause-once : goal.returns-clause-once
returns-clause-once g c =
    let r = c.requires.ended in
    let e = ends c.args.claims.shared.key.pieces c.args.claims.shared.key.workers _ _ _ _ r.whole c.close_with-closed.ensures.values.2 in
    λ k lt. sym (r.matches.done_drawn k lt) ∙ each_drawn c.args.claims.shared.key.pieces e.0 c.args.all.hand.me.0.numbers e.1 r.matches.past_drawn k lt
