use Rattle.seat_lock.proofs.KeepsTurns.{ends, closes}
use Rattle.seat_lock.proofs.hand_out.close.Goals as goal

pub unreachable-requires : goal.unreachable-requires
unreachable-requires g c =
    let e = ends g.B.Logged.root g.B.Logged.log g.B.Logged.spare c.args.queue.shared.key.opening.value c.args.queue.shared.key.lanes _ _ _ _ c.requires.claims.0
    c.requires.claims.1 c.close_with-closed.ensures.values.2 in
    let lies = e.lies in let at = c.take-value.ensures.value in let none = c.in-None.is in cc

pub returns : goal.returns
returns g c =
    let e = ends g.B.Logged.root g.B.Logged.log g.B.Logged.spare c.args.queue.shared.key.opening.value c.args.queue.shared.key.lanes _ _ _ _ c.requires.claims.0
    c.requires.claims.1 c.close_with-closed.ensures.values.2 in
    closes g.B.Logged.root g.B.Logged.log g.B.Logged.spare c.args.queue.shared.key.opening.value c.args.queue.shared.key.lanes _ _ _ _ e
    c.take-value.ensures.value c.in-Some.is
