use Rattle.std.proofs.Common.{ℕ, slice_index, sym, ap}
use Rattle.route_drive.proofs.Common.{WalkStep, get_or_from_slice_get}
use Rattle.route_drive.proofs.walk.step_at.Goals as goal

pub returns : goal.returns
returns c = ap (λ (n : ℕ). let s : WalkStep = record { node = n; seconds = slice_index c.args.times.now c.args.node } in s)
    (sym (get_or_from_slice_get c.args.network.now.nodes c.args.node c.node_at.result 0 c.node_at.ensures.named))
