use Rattle.std.proofs.Common.{ℕ, sym, arith}
use Rattle.std.proofs.lemmas.List.{take_all}
use Rattle.travel_times.proofs.Common.{map_more}
use Rattle.travel_times.proofs.labels.rank.nodes_of.Goals as goal

pub loop-key-preserved : goal.loop-key-preserved
loop-key-preserved c = rw (c.in_ok-push.ensures.items, c.loop-key.invariant)
    (sym (map_more (λ (key : ℕ × ℕ). key.1) c.args.keys.now c.loop-key.key-index (0, 0) c.loop-key-test.true))

pub returns : goal.returns
returns c = rw (take_all c.loop-key.key-index c.args.keys.now (omega arith)) at c.loop-key.invariant
