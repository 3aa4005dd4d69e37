use Rattle.std.proofs.Common.{ℕ, get_or, refl}
use Rattle.dispatch_engine.proofs.Common.{rider_id}
use Rattle.dispatch_engine.proofs.outcome.ListLemmas.{map_pushed}
use Rattle.dispatch_engine.proofs.outcome.lines.rr_lines.Goals as goal

pub loop-first-preserved : goal.loop-first-preserved
loop-first-preserved c =
    let told : ℕ × ℕ → ℕ × ℕ = λ pair. (rider_id c.args.settled.now pair.0, rider_id c.args.settled.now pair.1) in
    map_pushed told c.args.pairs.now c.loop-first.first-index (0, 0) (told (get_or c.args.pairs.now c.loop-first.first-index (0, 0))) _ _ c.loop-first-test.true
    c.loop-first.invariant (rw (← c.id_of.ensures, ← c.id_of-in-loop-first.ensures) c.in_ok-push.ensures.items) refl
