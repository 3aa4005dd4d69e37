use Rattle.std.proofs.Common.{ℕ, length, ap, arith}
use Rattle.trip_graph.proofs.Common.{travel_time, IsRrEdge}
use Rattle.trip_graph.proofs.lemmas.pairs.Listing.{lists_none, lists_whole}
use Rattle.trip_graph.proofs.Lists.{on_err}
use Rattle.trip_graph.proofs.pairs.rider_rider_graph.all_pairs.Goals as goal

pub loop-first-init : goal.loop-first-init
loop-first-init g c =
    rw c.new-pairs.ensures.items (lists_none (ℕ × ℕ) (λ p. p) (λ a b. (a, b)) (0, 0) (IsRrEdge (travel_time c.args.times.now) c.args.settled.now))

pub returns : goal.returns
returns g c =
    let graph = c.loop-first.invariant in
    let all = ap length c.as_slice-first-end.ensures in
    record {
      right = graph.right;
      order = record { rising = graph.rising; below = λ k d h. (graph.right k d h).below };
      whole = lists_whole (ℕ × ℕ) (λ p. p) (λ a b. (a, b)) (0, 0) (IsRrEdge (travel_time c.args.times.now) c.args.settled.now) c.loop-first.first
          (length c.args.settled.now.riders)
          c.loop-first.pairs.items (omega arith) (λ a b e. let under = e.below in let over = e.within in omega arith) graph;
    }

pub add_first-requires-clause-sound : goal.add_first-requires-clause-sound
add_first-requires-clause-sound g c = c.requires.sound

pub returns-in_err-add_first : goal.returns-in_err-add_first
returns-in_err-add_first g c = on_err c.from_residual.result _ c.from_residual.ensures.0

pub loop-first-preserved : goal.loop-first-preserved
loop-first-preserved g c = c.in_ok-add_first.ensures
