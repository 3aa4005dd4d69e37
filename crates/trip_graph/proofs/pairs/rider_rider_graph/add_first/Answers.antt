use Rattle.std.proofs.Common.{ℕ, ◌+◌, length, refl, ap, arith}
use Rattle.trip_graph.proofs.Common.{travel_time, IsRrEdge}
use Rattle.trip_graph.proofs.lemmas.pairs.Listing.{lists_taken, lists_passed, lists_next, lists_skipped}
use Rattle.trip_graph.proofs.Lists.{on_err}
use Rattle.trip_graph.proofs.pairs.rider_rider_graph.add_first.Goals as goal

pub loop-second-init : goal.loop-second-init
loop-second-init g c = record {
  upto = lists_skipped (ℕ × ℕ) (λ p. p) (λ a b. (a, b)) (0, 0) (IsRrEdge (travel_time c.args.times.now) c.args.settled.now) c.args.first 0 (c.args.first + 1)
      c.args.pairs.now.items
      (omega arith) (λ d _ h e. let under = e.below in omega arith) c.requires.upto;
  task = c.task_of_first-task.ensures;
}

pub loop-second-preserved-then-not-branch : goal.loop-second-preserved-then-not-branch
loop-second-preserved-then-not-branch g c = record {
  upto = lists_passed (ℕ × ℕ) (λ p. p) (λ a b. (a, b)) (0, 0) (IsRrEdge (travel_time c.args.times.now) c.args.settled.now) c.args.first c.loop-second.second
      c.loop-second.pairs.items
      (rw c.if-not-branch.true at c.in_ok-is_edge.ensures.edge) c.loop-second.invariant.upto;
  task = c.in_ok-is_edge.ensures.task;
}

pub loop-second-preserved : goal.loop-second-preserved
loop-second-preserved g c = record {
  upto = rw c.in_ok-push.ensures.items (lists_taken (ℕ × ℕ) (λ p. p) (λ a b. (a, b)) (0, 0) (IsRrEdge (travel_time c.args.times.now) c.args.settled.now)
      c.args.first c.loop-second.second c.loop-second.pairs.items
      (c.args.first, c.loop-second.second) refl refl (rw c.if-not-branch.false at c.in_ok-is_edge.ensures.edge) c.loop-second.invariant.upto);
  task = c.in_ok-is_edge.ensures.task;
}

pub returns : goal.returns
returns g c =
    let all = ap length c.as_slice-second-end.ensures in
    lists_next (ℕ × ℕ) (λ p. p) (λ a b. (a, b)) (0, 0) (IsRrEdge (travel_time c.args.times.now) c.args.settled.now) c.args.first c.loop-second.second
    c.loop-second.pairs.items
    (λ d e. let over = e.within in omega arith) c.loop-second.invariant.upto

pub is_edge-requires-clause-sound : goal.is_edge-requires-clause-sound
is_edge-requires-clause-sound g c = c.requires.sound

pub returns-in_err-is_edge : goal.returns-in_err-is_edge
returns-in_err-is_edge g c = on_err c.from_residual.result _ c.from_residual.ensures.0

pub returns-in_err-push : goal.returns-in_err-push
returns-in_err-push g c = on_err c.from_residual-in_err-push.result _ c.from_residual-in_err-push.ensures.0

pub is_edge-requires-clause-within : goal.is_edge-requires-clause-within
is_edge-requires-clause-within g c = omega (arith, c.loop-second-test.true, ap length c.as_slice-second-end.ensures)
