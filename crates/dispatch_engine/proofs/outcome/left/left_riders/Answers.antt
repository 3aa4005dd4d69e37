use Rattle.std.proofs.Common.{◌≡◌, ◌==◌, ◌<◌, [], ◌∷◌, ◌++◌, sym, ap, ◌∙◌, arith}
use Rattle.dispatch_engine.proofs.Common.{times_chosen}
use Rattle.dispatch_engine.proofs.lemmas.limits.Promises.{filter_range_below}
use Rattle.dispatch_engine.proofs.lemmas.outcome.LeftLemmas.{left_takes, left_skips, kept_few}
use Rattle.dispatch_engine.proofs.outcome.left.left_riders.Goals.{then-not-index+in_ok-push, else-not-index}
use Rattle.dispatch_engine.proofs.outcome.left.left_riders.Goals as goal

pub loop-rider-preserved : goal.loop-rider-preserved
loop-rider-preserved c =
    let low : c.loop-rider.rider < c.args.graph.now.riders = omega arith in
    elim c.if-not-index.branch [
      | then-not-index+in_ok-push w ↦
          rw (w.left-is, w.in_ok-push.ensures.items)
          (ap (λ v. v ++ c.loop-rider.rider ∷ []) c.loop-rider.invariant
          ∙ sym (left_takes c.args.graph.now c.args.chosen.now c.in_ok-marks.marks.items c.in_ok-marks.ensures c.loop-rider.rider c.index.result.now low
          c.index.ensures w.if-not-index.true))
      | else-not-index w ↦
          rw w.left-is
          (c.loop-rider.invariant
          ∙ sym (left_skips c.args.graph.now c.args.chosen.now c.in_ok-marks.marks.items c.in_ok-marks.ensures c.loop-rider.rider c.index.result.now low
          c.index.ensures w.if-not-index.false))
    ]

pub returns-clause-within : goal.returns-clause-within
returns-clause-within c =
    let end : c.loop-rider.rider ≡ c.args.graph.now.riders = omega arith in
    rw (c.loop-rider.invariant, end) (filter_range_below (λ r. times_chosen c.args.graph.now c.args.chosen.now r == 0) c.args.graph.now.riders)

pub returns-clause-few : goal.returns-clause-few
returns-clause-few c =
    let few = kept_few (λ r. times_chosen c.args.graph.now c.args.chosen.now r == 0) c.loop-rider.rider in
    rw c.loop-rider.invariant (omega arith)
