use Rattle.std.proofs.Common.{ℕ, false, replicate, sym, ap, ◌∙◌, subst, arith}
use Rattle.dispatch_engine.proofs.Common.{MarksServed}
use Rattle.plan_rules.proofs.lemmas.ServedLemmas.{served_at_first}
use Rattle.dispatch_engine.proofs.outcome.left.chosen_marks.Goals as goal

pub loop-vehicle-init : goal.loop-vehicle-init
loop-vehicle-init c =
    let g = c.args.graph.now in
    let none = c.in_ok-marks.ensures.items_if_clones_equal (λ y e. e) ∙ ap (λ (n : ℕ). replicate n false) c.rider_count.ensures.value in
    subst (MarksServed g c.args.chosen.now 0) (sym none) (served_at_first g c.args.chosen.now g.riders (omega arith))
