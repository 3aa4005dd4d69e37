use Rattle.std.proofs.Common.{◌≡◌, length, sym, subst, refl, arith}
use Rattle.plan_rules.proofs.Common.{MarksServed, graph_of}
use Rattle.std.proofs.lemmas.List.{take_at}
use Rattle.plan_rules.proofs.lemmas.HeldLemmas.{holds_more}
use Rattle.plan_rules.proofs.lemmas.PlanLemmas.{held_lawful}
use Rattle.plan_rules.proofs.lemmas.ServedLemmas.{served_at_first}
use Rattle.plan_rules.proofs.held.mark_held.Goals as goal

pub loop-vehicle-init : goal.loop-vehicle-init
loop-vehicle-init c =
    let g = graph_of c.args.parts.now in record {
      marks = subst (MarksServed g g.held 0) (sym (c.in_ok-marks.ensures.items_if_clones_equal (λ y e. e))) (served_at_first g g.held g.riders (omega arith));
      holds = λ v l. absurd (omega (arith, l));
    }

pub loop-vehicle-preserved : goal.loop-vehicle-preserved
loop-vehicle-preserved c =
    let g = graph_of c.args.parts.now in
    let long : length c.mark_held_by.new.marks ≡ c.loop-vehicle.marks.len = omega (arith, c.mark_held_by.auto.marks, c.loop-vehicle.marks.ok.0) in
    record {
      marks = subst (MarksServed g g.held _) (sym (take_at c.mark_held_by.new.marks _ c.loop-vehicle.marks.len long))
          (c.if-not-mark_held_by.ensures.marked refl);
      holds = holds_more g c.loop-vehicle.vehicle c.loop-vehicle.invariant.holds (c.if-not-mark_held_by.ensures.variant.0 refl);
    }

pub returns-clause-held : goal.returns-clause-held
returns-clause-held c = held_lawful (graph_of c.args.parts.now) (omega (arith, c.len-2.ensures, c.if-len-parts.false))
    (λ v l. c.loop-vehicle.invariant.holds v (omega (arith, l)))
