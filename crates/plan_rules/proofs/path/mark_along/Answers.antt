use Rattle.std.proofs.Common.{List, Bool, false, length, get_or, sym, ap, ◌∙◌, arith}
use Rattle.plan_rules.proofs.Common.{Standing, Decision}
use Rattle.std.proofs.Math.ListN.{length-set}
use Rattle.plan_rules.proofs.lemmas.PathLemmas.{standing_start, along_alone, along_without}
use Rattle.plan_rules.proofs.path.mark_along.Goals.{then-decision, else-decision}
use Rattle.plan_rules.proofs.path.mark_along.Goals as goal

pub loop-decision-init : goal.loop-decision-init
loop-decision-init c = record {
  len = omega (arith, c.requires.len);
  usable = λ k l. c.loop-may.invariant k (omega (arith, c.requires.len, l)) ∙ sym (ap (λ (s : Standing). s.usable k) (standing_start c.args.graph.now));
}

pub loop-decision-preserved : goal.loop-decision-preserved
loop-decision-preserved c =
    let g = c.args.graph.now in
    let n = length g.rows in
    let i = c.loop-decision.decision-index in
    let path = c.args.path.now in
    let d : Decision = record { vehicle = 0; row = 0; alone = false } in
    elim c.if-decision.branch [
      | then-decision w ↦ record {
        len = ap length w.usable-is ∙ w.mark_alone.ensures.len ∙ c.loop-decision.invariant.len;
        usable = λ k l. ap (λ (us : List Bool). get_or us k false) w.usable-is ∙ along_alone g path i n d c.loop-decision.usable w.mark_alone.new.usable
            (omega arith) w.if-decision.true c.loop-decision.invariant.usable w.mark_alone.ensures.usable k l;
      }
      | else-decision w ↦
          let own = c.requires.path i d (omega arith) in
          record {
            len = ap length w.usable-is ∙ length-set _ _ _ ∙ c.loop-decision.invariant.len;
            usable = λ k l. ap (λ (us : List Bool). get_or us k false) w.usable-is ∙ along_without g path i n d c.loop-decision.usable (omega arith)
                w.if-decision.false (omega (arith, own.1.within, c.loop-decision.invariant.len)) c.loop-decision.invariant.usable k l;
          }
    ]
