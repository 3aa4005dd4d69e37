use Rattle.std.proofs.Common.{List, Bool, false, length, get_or, sym, ap, ◌∙◌, arith}
use Rattle.bound_checker.proofs.Common.{Standing, Decision, standing_start, along_alone, along_without}
use Rattle.std.proofs.Math.ListN.{length-set}
use Rattle.bound_checker.proofs.decisions.mark_allowed.Goals.{then-decision, else-decision}
use Rattle.bound_checker.proofs.decisions.mark_allowed.Goals as goal

pub loop-decision-init : goal.loop-decision-init
loop-decision-init c = record {
  len = omega (arith, c.requires.len);
  allowed = λ k l. c.loop-mark.invariant k (omega (arith, c.requires.len, l)) ∙ sym (ap (λ (s : Standing). s.usable k) (standing_start c.args.graph.now));
}

pub loop-decision-preserved : goal.loop-decision-preserved
loop-decision-preserved c =
    let g = c.args.graph.now in
    let n = length g.rows in
    let i = c.loop-decision.decision-index in
    let path = c.args.decisions.now in
    let d : Decision = record { vehicle = 0; row = 0; alone = false } in
    elim c.if-decision.branch [
      | then-decision w ↦ record {
        len = ap length w.allowed-is ∙ w.keep_alone.ensures.len ∙ c.loop-decision.invariant.len;
        allowed = λ k l. ap (λ (us : List Bool). get_or us k false) w.allowed-is ∙ along_alone g path i n d c.loop-decision.allowed w.keep_alone.new.allowed
            (omega arith) w.if-decision.true c.loop-decision.invariant.allowed w.keep_alone.ensures.allowed k l;
      }
      | else-decision w ↦
          let own = c.requires.path i d (omega arith) in
          record {
            len = ap length w.allowed-is ∙ length-set _ _ _ ∙ c.loop-decision.invariant.len;
            allowed = λ k l. ap (λ (us : List Bool). get_or us k false) w.allowed-is ∙ along_without g path i n d c.loop-decision.allowed (omega arith)
                w.if-decision.false (omega (arith, own.1.within, c.loop-decision.invariant.len)) c.loop-decision.invariant.allowed k l;
          }
    ]
