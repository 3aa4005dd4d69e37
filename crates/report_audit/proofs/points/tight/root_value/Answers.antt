use Rattle.std.proofs.Common.{◌≡◌, Bool, true, false, List, length, replicate, get_or, ap, ◌∙◌, arith}
use Rattle.report_audit.proofs.Common.{get_or-replicate, usable_of, every_row, rounded_up, Agree, first_fit_value_agrees}
use Rattle.std.proofs.lemmas.Result.{IfOk-weaker}
use Rattle.report_audit.proofs.points.tight.root_value.Goals as goal

pub returns : goal.returns
returns c =
    let g = c.args.graph.now in
    let all : c.deref.result.now ≡ replicate (length c.rows.result.now) true = c.deref.ensures.value ∙
    c.in_ok-usable.ensures.items_if_clones_equal (λ y e. e) in
    let agree : Agree g (usable_of c.deref.result.now) every_row = λ k l.
    ap (λ (xs : List Bool). get_or xs k false) all ∙ get_or-replicate (length c.rows.result.now) k true false
    (let long = ap length c.rows.ensures.value in omega (arith, long, l)) in
    IfOk-weaker c.first_seconds.result _ _ (λ value is. is ∙ ap rounded_up (first_fit_value_agrees g (usable_of c.deref.result.now) every_row agree))
    c.first_seconds.ensures
