use Rattle.std.proofs.Common.{◌≡◌, ◌-◌, sym, ap₂, ◌∙◌, refl, arith}
use Rattle.plan_rules.proofs.Common.{row_at, row_cmp, graph_of}
use Rattle.plan_rules.proofs.lemmas.GraphLemmas.{row_read}
use Rattle.plan_rules.proofs.RowLemmas.{first_unordered, not_less_index}
use Rattle.plan_rules.proofs.row_order.first_out_of_order.Goals as goal

pub returns-then-ne-clause-found : goal.returns-then-ne-clause-found
returns-then-ne-clause-found c =
    let g = graph_of c.args.parts.now in
    let k = c.loop-k.k in
    let a : c.index.result.now ≡ row_at g (k - 1) = row_read g g.rows (k - 1) c.index.result.now refl (omega arith) c.index.ensures in
    let b : c.index-in-loop-k.result.now ≡ row_at g k = row_read g g.rows k c.index-in-loop-k.result.now refl (omega arith) c.index-in-loop-k.ensures in
    let compared = c.compare_rows.ensures ∙ ap₂ row_cmp a b in
    first_unordered g k (omega arith) (omega arith) c.loop-k.invariant
    (λ h. not_less_index c.compare_rows.result (sym c.ne.ensures ∙ c.if-ne.true) (compared ∙ h))
