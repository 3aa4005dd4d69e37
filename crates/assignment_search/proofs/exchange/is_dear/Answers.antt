use Rattle.std.proofs.Common.{arith, sym}
use Rattle.std.proofs.Math.Nat.{mul-le-mul}
use Rattle.assignment_search.proofs.ChangeLemmas.{row_read}
use Rattle.assignment_search.proofs.exchange.is_dear.Goals as goal

pub overflow_add-result : goal.overflow_add-result
overflow_add-result c =
    let g = c.args.graph.now in
    let old = row_read g c.rows.result.now c.args.old c.index-rows-old.result c.rows.ensures.good c.rows.ensures.value c.requires.old c.index-rows-old.is in
    let new = row_read g c.rows-2.result.now c.args.row c.index-rows-row.result c.rows.ensures.good c.rows-2.ensures.value c.requires.row c.index-rows-row.is in
    omega (arith, old.0, mul-le-mul c.penalty-penalty.ensures.within (rw (sym c.len-2.ensures.value) at new.1))

pub overflow_add-result-2 : goal.overflow_add-result-2
overflow_add-result-2 c =
    let g = c.args.graph.now in
    let old = row_read g c.rows.result.now c.args.old c.index-rows-old.result c.rows.ensures.good c.rows.ensures.value c.requires.old c.index-rows-old.is in
    let new = row_read g c.rows-2.result.now c.args.row c.index-rows-row.result c.rows.ensures.good c.rows-2.ensures.value c.requires.row c.index-rows-row.is in
    omega (arith, new.0, mul-le-mul c.penalty-penalty.ensures.within (rw (sym c.len.ensures.value) at old.1))
