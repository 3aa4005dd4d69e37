use Rattle.std.proofs.Common.{[], ◌∷◌, length}
use Rattle.dispatch_report.specs.Block.{row_as_line, trip_as_line, late_as_line, tree_line}
use Rattle.dispatch_report.specs.declared.block_line.BlockLine.TheVariants.{Lapsed, Alone, Shared, Out, Move, Cost, Bound, Nodes}
use Rattle.dispatch_report.proofs.LineLemmas.{asked, block, kind, then_block}
use Rattle.dispatch_report.proofs.block.write_plan.Goals as goal

pub returns : goal.returns
returns g c =
    let plan = c.args.plan.now in
    let served = then_block (kind Lapsed plan.lapsed c.write_list.ensures) (kind late_as_line plan.late c.write_list-2.ensures) in
    let pairs = then_block (then_block served (kind Alone plan.rv c.write_list-3.ensures)) (kind Shared plan.rr c.write_list-4.ensures) in
    let graphs = then_block pairs (kind row_as_line plan.rows c.write_list-5.ensures) in
    let choice = then_block (then_block (kind trip_as_line plan.chosen c.write_list-6.ensures) (kind Out plan.left c.write_list-7.ensures))
    (kind Move plan.moves c.write_list-8.ensures) in
    let value = then_block (block (Cost plan.cost ∷ []) c.write_number.ensures) (block (Bound plan.bound ∷ []) c.write_item.ensures) in
    let counts = then_block value (block (Nodes (length plan.tree) ∷ []) c.write_nodes.ensures) in
    (then_block (then_block (then_block graphs choice) counts) (asked (tree_line plan.rows) plan.tree c.args.proof c.write_tree.ensures)).texts
