use Rattle.std.proofs.Common.{[], ◌∷◌}
use Rattle.dispatch_report.specs.Block.{lines_of_answer}
use Rattle.dispatch_report.specs.declared.block_line.BlockLine.TheVariants.{Batch, Expired, End}
use Rattle.dispatch_report.proofs.LineLemmas.{block, kind, then_block}
use Rattle.dispatch_report.proofs.block.write_block.Goals as goal

pub returns : goal.returns
returns g c =
    let front = then_block (block (Batch c.args.batch ∷ []) c.write_number.ensures) (kind Expired c.args.outcome.now.expired c.write_list.ensures) in
    let answer = block (lines_of_answer c.args.proof c.args.outcome.now.answer) c.write_answer.ensures in
    (then_block (then_block front answer) (block (End ∷ []) c.write_words.ensures)).texts
