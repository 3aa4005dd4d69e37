use Rattle.std.proofs.Common.{◌∙◌, arith}
use Rattle.input_rows.proofs.live.PieceLemmas.{front-joined}
use Rattle.input_rows.proofs.live.lines.add_front.Goals as goal

pub returns-in-Ok-clause-added : goal.returns-in-Ok-clause-added
returns-in-Ok-clause-added c = c.in-Ok.ensures.items ∙ front-joined c.args.line.now.items c.args.piece.now c.min.result (omega arith) (omega arith)
