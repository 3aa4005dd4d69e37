use Rattle.input_rows.proofs.made.ShapeLemmas.{accepted}
use Rattle.input_rows.proofs.made.law.made_inputs_are_accepted.Goals as goal

-- src/made/law.rt:7:1
pub returns : goal.returns
returns c = accepted c.args.shape.now c.args.shape.now.in_range
