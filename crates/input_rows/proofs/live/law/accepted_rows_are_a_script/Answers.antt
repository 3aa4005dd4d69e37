use Rattle.input_rows.proofs.live.AsScriptLemmas.{accepted-script}
use Rattle.input_rows.proofs.live.law.accepted_rows_are_a_script.Goals as goal

pub returns : goal.returns
returns c = accepted-script
