use Rattle.report_audit.proofs.lemmas.lines.OneBlock.{block_of_one}
use Rattle.report_audit.proofs.lines.line_laws.a_text_begins_with_one_block.Goals as goal

pub returns : goal.returns
returns c = block_of_one
