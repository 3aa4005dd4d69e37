use Rattle.dispatch_report.proofs.LineLemmas.{no_lines}
use Rattle.dispatch_report.proofs.block.write_tree.Goals as goal

pub returns-else-proof : goal.returns-else-proof
returns-else-proof g c = rw c.if-proof.false (no_lines _ _)
