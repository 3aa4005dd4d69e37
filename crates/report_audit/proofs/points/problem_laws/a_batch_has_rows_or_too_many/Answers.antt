use Rattle.report_audit.proofs.lemmas.points.GraphLemmas.{graph_or_overflow}
use Rattle.report_audit.proofs.points.problem_laws.a_batch_has_rows_or_too_many.Goals as goal

pub returns : goal.returns
returns c = λ settings tau settled graph is more. graph_or_overflow settings tau settled graph is more
