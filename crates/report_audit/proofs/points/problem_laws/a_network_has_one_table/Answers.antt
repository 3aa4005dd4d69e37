use Rattle.report_audit.proofs.lemmas.points.TableLemmas.{one_table}
use Rattle.report_audit.proofs.points.problem_laws.a_network_has_one_table.Goals as goal

pub returns : goal.returns
returns c = λ arcs places times others are also. one_table arcs places times others are.points also.points are.cells also.cells
