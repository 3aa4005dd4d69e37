use Rattle.report_audit.proofs.lemmas.points.SettledLemmas.{one_settling}
use Rattle.report_audit.proofs.points.problem_laws.a_batch_settles_in_one_way.Goals as goal

pub returns : goal.returns
returns c = λ settings points tau batch settled other rise is also. one_settling settings points rise tau batch settled other is also
