use Rattle.report_audit.proofs.lemmas.points.SortedLemmas.{same_rising}
use Rattle.report_audit.proofs.points.problem_laws.a_snapshot_has_one_list_of_points.Goals as goal

pub returns : goal.returns
returns c = λ b points others are also. same_rising points others are.rise also.rise
    (λ node found. (also.named node).1 ((are.named node).0 found)) (λ node found. (are.named node).1 ((also.named node).0 found))
