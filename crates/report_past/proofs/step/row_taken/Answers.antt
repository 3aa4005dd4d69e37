use Rattle.std.proofs.Common.{refl}
use Rattle.report_past.proofs.step.row_taken.Goals as goal

pub returns-in-Ok-true-clause-row : goal.returns-in-Ok-true-clause-row
returns-in-Ok-true-clause-row g c = (refl, refl, c.in-Ok-true.ensures.row c.in-Ok-true.field-0-test)

pub returns-in-Ok-false-clause-refused : goal.returns-in-Ok-false-clause-refused
returns-in-Ok-false-clause-refused g c = λ _. c.in-Ok-false.ensures.none c.in-Ok-false.field-0-test
