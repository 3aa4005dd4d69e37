use Rattle.std.proofs.Common.{arith}
use Rattle.std.proofs.lemmas.Bool.Decides.{nat_tests}
use Rattle.road_hierarchy.proofs.table.cells.are_written.Goals as goal

pub returns : goal.returns
returns c = λ _ k d lt is. absurd (let other = c.if-contains.ensures.cases k d (omega arith) lt in grind (arith, nat_tests, other, is))
