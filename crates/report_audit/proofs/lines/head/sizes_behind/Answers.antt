use Rattle.std.proofs.Common.{◌≢◌, [], ◌∷◌, sym, ap, ◌∙◌, arith}
use Rattle.std.proofs.lemmas.Bool.Decides.{nat_tests}
use Rattle.report_audit.proofs.Common.{HeadLine}
use Rattle.report_audit.proofs.lemmas.lines.WholeHead.{head_fails, sizes_of_one}
use Rattle.report_audit.proofs.lines.head.sizes_behind.Goals as goal

pub returns-then-ne : goal.returns-then-ne
returns-then-ne c =
    let told = c.in-Some-read_sizes.ensures in
    let other : c.in-Some-read_sizes.told ≢ (c.args.nodes, c.args.arcs) = λ e. grind (arith, nat_tests, c.if-ne.ensures, ap (λ p. p.0) e, ap (λ p. p.1) e) in
    head_fails c.in-Some.line.now c.in-Some.rest.now (HeadLine.sizes (c.args.nodes, c.args.arcs)) (HeadLine.fleet c.args.vehicles ∷ []) 3 c.in-Some.ensures
    (c.in-Some-read_sizes.told, told.0, told.1)
    (λ same. other (sizes_of_one c.in-Some-read_sizes.told (c.args.nodes, c.args.arcs) told.0 (omega arith, omega arith) (sym told.1 ∙ same)))
