use Rattle.std.proofs.Common.{codes, inl, [], refl, sym, ap, ◌∙◌, arith}
use Rattle.report_audit.proofs.Common.{HeadLine, fleet_line}
use Rattle.report_audit.proofs.lemmas.lines.WholeHead.{head_fails, line_then}
use Rattle.report_audit.proofs.lemmas.lines.ReadingLemmas.{numbered_below}
use Rattle.report_audit.proofs.lines.head.fleet_behind.Goals as goal

pub returns-in_default-read_numbered : goal.returns-in_default-read_numbered
returns-in_default-read_numbered c = inl (
  refl,
  c.in-Some.line.now,
  c.in-Some.rest.now,
  line_then c.in-Some.ensures refl,
  (λ h. c.in_default-read_numbered.ensures h.0 (omega (arith, h.1)) h.2),
)

pub returns-then-told-vehicles : goal.returns-then-told-vehicles
returns-then-told-vehicles c = (
  c.in-Some.rest.now,
  line_then c.in-Some.ensures (c.in-Some-read_numbered.ensures.1 ∙ ap fleet_line c.if-told-vehicles.true),
  refl,
)

pub returns-else-told-vehicles : goal.returns-else-told-vehicles
returns-else-told-vehicles c =
    let told = c.in-Some-read_numbered.ensures in
    head_fails c.in-Some.line.now c.in-Some.rest.now (HeadLine.fleet c.args.vehicles) [] 4 c.in-Some.ensures
    (c.in-Some-read_numbered.told, omega (arith, told.0), told.1)
    (λ same. c.if-told-vehicles.false (numbered_below (codes "fleet vehicles=") c.in-Some-read_numbered.told c.args.vehicles (omega (arith, told.0))
    (omega arith) (sym told.1 ∙ same)))
