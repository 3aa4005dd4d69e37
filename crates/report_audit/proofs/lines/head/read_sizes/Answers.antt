use Rattle.std.proofs.Common.{codes, arith}
use Rattle.report_audit.proofs.lemmas.lines.HeadLemmas.{arcs_end, field_behind}
use Rattle.report_audit.proofs.lemmas.lines.ReadingLemmas.{same_begin, numbered_once}
use Rattle.report_audit.proofs.lines.head.read_sizes.Goals as goal

pub returns-in_err-nodes : goal.returns-in_err-nodes
returns-in_err-nodes c = rw c.from_residual.ensures (λ sizes is e. c.in_err-nodes.ensures sizes.0 _
    (record { whole = e; lawful = omega (arith, is.0); ends = arcs_end sizes.1 }))

pub returns-in_err-arcs : goal.returns-in_err-arcs
returns-in_err-arcs c =
    rw c.from_residual-in_err-arcs.ensures
    (λ sizes is e. c.in_err-arcs.ensures sizes.1 (omega (arith, is.1)) (same_begin (numbered_once (codes "network nodes=") 18446744073709551615 (omega arith))
    c.in_ok-nodes.ensures sizes.0 _ (omega (arith, is.0)) (arcs_end sizes.1) e).1)

pub returns : goal.returns
returns c =
    let b = c.in_ok-arcs.ensures in
    ((omega (arith, c.in_ok-nodes.ensures.lawful), omega (arith, b.0)), field_behind _ c.in_ok-nodes.ensures b.1)
