use Rattle.std.proofs.Common.{rules, ◌≡◌, None, sym, ◌∙◌}
use Rattle.report_past.proofs.TakeLemmas.{stands_later, stands_never, stands_same}
use Rattle.report_past.proofs.step.number_of.Goals as goal

pub returns-in-None : goal.returns-in-None
returns-in-None c = stands_same c.args.last c.args.open.now c.args.round c.in-None.is

pub returns-then-is_some : goal.returns-then-is_some
returns-then-is_some c =
    stands_never c.args.last c.args.open.now c.args.round c.in-Some.number c.in-Some.is (sym c.is_some.ensures ∙ c.if-is_some.true)

pub returns-else-is_some : goal.returns-else-is_some
returns-else-is_some c =
    let closed : c.args.open.now ≡ None = search rules in
    stands_later c.args.last c.args.open.now c.args.round c.above.result c.in-Some.number c.in-Some.is closed c.above.ensures
