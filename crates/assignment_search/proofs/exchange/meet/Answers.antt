use Rattle.std.proofs.Common.{◌≡◌, ◌==◌, ℕ, true, get_or, subst, eqb-true}
use Rattle.assignment_search.proofs.Common.{list_any, has_at}
use Rattle.assignment_search.proofs.exchange.meet.Goals as goal

pub loop-rider-init : goal.loop-rider-init
loop-rider-init c = tt

pub loop-rider-preserved : goal.loop-rider-preserved
loop-rider-preserved c = tt

pub returns-then-contains : goal.returns-then-contains
returns-then-contains c = λ _.
    let w = c.if-contains.ensures.cases in
    let r = get_or c.args.first.now c.loop-rider.rider-index 0 in
    let same : get_or c.args.second.now (w.0) 0 ≡ r = eqb-true (get_or c.args.second.now (w.0) 0) r (w.2 0) in (
      r,
      has_at c.args.first.now c.loop-rider.rider-index c.loop-rider-test.true,
      subst (λ (q : ℕ). list_any (λ x. x == q) c.args.second.now ≡ true) same (has_at c.args.second.now (w.0) (w.1)),
    )
