use Rattle.std.proofs.Common.{refl, arith}
use Rattle.stop_orders.proofs.search.ahead.late_if_at_once.Goals as goal

pub returns-then-dropped : goal.returns-then-dropped
returns-then-dropped c = rw c.if-dropped.true (tt, refl, omega arith)

pub dropped_at-requires-2-clause-place : goal.dropped_at-requires-2-clause-place
dropped_at-requires-2-clause-place c = c.requires.leg.origin

pub dropped_at-requires-2-clause-free : goal.dropped_at-requires-2-clause-free
dropped_at-requires-2-clause-free c = omega (arith, c.in_ok-pickup.ensures.2, c.requires.free, c.requires.dwell)

pub overflow_add-pickup : goal.overflow_add-pickup
overflow_add-pickup c = record { fits = omega (arith, c.in_ok-pickup.ensures.2, c.requires.free, c.requires.dwell) }

pub returns-in_err-pickup : goal.returns-in_err-pickup
returns-in_err-pickup c = rw (c.from_residual.ensures, c.if-dropped.false, c.if-picked.false) (λ can. omega (arith, c.in_err-pickup.ensures, can.0))

pub returns-then-pickup-leg : goal.returns-then-pickup-leg
returns-then-pickup-leg c = rw (c.if-dropped.false, c.if-picked.false) (λ can. omega (arith, can.1, c.in_ok-pickup.ensures.1, c.if-pickup-leg.true))
