use Rattle.std.proofs.Common.{rules, ◌<◌, length, sym, ap, ◌∙◌, subst}
use Rattle.seat_lock.proofs.KeepsTurns.{looks}
use Rattle.seat_lock.proofs.steps.wait_turn.Goals as goal

pub load-requires : goal.load-requires
load-requires g c = let same = c.loop.invariant.1 in let w = c.requires.waits in (
  search rules,
  search rules,
  looks _ _ _ _ _ _ _ _ w.0 (ap (λ m. m.0.stage) same ∙ w.2) (subst (λ m. 0 < length m.0.claims) (sym same) c.requires.claims)
      (ap (λ m. m.1) same ∙ c.requires.empty_handed),
)
