use Rattle.std.proofs.Common.{rules, ◌∷◌, sym, ap, ◌∙◌, Some}
use Rattle.seat_lock.proofs.Common.{rest}
use Rattle.seat_lock.proofs.steps.take_out.Goals as goal

pub exchange-requires : goal.exchange-requires
exchange-requires g c = let b = c.requires.holds.0 in let is = c.requires.holds.1 in (search rules, (Some b, is ∙ ap (λ r. (0, Some b) ∷ r) (sym (ap rest is))))
