use Rattle.std.proofs.Common.{◌≡◌, ◌+◌, ◌<◌, length, arith, ap, ◌∙◌, ℕ}
use Rattle.std.proofs.lemmas.Grind.{common_steps}
use Rattle.route_drive.proofs.DriveLemmas.{number_after_is}
use Rattle.route_drive.proofs.day_end.number_after.Goals as goal

pub returns : goal.returns
returns c =
    let some : 0 < length c.args.rounds.now = first_of (omega arith, grind (arith, common_steps)) in
    (some, ap (λ (n : ℕ). n + 1) c.number.ensures.value ∙ number_after_is c.args.rounds.now c.index-rounds-rounds.result some c.index-rounds-rounds.is)
