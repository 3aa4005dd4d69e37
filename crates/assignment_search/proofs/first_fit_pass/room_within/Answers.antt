use Rattle.std.proofs.Common.{◌≡◌, ap, ◌∙◌, arith}
use Rattle.assignment_search.proofs.Common.{ints, multiplier_sum}
use Rattle.assignment_search.proofs.first_fit_pass.room_within.Goals as goal

pub returns-clause-value : goal.returns-clause-value
returns-clause-value c =
    let sum : c.sum_of_modest-sum.result ≡ multiplier_sum c.args.multipliers.now c.args.trip.now.riders.items =
    c.sum_of_modest-sum.ensures.value ∙ ap (multiplier_sum c.args.multipliers.now) c.as_slice.ensures.value in
    omega (arith, ints)
