use Rattle.std.proofs.Common.{◌≡◌, [], length, ◌∙◌, arith}
use Rattle.travel_times.proofs.Common.{same_lists, get_or_default}
use Rattle.travel_times.proofs.labels.checked.first_difference.Goals as goal

pub returns-clause-none : goal.returns-clause-none
returns-clause-none c =
    let labels = c.args.labels.now in
    let others = c.args.others.now in
    let ended : length c.args.labels.now ≡ c.loop-node.node = omega (arith, c.loop-node-test.false, c.loop-node.auto.node-end) in
    same_lists labels others c.requires (λ k d h. get_or_default labels k d [] h ∙ c.loop-node.invariant k (omega (arith, h, ended)) ∙
    get_or_default others k [] d (omega (arith, h, c.requires)))
