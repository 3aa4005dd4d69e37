use Rattle.std.proofs.Common.{◌≡◌, ◌<◌, ◌*◌, ◌%◌, ◌^◌, bit_or, ap, ◌∙◌, arith}
use Rattle.stop_orders.proofs.Common.{with_bit}
use Rattle.std.proofs.lemmas.Nat.{pow_below}
use Rattle.stop_orders.proofs.task.done.Done.with_bit.Goals as goal

pub returns : goal.returns
unfolding with_bit
returns c =
    let small : 2 ^ c.args.bit < 2 ^ 32 = pow_below c.args.bit 32 (omega arith) in
    let shifted : 1 * 2 ^ c.args.bit % 2 ^ 32 ≡ 2 ^ c.args.bit = omega arith in
    ap (λ n. bit_or c.self.inside.bits n) shifted ∙ ap (λ n. with_bit n c.args.bit) c.self.view_is
