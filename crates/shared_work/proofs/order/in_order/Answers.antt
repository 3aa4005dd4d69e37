use Rattle.std.proofs.Common.{rules, arith, ◌≡◌, map}
use Rattle.std.proofs.lemmas.List.Sorted.{IsNonDecreasingBy-from_sort_by_key}
use Rattle.shared_work.proofs.Placing.{outs_placed}
use Rattle.shared_work.proofs.order.in_order.Goals as goal

pub returns : goal.returns
returns g c = λ pieces job rights once.
    let s = c.sort_unstable_by_key.ensures in
    let outs : c.in_ok-outs.outs.items ≡ map (λ d. d.out) c.sort_unstable_by_key.new.self.items = search rules in
    let rises = IsNonDecreasingBy-from_sort_by_key (λ d. d.piece) _ s.sorted (λ a r q k. search rules) in
    let placed = outs_placed pieces (g.J.Job.right job) c.args.done.items c.sort_unstable_by_key.new.self.items _ s.permutation rises outs rights once in
    (omega (arith, placed.0, c.in_ok-outs.outs.ok.0), placed.1)
