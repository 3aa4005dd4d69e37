use Rattle.std.proofs.Common.{◌+◌, All, get_or, arith}
use Rattle.plan_rules.proofs.Common.{parts_of, rank_of}
use Rattle.std.proofs.lemmas.List.Sorted.{All-permutation, Contains-permutation, IsNonDecreasingBy-from_all_adjacent}
use Rattle.plan_rules.proofs.lemmas.GreedyLemmas.{IsOfRow, in_order, of_rows}
use Rattle.plan_rules.proofs.greedy_plan.ranking.Goals as goal

pub returns : goal.returns
returns c =
    let g = c.args.graph.now in
    let ranks = c.in_ok-ranks.ranks.items in
    let sorted = c.sort.new.self.items in
    let are = c.in_ok-ranks.ensures.ranks in
    let of : All (IsOfRow g) sorted = All-permutation (IsOfRow g) ranks sorted c.sort.ensures.permutation (of_rows g ranks are) in record {
      within = λ k d l. (of k d l).0;
      all = λ k l. Contains-permutation ranks sorted (parts_of g k) c.sort.ensures.permutation (k, omega (arith, l, are.each), are.parts k l (parts_of g k));
      sorted = IsNonDecreasingBy-from_all_adjacent (λ rank. rank_of g rank.2) sorted
          (λ k d lt. in_order g (get_or sorted k d) (get_or sorted (k + 1) d) c.ranks_of.ensures.good (of k d (omega (arith, lt))) (of (k + 1) d lt)
          (c.in_ok-sort.ensures.sorted k d (omega arith) lt));
    }
