use Rattle.std.proofs.Common.{◌≡◌, ℕ, ◌<◌, ◌≤◌, length, sym, ap, ◌∙◌, subst, ⊎_elim, arith}
use Rattle.plan_rules.proofs.Common.{cases_eq, get_or_default, IsTaken, IsTriedBefore, IsApart, rank_of, row_of, parts_of}
use Rattle.plan_rules.proofs.lemmas.GreedyLemmas.{settled_more, greedy_from}
use Rattle.plan_rules.proofs.greedy_plan.take_rows.Goals as goal

pub loop-rank-preserved : goal.loop-rank-preserved
loop-rank-preserved c =
    let g = c.args.graph.now in
    let ranks = c.args.ranks.now in
    let i = c.loop-rank.rank-index in
    let old = c.loop-rank.invariant in
    let row = row_of ranks i in
    let within : row < length g.rows = c.requires.ranking.within i (0, 0, 0) (omega arith) in
    let done = c.take_row.ensures in
    let before : (j : ℕ) → j < length g.rows → IsTaken g c.loop-rank.chosen j → rank_of g j ≤ rank_of g row =
    λ j low taken. old.earlier j i low taken (omega arith) (omega arith) in
    record {
      selection = done.selection;
      earlier = λ j p low taken a b.
          ⊎_elim
          (λ (was : IsTaken g c.loop-rank.chosen j). old.earlier j p low was (omega (arith, a)) b)
          (λ (new : j ≡ row).
          let rank : rank_of g j ≡ rank_of g row = ap (rank_of g) new in
          let rise : rank_of g row ≤ rank_of g (row_of ranks p) = c.requires.ranking.sorted i p (0, 0, 0) (omega (arith, a)) b in
          omega arith)
          (done.adds j low taken);
      settled = λ p l apart.
          ⊎_elim
          (λ (here : p ≡ i).
          let same : row ≡ row_of ranks p = ap (row_of ranks) (sym here) in
          subst (IsTaken g c.take_row.new.chosen) same
          (settled_more g c.loop-rank.chosen c.take_row.new.chosen row c.requires.good within before done.keeps done.settled
          (λ j low early taken. subst (IsApart g j) (sym same) (apart j low (subst (IsTriedBefore g j) same early) taken))))
          (λ (other : p ≡ i → ⊥).
          done.keeps _ (old.settled p (omega (arith, l)) (λ j low early taken. apart j low early (done.keeps j taken))))
          (cases_eq p i);
    }

pub returns-clause-greedy : goal.returns-clause-greedy
returns-clause-greedy c =
    let g = c.args.graph.now in
    let ranks = c.args.ranks.now in
    greedy_from g c.loop-rank.chosen c.loop-rank.served c.requires.good c.loop-rank.invariant.selection
    (λ k l apart.
    let w = c.requires.ranking.all k l in
    let at = get_or_default ranks (w.0) (0, 0, 0) (parts_of g k) (w.1) ∙ w.2 in
    let number : row_of ranks (w.0) ≡ k = ap (λ (rank : ℕ × ℕ × ℕ). rank.2) at in
    subst (IsTaken g c.loop-rank.chosen) number
    (c.loop-rank.invariant.settled (w.0) (omega (arith, w.1))
    (λ j low early taken. subst (IsApart g j) (sym number) (apart j low (subst (IsTriedBefore g j) number early) taken))))
