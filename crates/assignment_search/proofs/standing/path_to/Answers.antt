use Rattle.std.proofs.Common.{◌≡◌, ◌<◌, ℕ, suc, length, get_or, take, [], ◌∷◌, ◌+◌, List, sym, ◌∙◌, subst, arith, add-one}
use Rattle.assignment_search.proofs.Common.{get_or_read, Usable, every_row, ReadsTo, IsSoundNode, coming_after, standing_of, Node, Dead}
use Rattle.plan_rules.proofs.lemmas.PathLemmas.{coming_start, path_none}
use Rattle.assignment_search.proofs.StandingLemmas.{next_of, head_is, tail_is}
use Rattle.assignment_search.proofs.standing.path_to.Goals as goal

pub loop-k-init : goal.loop-k-init
loop-k-init c = record {
  reads = coming_start c.args.graph.now c.new-path.result c.new-path.ensures;
  path = path_none c.args.graph.now c.new-path.result c.new-path.ensures;
}

pub loop-k-preserved : goal.loop-k-preserved
loop-k-preserved c =
    let g = c.args.graph.now in
    let nodes : List Node = c.args.tree.now.nodes.items in
    let k = c.loop-k.k in
    let old = c.loop-k.path in
    let new = c.follow.new.path in
    let node : Node = c.index.result.now in
    let below : suc k < length nodes = omega (arith, c.loop-k-test.true, c.requires.place) in
    let low : k < length nodes = omega (arith, below) in
    let here : node ≡ get_or nodes k Dead = get_or_read nodes k node low c.index.ensures Dead in
    let w = next_of g nodes (every_row ∷ []) [] ((standing_of g old).usable ∷ (standing_of g old).coming) k c.requires.sound low c.loop-k.invariant.reads in
    let u_is : (standing_of g old).usable ≡ w.usable = head_is (standing_of g old).usable w.usable (standing_of g old).coming w.later w.here in
    let l_is : (standing_of g old).coming ≡ w.later = tail_is (standing_of g old).usable w.usable (standing_of g old).coming w.later w.here in
    let after : ReadsTo g (every_row ∷ []) (take (suc k) nodes) (coming_after g w.usable (get_or nodes k Dead) w.later) = w.after in
    let next = next_of g nodes (every_row ∷ []) [] (coming_after g w.usable (get_or nodes k Dead) w.later) (suc k) c.requires.sound below after in
    let same : coming_after g (standing_of g old).usable node (standing_of g old).coming ≡ coming_after g w.usable (get_or nodes k Dead) w.later =
    λ i. coming_after g (u_is i) (here i) (l_is i) in
    let stands : (standing_of g new).usable ∷ (standing_of g new).coming ≡ next.usable ∷ next.later =
    c.in_ok-follow.ensures.next g next.usable next.later (same ∙ next.here) in
    let sound : IsSoundNode g (standing_of g old).usable node =
    subst (λ (u : Usable). IsSoundNode g u node) (sym u_is) (subst (λ (n : Node). IsSoundNode g w.usable n) (sym here) w.sound) in
    record {
      reads = subst (λ (us : List Usable). ReadsTo g (every_row ∷ []) (take (k + 1) nodes) us) (next.here ∙ sym stands)
          (subst (λ (n : ℕ). ReadsTo g (every_row ∷ []) (take n nodes) (coming_after g w.usable (get_or nodes k Dead) w.later)) (sym (add-one k)) after);
      path = c.in_ok-follow.ensures.path g c.vehicle_count-count.ensures.good sound c.loop-k.invariant.path;
    }
