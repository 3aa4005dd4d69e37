use Rattle.std.proofs.Common.{◌≡◌, List, Option, ℕ, ◌∙◌, subst, to_z, of_z}
use Rattle.dispatch_engine.proofs.Common.{AreLists, posed_by}
use mir.Syntax.{w128}
use Rattle.std.proofs.lemmas.Int.{to_z-of_z}
use Rattle.dispatch_engine.proofs.outcome.ListLemmas.{good_plan}
use Rattle.dispatch_engine.proofs.solving.planned_of.Goals as goal

pub returns-in-Ok : goal.returns-in-Ok
returns-in-Ok g c =
    let found = c.in_ok-found.found in
    let made = c.list_all.new.planned in
    let p = posed_by c.args.graphs.now in
    let back : to_z w128 (of_z w128 c.bound_of-bound.result) ≡ found.bound = to_z-of_z w128 c.bound_of-bound.result
    (record { sfits = c.bound_of-bound.type_inv }) ∙ c.bound_of-bound.ensures in
    record {
      graph = p.graph;
      edges = p.edges;
      pairs = p.pairs;
      exact = c.requires.exact;
      edges_exact = c.requires.edges_exact;
      pairs_exact = c.requires.pairs_exact;
      holds = good_plan c.args.graphs.now.instance.now.settings.now p found made c.in_ok-found.ensures
          (c.in-Ok.ensures.cost ∙ c.unlisted-planned.ensures.cost) (c.in-Ok.ensures.bound ∙ c.unlisted-planned.ensures.bound ∙ back)
          (c.in-Ok.ensures.tree ∙ c.unlisted-planned.ensures.tree)
          (subst (λ (chosen : List (Option ℕ)). AreLists p chosen made) c.chosen-chosen.ensures c.in-Ok.ensures.lists);
    }
