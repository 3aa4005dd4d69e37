use Rattle.std.proofs.Common.{ℕ, List, All, Contains, refl, subst}
use Rattle.dispatch_engine.proofs.lemmas.outcome.PointLemmas.{named_known}
use Rattle.single_calls.proofs.solving.solved_by.Goals as goal

pub solved_with-requires : goal.solved_with-requires
solved_with-requires g c =
    let nodes = c.args.solver.now.network.now.nodes in
    let known = named_known c.args.snapshot.now nodes c.in-Ok.points c.in-Ok.ensures.points
    (subst (λ (points : List ℕ). All (λ node. Contains nodes node) points) c.nodes.ensures.nodes (c.if-are_known.ensures.0 refl)) in
    (c.type_bounds.sync-W, (c.type_bounds.sync-D, (c.type_bounds.sync-G, (c.type_bounds.sync-typeof-rt, known))))
