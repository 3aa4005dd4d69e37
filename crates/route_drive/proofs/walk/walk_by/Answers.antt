use Rattle.route_drive.proofs.TreeLemmas.{no_walk, near_unless_never, some_unless}
use Rattle.route_drive.proofs.walk.walk_by.Goals as goal

pub returns-then-time : goal.returns-then-time
returns-then-time c =
    let roads = c.args.network.now in
    let kept = c.keeps.ensures in
    no_walk roads.arcs _ c.args.start c.args.goal c.args.times.now kept.arcs kept.few_nodes c.requires.start c.requires.goal c.requires.times c.if-time.true

pub shortest_tree-requires-clause-near : goal.shortest_tree-requires-clause-near
shortest_tree-requires-clause-near c =
    let roads = c.args.network.now in
    let kept = c.keeps.ensures in
    near_unless_never roads.arcs _ c.args.start c.args.goal c.args.times.now kept.arcs kept.few_nodes c.requires.start c.requires.goal c.requires.times
    (λ e. c.if-time.false e)

pub unwrap-number-requires : goal.unwrap-number-requires
unwrap-number-requires c =
    let one = c.in_ok-shortest_tree.ensures.0.marked c.args.goal c.in_ok-shortest_tree.ensures.2 in
    some_unless c.number_of.result _ c.number_of.ensures.none (λ none. none one.0 one.1 one.2)
