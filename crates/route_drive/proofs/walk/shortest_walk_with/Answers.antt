use Rattle.std.proofs.Common.{◌≡◌, ◌<◌, length, nat_eq, sym, ◌∙◌}
use Rattle.route_drive.proofs.Common.{index_in}
use Rattle.route_drive.proofs.TreeLemmas.{walk_told, position-is}
use Rattle.route_drive.proofs.walk.shortest_walk_with.Goals as goal

pub returns : goal.returns
returns c =
    let roads = c.args.arcs.now.network.now in
    let kept = c.keeps.ensures in
    let start : index_in c.args.arcs.now.network.now.nodes c.args.from ≡ c.unwrap-start.result =
    position-is (nat_eq c.args.from) roads.nodes c.unwrap-start.result (sym c.index_of.ensures.value ∙ c.unwrap-start.ensures) in
    let end : index_in c.args.arcs.now.network.now.nodes c.args.to ≡ c.unwrap-goal.result =
    position-is (nat_eq c.args.to) roads.nodes c.unwrap-goal.result (sym c.index_of-2.ensures.value ∙ c.unwrap-goal.ensures) in
    let inside : c.unwrap-start.result < length c.args.arcs.now.network.now.nodes = rw c.unwrap-start.ensures at c.index_of.ensures.within in
    let within : c.unwrap-goal.result < length c.args.arcs.now.network.now.nodes = rw c.unwrap-goal.ensures at c.index_of-2.ensures.within in
    walk_told roads c.args.from c.args.to c.unwrap-start.result c.unwrap-goal.result c.run.new.self.seconds.items kept.arcs kept.few_nodes start end inside
    within c.in_ok-run.ensures.times (λ v. v.items) c.walk_by.result (rw c.deref.ensures.value at c.walk_by.ensures)
