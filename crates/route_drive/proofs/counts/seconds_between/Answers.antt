use Rattle.std.proofs.Common.{◌≡◌, ◌<◌, length, slice_index, nat_eq, sym, ◌∙◌, arith}
use Rattle.route_drive.proofs.Common.{get_or_read, index_in}
use Rattle.route_drive.proofs.EntryLemmas.{node_known}
use Rattle.route_drive.proofs.TreeLemmas.{position-is}
use Rattle.route_drive.proofs.counts.seconds_between.Goals as goal

pub unwrap-start-requires : goal.unwrap-start-requires
unwrap-start-requires c = c.index_of.ensures.known.1 (node_known c.args.arcs.now.network.now.nodes c.args.from c.requires.from)

pub unwrap-goal-requires : goal.unwrap-goal-requires
unwrap-goal-requires c = c.index_of-2.ensures.known.1 (node_known c.args.arcs.now.network.now.nodes c.args.to c.requires.to)

pub returns : goal.returns
returns c =
    let roads = c.args.arcs.now.network.now in
    let start : index_in c.args.arcs.now.network.now.nodes c.args.from ≡ c.unwrap-start.result =
    position-is (nat_eq c.args.from) roads.nodes c.unwrap-start.result (sym c.index_of.ensures.value ∙ c.unwrap-start.ensures) in
    let end : index_in c.args.arcs.now.network.now.nodes c.args.to ≡ c.unwrap-goal.result =
    position-is (nat_eq c.args.to) roads.nodes c.unwrap-goal.result (sym c.index_of-2.ensures.value ∙ c.unwrap-goal.ensures) in
    let within : c.unwrap-goal.result < length c.args.arcs.now.network.now.nodes = rw c.unwrap-goal.ensures at c.index_of-2.ensures.within in
    let inside : c.unwrap-goal.result < length c.run.new.self.seconds.items = (let size = c.in_ok-run.ensures.size in omega (arith, size, within)) in
    let read : c.index.result.now ≡ slice_index c.run.new.self.seconds.items c.unwrap-goal.result =
    get_or_read c.run.new.self.seconds.items c.unwrap-goal.result c.index.result.now inside c.index.ensures 0 in
    rw (start, end, read) (c.in_ok-run.ensures.times.near c.unwrap-goal.result within (omega arith))
