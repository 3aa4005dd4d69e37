use Rattle.std.proofs.Common.{◌≡◌, ℕ, ◌<◌, ◌^◌, length, sym, ap, ◌∙◌, subst, arith, List, All}
use Rattle.route_drive.proofs.Common.{IsNode, Roads}
use Rattle.route_drive.proofs.EntryLemmas.{counts_are}
use Rattle.route_drive.proofs.counts.counts_of.Goals as goal

pub worst_delay-worst-requires : goal.worst_delay-worst-requires
worst_delay-worst-requires c = record {
  named = subst (λ (nodes : List ℕ). All (λ r. IsNode nodes r.origin × IsNode nodes r.destination) c.args.book.now.state.riders)
      (c.requires.nodes ∙ sym (ap (λ (roads : Roads). roads.nodes) c.in_ok-arcs.ensures)) c.keeps.ensures.named.riders;
}

pub returns-in-Ok : goal.returns-in-Ok
returns-in-Ok c = λ entries are.
    let picked = c.args.served.now.picked in
    let dropped = c.args.served.now.dropped in
    let picks : c.len.result ≡ length picked.items = (let is = c.len.ensures in let ok = picked.ok.0 in omega (arith, is, ok)) in
    let drops : c.len-in-Ok.result ≡ length dropped.items = (let is = c.len-in-Ok.ensures in let ok = dropped.ok.0 in omega (arith, is, ok)) in
    let few : c.len.result < 2 ^ 64 = (let is = c.len.ensures in let small = picked.small in omega (arith, is, small)) in
    let less : c.len-in-Ok.result < 2 ^ 64 = (let is = c.len-in-Ok.ensures in let small = dropped.small in omega (arith, is, small)) in
    let delays = rw (c.deref.ensures.value, c.in_ok-arcs.ensures) at c.in-Ok.ensures in
    counts_are c.args.network.now c.args.book.now.state.riders c.args.served.now entries c.len.result c.len-in-Ok.result c.worst_wait.result c.in-Ok.delay
    delays.0
    picks few drops less (rw c.deref-in-Ok.ensures.value at c.worst_wait.ensures) delays.1 delays.2 are
