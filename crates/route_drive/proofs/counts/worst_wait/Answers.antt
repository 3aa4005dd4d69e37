use Rattle.std.proofs.Common.{◌≡◌, ◌<◌, ◌≤◌, max, length, map, ap, ◌∙◌, arith, List}
use Rattle.route_drive.proofs.Common.{greatest, ServedRider, waited, take_all}
use Rattle.route_drive.proofs.EntryLemmas.{greatest_more}
use Rattle.route_drive.proofs.counts.worst_wait.Goals as goal

pub loop-served-preserved : goal.loop-served-preserved
loop-served-preserved c =
    let within : c.loop-served.served-index < length c.args.picked.now = omega arith in
    let greater : c.max-worst.result ≡ max c.loop-served.worst c.wait_of.result = c.max-worst.ensures in
    greater ∙ greatest_more (waited c.args.book.now.state.riders) c.args.picked.now c.loop-served.served-index c.served-item.result c.loop-served.worst
    c.wait_of.result within c.served-item.is c.loop-served.invariant c.wait_of.ensures

pub returns : goal.returns
returns c =
    let all : length c.args.picked.now ≤ c.loop-served.served-index = omega arith in
    c.loop-served.invariant ∙ ap (λ (l : List ServedRider). greatest (map (waited c.args.book.now.state.riders) l))
    (take_all c.loop-served.served-index c.args.picked.now all)
