use Rattle.std.proofs.Common.{◌≡◌, get_or, inl, inr}
use Rattle.travel_times.proofs.Common.{get_or_read}
use Rattle.travel_times.proofs.labels.Merging.{no_hub, merge_ahead, merge_back, merge_both, merged}
use Rattle.travel_times.proofs.labels.in_common.least_in_common.Goals as goal

pub loop-i-preserved-then-near-far : goal.loop-i-preserved-then-near-far
loop-i-preserved-then-near-far c =
    let ahead : c.index-forward-i.result ≡ get_or c.args.forward.now c.loop-i.i no_hub = get_or_read c.args.forward.now c.loop-i.i c.index-forward-i.result
    c.loop-i-test.true c.index-forward-i.is no_hub in
    let back : c.index-backward-j.result ≡ get_or c.args.backward.now c.loop-i.j no_hub = get_or_read c.args.backward.now c.loop-i.j c.index-backward-j.result
    c.if-j-backward.true c.index-backward-j.is no_hub in
    merge_ahead c.requires.forward c.requires.backward c.loop-i.invariant c.loop-i-test.true c.if-j-backward.true
    (rw (c.node.ensures, c.node-in-loop-i.ensures, ahead, back) at c.if-near-far.true)

pub loop-i-preserved-then-far-near : goal.loop-i-preserved-then-far-near
loop-i-preserved-then-far-near c =
    let ahead : c.index-forward-i.result ≡ get_or c.args.forward.now c.loop-i.i no_hub = get_or_read c.args.forward.now c.loop-i.i c.index-forward-i.result
    c.loop-i-test.true c.index-forward-i.is no_hub in
    let back : c.index-backward-j.result ≡ get_or c.args.backward.now c.loop-i.j no_hub = get_or_read c.args.backward.now c.loop-i.j c.index-backward-j.result
    c.if-j-backward.true c.index-backward-j.is no_hub in
    merge_back c.requires.forward c.requires.backward c.loop-i.invariant c.loop-i-test.true c.if-j-backward.true
    (rw (c.node.ensures, c.node-in-loop-i.ensures, ahead, back) at c.if-far-near.true)

pub loop-i-preserved : goal.loop-i-preserved
loop-i-preserved c =
    let ahead : c.index-forward-i.result ≡ get_or c.args.forward.now c.loop-i.i no_hub = get_or_read c.args.forward.now c.loop-i.i c.index-forward-i.result
    c.loop-i-test.true c.index-forward-i.is no_hub in
    let back : c.index-backward-j.result ≡ get_or c.args.backward.now c.loop-i.j no_hub = get_or_read c.args.backward.now c.loop-i.j c.index-backward-j.result
    c.if-j-backward.true c.index-backward-j.is no_hub in
    merge_both c.requires.forward c.requires.backward c.loop-i.invariant c.loop-i-test.true c.if-j-backward.true c.min-best.result c.requires.apart
    (rw (c.node.ensures, c.node-in-loop-i.ensures, ahead, back) at c.if-near-far.false) (rw (c.node.ensures, c.node-in-loop-i.ensures, ahead, back) at
    c.if-far-near.false) (rw (c.seconds.ensures, c.seconds-else-far-near.ensures, ahead, back) at c.min-best.ensures)

pub returns-else-j-backward : goal.returns-else-j-backward
returns-else-j-backward c = merged c.args.forward.now c.args.backward.now c.loop-i.i c.loop-i.j c.loop-i.best c.loop-i.invariant (inr c.if-j-backward.false)

pub returns-after-loop-i : goal.returns-after-loop-i
returns-after-loop-i c = merged c.args.forward.now c.args.backward.now c.loop-i.i c.loop-i.j c.loop-i.best c.loop-i.invariant (inl c.loop-i-test.false)
