use Rattle.std.proofs.Common.{◌≡◌, ◌++◌, List, ℕ, length, ap, ◌∙◌, append_assoc, codes}
use Rattle.dispatch_report.proofs.Common.{IfOk-equal, numbered}
use Rattle.dispatch_report.proofs.head.put_network.Goals as goal

pub returns : goal.returns
returns c =
    let old = c.args.line.now.items in
    let nodes = numbered (codes "network nodes=") c.node_count.result in
    let arcs = numbered (codes " arcs=") c.arc_count.result in
    let whole : c.put_numbered.new.line.items ++ arcs ≡ old ++ (nodes ++ arcs) =
    ap (λ (l : List ℕ). l ++ arcs) c.in_ok-put_numbered.ensures ∙ append_assoc old nodes arcs in
    let counts : old ++ (nodes ++ arcs) ≡ old ++ (numbered (codes "network nodes=") (length c.args.network.now.nodes) ++ numbered (codes " arcs=")
    (length c.args.network.now.arcs)) =
    ap (λ n. old ++ (numbered (codes "network nodes=") n ++ arcs)) c.node_count.ensures
    ∙ ap (λ n. old ++ (numbered (codes "network nodes=") (length c.args.network.now.nodes) ++ numbered (codes " arcs=") n)) c.arc_count.ensures in
    IfOk-equal c.put_numbered-2.result c.put_numbered-2.new.line.items (c.put_numbered.new.line.items ++ arcs)
    (old ++ (numbered (codes "network nodes=") (length c.args.network.now.nodes) ++ numbered (codes " arcs=") (length c.args.network.now.arcs)))
    c.put_numbered-2.ensures (whole ∙ counts)
