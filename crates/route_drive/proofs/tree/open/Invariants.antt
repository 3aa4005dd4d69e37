use Rattle.route_drive.proofs.Common.{AreHopsOpened, Grows, IsTree}
use Rattle.route_drive.proofs.tree.open.Given as goal

abbrev pub invariant-loop-hop : goal.invariant-loop-hop
invariant-loop-hop l = record {
  tree : IsTree l.network.arcs l.times l.tree.seen.items l.tree.found.items;
  grows : Grows l.initial.tree.seen.items l.tree.seen.items l.initial.tree.found.items l.tree.found.items;
  opened : AreHopsOpened l.hop-items l.hop-index l.here l.times l.most l.tree.seen.items;
}
