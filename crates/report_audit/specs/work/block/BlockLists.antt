use Rattle.report_audit.specs.block.BlockLists.{BlockLists}
use Rattle.report_audit.specs.declared.block.block_lists.BlockLists.{BlockLists as ReadLists}

-- What is told, by its lists alone.
abbrev pub told_in : ReadLists → BlockLists
told_in t = record {
  batch = t.batch;
  expired = t.expired.items;
  overflow = t.overflow;
  lapsed = t.lapsed.items;
  late = t.late.items;
  rv = t.rv.items;
  rr = t.rr.items;
  rows = t.rows.items;
  chosen = t.chosen.items;
  left = t.left.items;
  moves = t.moves.items;
  cost = t.cost;
  bound = t.bound;
  nodes = t.nodes;
  tree = t.tree.items;
}
