use Rattle.std.proofs.Common.{◌≡◌, ◌∷◌, [], take}
use Rattle.bound_checker.proofs.Common.{every_row, least_leaf, ReadsTo, places_read, coming_of, IsReady}
use Rattle.bound_checker.proofs.checker.check.Given as goal

abbrev pub invariant-loop-place : goal.invariant-loop-place
invariant-loop-place l = record {
  reads : ReadsTo l.graph (every_row ∷ []) (take l.place l.tree) (coming_of l.graph l.walk.ended l.walk.decisions.items);
  least : l.walk.least ≡ least_leaf l.graph (places_read l.graph (take l.place l.tree));
  ready : IsReady l.graph l.walk;
}
