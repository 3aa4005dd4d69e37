use Rattle.std.proofs.Common.{◌≡◌, filter, take}
use Rattle.road_hierarchy.specs.work.sweeps.Marks.{is_marked}
use Rattle.road_hierarchy.proofs.sweeps.marks.leaving_marked.Given as goal

abbrev pub invariant-loop-arc : goal.invariant-loop-arc
invariant-loop-arc l = l.part.items ≡ filter (λ arc. is_marked l.marks arc.from) (take l.arc-index l.arcs)
