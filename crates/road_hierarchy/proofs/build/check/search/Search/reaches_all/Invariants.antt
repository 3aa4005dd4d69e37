use Rattle.std.proofs.Common.{ℕ, ◌<◌, List, get_or}
use Rattle.road_network.specs.declared.arc.Arc.{Arc}
use Rattle.road_hierarchy.specs.work.build.Checked.{IsReached}
use Rattle.road_hierarchy.specs.work.build.Labels.{AreLabels}
use Rattle.road_hierarchy.proofs.build.check.search.Search.reaches_all.Given as goal

abbrev pub invariant-loop-second : goal.invariant-loop-second
invariant-loop-second l = (arcs : List Arc) → AreLabels arcs l.first.to l.first.from l.self.current l.self.labels.items → (k : ℕ) (d : Arc)
    → k < l.second-index → IsReached arcs l.first (get_or l.ups k d)
