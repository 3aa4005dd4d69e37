use Rattle.std.proofs.Common.{sym, subst}
use Rattle.assignment_search.proofs.Common.{usable_of, IsSmallSum, IsJudged}
use Rattle.assignment_search.proofs.ApartLemmas.{value_moved, computed}
use Rattle.assignment_search.proofs.child.inherited_value.Goals as goal

pub returns-then-is_small : goal.returns-then-is_small
returns-then-is_small c =
    let g = c.args.parent.now.graph.now in
    let u = usable_of c.args.parent.now.allowed.now in
    let w = usable_of c.args.allowed.now in
    let ms = c.args.parent.now.multipliers.now in
    let old = c.vehicle_part-old in
    let new = c.vehicle_part-new in
    let parent = c.args.parent.now.judged in
    let is = computed c.args.parent.now.value old.result new.result parent.small old.ensures.small new.ensures.small in
    subst (IsJudged g w ms) (sym is)
    (record {
      sized = parent.sized;
      judged = value_moved g u w ms c.args.vehicle c.args.parent.now.value old.result new.result c.requires.vehicle c.requires.apart parent.judged
          old.ensures.value new.ensures.value;
      small = subst (IsSmallSum 1500) is (c.is_small.ensures c.if-is_small.true);
    })
