use Rattle.std.proofs.Common.{◌-◌, sym, ◌∙◌, arith}
use Rattle.std.proofs.lemmas.Bool.{leb-true}
use Rattle.road_hierarchy.proofs.build.check.backed.is_by_way.Goals as goal

pub returns-then-first-arc : goal.returns-then-first-arc
returns-then-first-arc c = λ yes.
    let first = c.in-Some-Some.first in
    let second = c.in-Some-Some.second in
    let fits = leb-true c.in-Some-Some.second.seconds (c.args.arc.seconds - c.in-Some-Some.first.seconds) yes in (
      first,
      second,
      record {
        falls = c.in-Some-Some.ensures.0;
        rises = c.in-Some-Some.ensures'.0;
        starts = c.in-Some-Some.ensures.1;
        meet = c.in-Some-Some.ensures.2 ∙ sym c.in-Some-Some.ensures'.1;
        ends = c.in-Some-Some.ensures'.2;
        before = omega (arith, c.in-Some-Some.ensures.2, c.if-way-arc.false);
        behind = omega (arith, c.in-Some-Some.ensures.2, c.if-way-arc-2.false);
        takes = omega (arith, fits, c.if-first-arc.true);
      },
    )
