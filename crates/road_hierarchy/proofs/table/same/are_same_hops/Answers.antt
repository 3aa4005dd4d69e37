use Rattle.std.proofs.Common.{arith}
use Rattle.road_hierarchy.proofs.table.Hops.{same_all}
use Rattle.road_hierarchy.proofs.table.same.are_same_hops.Goals as goal

pub returns : goal.returns
returns c = λ _. same_all c.args.a.now c.args.b.now c.loop-place.place (omega (arith, c.if-a-b.false))
    (omega (arith, c.loop-place-test.false, c.loop-place.auto.place-end)) c.loop-place.invariant
