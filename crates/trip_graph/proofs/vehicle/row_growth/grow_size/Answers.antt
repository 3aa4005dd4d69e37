use Rattle.std.proofs.Common.{◌≡◌, ◌+◌, ◌-◌, arith, subst}
use Rattle.trip_graph.specs.work.vehicle.TripGrowth.{serves}
use Rattle.trip_graph.specs.work.vehicle.Level.{IsBelow}
use Rattle.trip_graph.proofs.vehicle.row_growth.grow_size.Goals as goal

pub returns-clause-answer : goal.returns-clause-answer
returns-clause-answer g c =
    let same : c.args.level - 2 + 2 ≡ c.args.level = omega arith in
    rw same at c.grow_rows.ensures.answer

pub grow_first-requires-clause-below : goal.grow_first-requires-clause-below
grow_first-requires-clause-below g c =
    let zero : c.args.level - 1 ≡ 0 = omega (arith, c.if-level-eq1.true) in
    subst (λ n. IsBelow (serves c.args.growth.now) n c.args.rows.now) zero c.requires.below

pub grow_rows-requires-clause-below : goal.grow_rows-requires-clause-below
grow_rows-requires-clause-below g c =
    let same : c.args.level - 1 ≡ c.args.level - 2 + 1 = omega (arith, c.requires.smallest, c.if-level-eq1.false) in
    subst (λ n. IsBelow (serves c.args.growth.now) n c.args.rows.now) same c.requires.below
