use Rattle.std.proofs.Common.{◌≤◌, ◌<◌, arith}
use Rattle.pool_base.specs.TravelTime.{never, longest, cell_of}
use Rattle.pool_base.proofs.times.Times.get.Goals as goal

pub returns-else-seconds : goal.returns-else-seconds
returns-else-seconds c =
    let t = c.args.self.now in
    let is = c.seconds-seconds.ensures in
    let most : cell_of t.points t.cells.items c.args.a c.args.b ≤ never = t.table.times.most c.args.a c.args.b in
    let below : cell_of t.points t.cells.items c.args.a c.args.b < never = omega (arith, is, most, c.if-seconds.false) in
    let short : cell_of t.points t.cells.items c.args.a c.args.b ≤ longest = t.table.times.range c.args.a c.args.b below in
    (is, omega (arith, is, short))
