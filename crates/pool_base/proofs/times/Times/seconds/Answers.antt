use Rattle.pool_base.proofs.lemmas.TravelTimeLemmas.{cell_of-read}
use Rattle.pool_base.proofs.times.Times.seconds.Goals as goal

pub returns : goal.returns
returns c =
    let t = c.args.self.now in
    cell_of-read t.points t.cells.items c.args.a c.args.b _ t.table c.requires.from c.requires.to c.index.ensures
