use Rattle.pool_base.proofs.lemmas.TravelTimeLemmas.{cell_of-place}
use Rattle.pool_base.proofs.times_check.cell.Goals as goal

pub returns : goal.returns
returns c = cell_of-place c.args.points c.args.cells.now c.args.a c.args.b c.requires.square c.requires.row c.requires.place
