use Rattle.travel_times.proofs.lemmas.search.SearchLemmas.{IsNextTaken-set}
use Rattle.travel_times.proofs.search.search.take.Goals as goal

pub returns : goal.returns
returns c = IsNextTaken-set c.args.waiting.now c.args.node c.requires.within c.requires.waits
