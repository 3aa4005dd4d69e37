use Rattle.request_book.proofs.lemmas.LawLemmas.{rounds-join}
use Rattle.request_book.proofs.laws.rounds_join.Goals as goal

pub returns : goal.returns
returns c = rounds-join
