use Rattle.request_book.proofs.lemmas.LawLemmas.{positions-count}
use Rattle.request_book.proofs.laws.positions_count_entries.Goals as goal

pub returns : goal.returns
returns c = positions-count
