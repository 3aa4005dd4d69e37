use Rattle.request_book.proofs.lemmas.LawLemmas.{reached-consistent}
use Rattle.request_book.proofs.laws.riders_have_one_status.Goals as goal

pub returns : goal.returns
returns c nodes wait vehicles entries fleet = (reached-consistent nodes wait vehicles entries fleet).riders_differ
