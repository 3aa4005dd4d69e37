use Rattle.request_book.proofs.lemmas.LawLemmas.{reached-consistent}
use Rattle.request_book.proofs.laws.seats_always_suffice.Goals as goal

pub returns : goal.returns
returns c nodes wait vehicles entries fleet = (reached-consistent nodes wait vehicles entries fleet).seats
