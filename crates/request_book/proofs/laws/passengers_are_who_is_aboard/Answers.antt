use Rattle.request_book.proofs.Common.{opening, state_after}
use Rattle.request_book.proofs.lemmas.LawLemmas.{reached-consistent, passengers-exactly}
use Rattle.request_book.proofs.laws.passengers_are_who_is_aboard.Goals as goal

pub returns : goal.returns
returns c nodes wait vehicles entries vehicle rider fleet =
    passengers-exactly (state_after nodes wait (opening vehicles) entries) vehicle rider (reached-consistent nodes wait vehicles entries fleet)
