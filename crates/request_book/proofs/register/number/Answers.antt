use Rattle.std.proofs.Common.{Result, Ok, Err, ◌∙◌, IsOk, IfOk}
use Rattle.request_book.proofs.Common.{false≢true}
use Rattle.request_book.proofs.lemmas.register.RegisterLemmas.{inserted}
use Rattle.request_book.proofs.register.number.Goals as goal

-- what holds of the value of an `Ok`, where it doesn't speak of that value
if_ok : {A E : Type 0} (r : Result A E) (P : Type 0) → IsOk r → IfOk r (λ _. P) → P
if_ok (Ok x) P done h = h
if_ok (Err e) P done h = absurd (false≢true done)

pub returns-clause-names : goal.returns-clause-names
returns-clause-names c =
    if_ok c.number.result _ (c.number.ensures.sure c.requires.room) (rw c.get.ensures.value at c.number.ensures.names) ∙
    inserted c.args.ids.now.names c.args.rider c.requires.new
