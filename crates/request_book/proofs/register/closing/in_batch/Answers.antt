use Rattle.std.proofs.Common.{◌∙◌, rules}
use Rattle.request_book.proofs.Common.{answers_always}
use Rattle.request_book.proofs.lemmas.register.CloseLemmas.{keyed_sought}
use Rattle.request_book.proofs.register.closing.in_batch.Goals as goal

pub returns : goal.returns
returns c =
    let at = c.binary_search_by_key.ensures.position (λ r. r.id) (answers_always _ _ _ (λ f a r g h. search rules)) in
    c.is_ok.ensures.value ∙ keyed_sought (λ r. r.id) c.args.rider c.args.batch.now c.binary_search_by_key.result c.requires c.binary_search_by_key.ensures.bound
    at
