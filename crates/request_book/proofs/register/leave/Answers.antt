use Rattle.std.proofs.Common.{ℕ, List, Result, Ok, Err, subst, sym, ◌∙◌}
use Rattle.request_book.proofs.Common.{IsBinarySearchResult}
use Rattle.std.specs.Ordering.{nat_cmp}
use Rattle.request_book.proofs.lemmas.register.RegisterLemmas.{remove_sought, without_sought}
use Rattle.request_book.proofs.register.leave.Goals as goal

pub returns-in-Ok-clause-items : goal.returns-in-Ok-clause-items
returns-in-Ok-clause-items c =
    let xs = c.args.pool.now.items in
    let x = c.args.rider in
    let Answer : Result ℕ ℕ → List ℕ → Type 0 = λ r ys. IsBinarySearchResult (λ y. nat_cmp y x) ys r in
    c.remove.ensures.items ∙ remove_sought xs x c.requires c.in-Ok.place (subst (Answer (Ok c.in-Ok.place)) c.deref.ensures.value c.in-Ok.ensures.position)

pub returns-in_default-clause-items : goal.returns-in_default-clause-items
returns-in_default-clause-items c =
    let xs = c.args.pool.now.items in
    let x = c.args.rider in
    let at = c.in_default.field-0 in
    let Answer : Result ℕ ℕ → List ℕ → Type 0 = λ r ys. IsBinarySearchResult (λ y. nat_cmp y x) ys r in
    let answer : Answer (Err at) c.deref.result.now = subst (λ r. Answer r c.deref.result.now) c.in_default.is c.binary_search.ensures.position in
    sym (without_sought xs x c.requires at (subst (Answer (Err at)) c.deref.ensures.value answer))
