use Rattle.std.proofs.Common.{◌≡◌, ℕ, List, Result, Ok, Err, true, ap, ◌∙◌, subst, is_ok}
use Rattle.request_book.proofs.Common.{IsBinarySearchResult, cond-true}
use Rattle.std.specs.List.{insert}
use Rattle.std.specs.Ordering.{nat_cmp}
use Rattle.request_book.proofs.lemmas.register.RegisterLemmas.{insert_sought, present_sought}
use Rattle.request_book.proofs.register.join.Goals.{in-Ok, in-Err}
use Rattle.request_book.proofs.register.join.Goals as goal

pub returns-clause-items : goal.returns-clause-items
returns-clause-items c =
    let xs = c.args.pool.now.items in
    let x = c.args.rider in
    let Answer : Result ℕ ℕ → List ℕ → Type 0 = λ r ys. IsBinarySearchResult (λ y. nat_cmp y x) ys r in
    let done : is_ok c.insert.result ≡ true = c.insert.ensures.succeeds c.requires.room in
    let items : c.insert.new.self.items ≡ insert xs c.match-binary_search.place x = c.insert.ensures.items ∙ cond-true (is_ok c.insert.result) _ _ done in
    elim c.match-binary_search.branch [
      | in-Ok w ↦
          let found = present_sought xs x c.requires.rise w.in-Ok.place (subst (Answer (Ok w.in-Ok.place)) c.deref.ensures.value w.in-Ok.ensures.position) in
          let none = c.requires.new in
          absurd cc
      | in-Err w ↦
          items ∙ ap (λ i. insert xs i x) w.place-is ∙ insert_sought xs x c.requires.rise w.in-Err.place
          (subst (Answer (Err w.in-Err.place)) c.deref.ensures.value w.in-Err.ensures.position)
    ]
