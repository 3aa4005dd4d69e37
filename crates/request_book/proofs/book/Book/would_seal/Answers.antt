use Rattle.std.proofs.Common.{◌≡◌, true, false, Some, ap, ◌∙◌, is_some}
use Rattle.request_book.proofs.Common.{BookView, would_seal, state_of}
use Rattle.request_book.proofs.lemmas.register.StepTable.{would_seal-refused, would_seal-open}
use Rattle.request_book.proofs.book.Book.would_seal.Goals as goal

pub returns-then-is_some : goal.returns-then-is_some
returns-then-is_some c =
    let b = c.self.inside in
    let wait = ap (λ (v : BookView). v.wait) c.self.view_is in
    let state = ap (λ (v : BookView). v.state) c.self.view_is in
    let told = c.is_some.ensures in
    let holds = c.if-is_some.true in
    let some : is_some c.seal_refusal.result ≡ true = cc in
    would_seal-refused b.wait (state_of b.register) c.args.second c.seal_refusal.result c.seal_refusal.ensures some ∙
    (λ i. would_seal (wait i) (state i) c.args.second)

pub returns : goal.returns
returns c =
    let b = c.self.inside in
    let wait = ap (λ (v : BookView). v.wait) c.self.view_is in
    let state = ap (λ (v : BookView). v.state) c.self.view_is in
    let told = c.is_some.ensures in
    let holds = c.if-is_some.false in
    let none : is_some c.seal_refusal.result ≡ false = cc in
    ap Some c.in_ok-batch.ensures
    ∙ would_seal-open b.wait (state_of b.register) c.args.second c.seal_refusal.result c.seal_refusal.ensures none
    ∙ (λ i. would_seal (wait i) (state i) c.args.second)
