use Rattle.std.proofs.Common.{◌++◌, ◌∷◌, [], eqb, get_or, take, sym, ap, ◌∙◌, arith}
use Rattle.request_book.proofs.Common.{list_any, take_more, position-Some}
use Rattle.std.proofs.lemmas.Bool.{eqb-true}
use Rattle.request_book.proofs.lemmas.BookLemmas.{list_any-take}
use Rattle.request_book.proofs.lemmas.register.RegisterLemmas.{eqb_comm, inserted, list_any-agree}
use Rattle.request_book.proofs.book.number_nodes.Goals as goal

pub loop-index-preserved : goal.loop-index-preserved
loop-index-preserved c =
    let nodes = c.args.network.now.nodes in
    let i = c.loop-index.index in
    let k = c.node_at.result in
    let first = position-Some (λ j. eqb k j) nodes i 0 c.node_at.ensures.indexed in
    let new =
    ap (list_any (λ j. eqb j k)) c.loop-index.invariant
    ∙ list_any-agree (λ j. eqb j k) (λ j. eqb k j) (λ j. eqb_comm j k) (take i nodes)
    ∙ list_any-take (λ j. eqb k j) nodes i 0 first.2 (omega (arith, first.0)) in
    (rw c.get.ensures.value at c.in_ok-number.ensures.names)
    ∙ inserted _ k new
    ∙ ap (λ ks. ks ++ k ∷ []) c.loop-index.invariant
    ∙ ap (λ x. take i nodes ++ x ∷ []) (eqb-true k (get_or nodes i 0) first.1)
    ∙ sym (take_more nodes i 0 first.0)
