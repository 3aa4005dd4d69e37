use Rattle.std.proofs.Common.{◌≡◌, ℕ, [], ◌∷◌, Option, Some, None, ap, ◌∙◌, arith, vec_len, nat_le, length, if◌then◌else◌}
use Rattle.request_book.proofs.Common.{
  BookRefusal,
  PoolFull,
  BookFull,
  first_of,
  duplicate_rider,
  unknown_node,
  same_place,
  pool_full,
  book_full,
  find_rider,
  pool_count,
}
use Rattle.request_book.proofs.lemmas.register.IndexLemmas.{length-pool}
use Rattle.request_book.proofs.register.Register.submit_refusal.Goals as goal

pub returns : goal.returns
returns c =
    let g = c.args.self.now in
    let h = c.requires.indexed in
    let r = c.args.new.now in
    let nodes = c.args.nodes.now.names in
    let pool : vec_len g.pool ≡ pool_count g.riders.items = omega (arith, g.pool.ok.0, length-pool g.pool.items g.riders.items h.pool_rise h.riders h.pool) in
    let riders : vec_len g.riders ≡ length g.riders.items = omega (arith, g.riders.ok.0) in
    let full : ℕ → Option BookRefusal = λ n. if nat_le 1000 n then Some PoolFull else None in
    let most : ℕ → Option BookRefusal = λ n. if nat_le 100000 n then Some BookFull else None in
    let e1 : c.duplicate_rider.result ≡ duplicate_rider (find_rider r.id g.riders.items) = c.duplicate_rider.ensures ∙ ap duplicate_rider c.rider.ensures in
    let e2 : c.unknown_node.result ≡ unknown_node nodes r.origin = c.unknown_node.ensures in
    let e3 : c.unknown_node-2.result ≡ unknown_node nodes r.destination = c.unknown_node-2.ensures in
    let e4 : c.same_place.result ≡ same_place r.origin r.destination = c.same_place.ensures in
    let e5 : c.pool_full.result ≡ pool_full g.riders.items = c.pool_full.ensures ∙ ap full (c.len.ensures ∙ pool) in
    let e6 : c.book_full.result ≡ book_full g.riders.items = c.book_full.ensures ∙ ap most (c.len-2.ensures ∙ riders) in
    let list : (c.duplicate_rider.result ∷ c.unknown_node.result ∷ c.unknown_node-2.result ∷ c.same_place.result ∷ c.pool_full.result ∷ c.book_full.result ∷ [])
    ≡ (duplicate_rider (find_rider r.id g.riders.items) ∷ unknown_node nodes r.origin ∷ unknown_node nodes r.destination ∷ same_place r.origin r.destination ∷
    pool_full g.riders.items ∷ book_full g.riders.items ∷ []) = cc in
    c.first_of.ensures ∙ ap first_of list
